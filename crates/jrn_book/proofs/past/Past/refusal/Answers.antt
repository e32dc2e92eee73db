use Rattle.std.proofs.Common.{◌≡◌, ◌∙◌, ℤ, ap, of_z, to_z, w64}
use Rattle.std.proofs.lemmas.Int.{to_z-of_z}
use Rattle.day_model.specs.Chart.{accounts_of}
use Rattle.day_model.specs.Refusals.{refusal_of}
use Rattle.jrn_book.specs.Reading.{Read}
use Rattle.jrn_book.proofs.Refused.{refused_by}
use Rattle.jrn_book.proofs.past.Past.refusal.Goals as goal

pub returns : goal.returns
returns c =
    let what = c.args.what.now in
    let b = c.balance_for.result in
    let passed : to_z w64 (of_z w64 b) ≡ b = to_z-of_z w64 b (record { sfits = c.balance_for.type_inv }) in
    c.refuses.ensures.value
    ∙ ap (λ (z : ℤ). refusal_of (accounts_of c.self.inside.accounts) z what) passed
    ∙ ap (λ (r : Read). refusal_of (accounts_of r.accounts) b what) c.self.view_is
    ∙ refused_by c.args.self.now.accounts c.args.self.now.history what b c.balance_for.ensures
