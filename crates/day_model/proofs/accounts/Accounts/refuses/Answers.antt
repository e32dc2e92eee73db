use Rattle.std.proofs.Common.{◌≡◌, List, ap, ◌∙◌, to_z, of_z, w64, ℤ}
use Rattle.std.proofs.lemmas.Int.{to_z-of_z}
use Rattle.day_model.specs.declared.account.Account.{Account}
use Rattle.day_model.specs.Chart.{accounts_of}
use Rattle.day_model.specs.Refusals.{refusal_of}
use Rattle.day_model.proofs.laws.Refusing.{refused_iff}
use Rattle.day_model.proofs.accounts.Accounts.refuses.Goals as goal

pub returns-clause-legal : goal.returns-clause-legal
returns-clause-legal c = λ formed.
    let held : to_z w64 (of_z w64 c.args.balance) ≡ c.args.balance = to_z-of_z w64 c.args.balance (record { sfits = c.ranges.balance.sfits }) in
    refused_iff (accounts_of c.args.self.now) c.args.balance c.args.what.now c.refusal.result c.after_changes.ensures.sound.rows.apart
    (c.refusal.ensures
    ∙ ap (λ (accounts : List Account). refusal_of accounts (to_z w64 (of_z w64 c.args.balance)) c.args.what.now) c.after_changes.ensures.value
    ∙ ap (λ (b : ℤ). refusal_of (accounts_of c.args.self.now) b c.args.what.now) held) formed
