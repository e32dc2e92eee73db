use Rattle.std.proofs.Common.{List, ℕ, ◌++◌, ◌∷◌, refl, ap, ◌∙◌, append_assoc}
use Rattle.std.proofs.lemmas.Result.{on_ok_weaker}
use Rattle.day_model.specs.declared.pay.Side.{Side}
use Rattle.day_model.specs.declared.pay.Side.TheVariants.{Debit, Credit}
use Rattle.desk_rows.specs.Csv.{pointed}
use Rattle.desk_rows.specs.Entries.{sign_of}
use Rattle.desk_rows.proofs.Quoted.{bare_added}
use Rattle.desk_rows.proofs.laws.Plain.{AreBare, both_bare, pointed_bare}
use Rattle.desk_rows.proofs.entry_rows.put_charge.Goals as goal

sign_bare : (side : Side) → AreBare (sign_of side)
sign_bare Debit = refl
sign_bare Credit = refl

pub returns : goal.returns
returns c =
    let amount = pointed c.args.decimals c.args.n in
    let bare = both_bare (sign_of c.args.side) amount (sign_bare c.args.side) (pointed_bare c.args.decimals c.args.n c.ranges.n.fits) in
    on_ok_weaker c.put_pointed.result
    (λ added. bare_added c.args.out.now _ (sign_of c.args.side ++ amount) bare
    (added ∙ append_assoc c.args.out.now (44 ∷ c.sign_of.result.now) amount ∙ ap (λ (sign : List ℕ). c.args.out.now ++ 44 ∷ (sign ++ amount)) c.sign_of.ensures))
    c.put_pointed.ensures
