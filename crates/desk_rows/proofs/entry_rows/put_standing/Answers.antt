use Rattle.std.proofs.Common.{◌≡◌, ◌∷◌, ◌++◌, ap, ◌∙◌, ℤ, FitsSigned, w64, of_z, to_z}
use Rattle.std.proofs.lemmas.Int.{to_z-of_z}
use Rattle.std.proofs.lemmas.Result.{on_ok_weaker}
use Rattle.desk_rows.specs.Csv.{signed_pointed}
use Rattle.desk_rows.proofs.Quoted.{abs_fits, bare_added}
use Rattle.desk_rows.proofs.laws.Plain.{signed_bare}
use Rattle.desk_rows.proofs.entry_rows.put_standing.Goals as goal

pub returns : goal.returns
returns c =
    let v = c.args.balance in
    let out = c.args.out.now in
    let fits : FitsSigned w64 v = record { sfits = c.ranges.balance.sfits } in
    let held : to_z w64 (of_z w64 v) ≡ v = to_z-of_z w64 v fits in
    on_ok_weaker c.put_signed.result
    (λ added. bare_added out _ (signed_pointed c.args.decimals v) (signed_bare c.args.decimals v (abs_fits v fits))
    (added ∙ ap (λ (n : ℤ). out ++ 44 ∷ signed_pointed c.args.decimals n) held))
    c.put_signed.ensures
