use Rattle.std.proofs.Common.{◌≡◌, ◌++◌, ◌∙◌, List, ℕ, ap, append_assoc, subst, sym}
use Rattle.std.specs.Prelude.{OnOk, codes}
use Rattle.corr_ids.specs.Day.{yymmdd_of}
use Rattle.corr_top.specs.declared.status.Status.{Status}
use Rattle.corr_top.specs.Status.{spaced_number, status_text}
use Rattle.corr_top.proofs.line.put_status.Goals as goal

pub returns-in-DateBack : goal.returns-in-DateBack
returns-in-DateBack c =
    subst (λ (s : Status). OnOk c.put_date.result (c.put_date.new.out ≡ c.args.out.now ++ status_text s)) (sym c.in-DateBack.is)
    (subst (λ (bytes : List ℕ). OnOk c.put_date.result (c.put_date.new.out ≡ bytes)) (append_assoc c.args.out.now (codes "date back ") (yymmdd_of c.in-DateBack.last)) c.put_date.ensures)

pub returns-in-SecondDiskFault : goal.returns-in-SecondDiskFault
returns-in-SecondDiskFault c =
    let out = c.args.out.now in
    let words = codes "second disk fault" in
    let first = spaced_number c.in-SecondDiskFault.before in
    let second = spaced_number c.in-SecondDiskFault.after in
    let parts = ap (λ (l : List ℕ). l ++ second) (append_assoc out words first) ∙ append_assoc out (words ++ first) second in
    subst (λ (s : Status). OnOk c.put_two-in-SecondDiskFault.result (c.put_two-in-SecondDiskFault.new.out ≡ out ++ status_text s)) (sym c.in-SecondDiskFault.is)
    (subst (λ (bytes : List ℕ). OnOk c.put_two-in-SecondDiskFault.result (c.put_two-in-SecondDiskFault.new.out ≡ bytes)) parts c.put_two-in-SecondDiskFault.ensures)
