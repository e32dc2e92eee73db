use Rattle.std.proofs.Common.{◌≡◌, ◌++◌, ◌∙◌, List, ℕ, ℤ, ap, append_assoc, of_z, subst, to_z, w64}
use Rattle.std.specs.Prelude.{OnOk, codes}
use Rattle.std.proofs.lemmas.Int.{to_z-of_z}
use Rattle.corr_money.specs.Amounts.{signed_text}
use Rattle.corr_top.proofs.line.put_sum.Goals as goal

pub returns : goal.returns
returns c =
    let out = c.args.out.now in
    let words = codes "unbalanced " in
    let ccy = c.args.ccy.0 in
    let space = codes " " in
    let sum = signed_text c.args.decimals c.args.sum in
    let named = c.in_ok-push-2.ensures.ok ∙ ap (λ (l : List ℕ). l ++ ccy) c.in_ok-push.ensures.ok in
    let front = c.in_ok-push-3.ensures.ok ∙ ap (λ (l : List ℕ). l ++ space) named in
    let parts =
    ap (λ (l : List ℕ). (l ++ space) ++ sum) (append_assoc out words ccy)
    ∙ ap (λ (l : List ℕ). l ++ sum) (append_assoc out (words ++ ccy) space)
    ∙ append_assoc out ((words ++ ccy) ++ space) sum in
    let held : to_z w64 (of_z w64 c.args.sum) ≡ c.args.sum = to_z-of_z w64 c.args.sum (record { sfits = c.ranges.sum.sfits }) in
    let put = subst (λ (z : ℤ). OnOk c.put_signed.result (c.put_signed.new.out ≡ c.push-3.new.self ++ signed_text c.args.decimals z)) held c.put_signed.ensures.ok in
    subst (λ (bytes : List ℕ). OnOk c.put_signed.result (c.put_signed.new.out ≡ bytes)) (ap (λ (l : List ℕ). l ++ sum) front ∙ parts) put
