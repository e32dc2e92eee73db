use Rattle.std.proofs.Common.{◌≡◌, ◌++◌, ◌∷◌, FitsSigned, sym, ap, ◌∙◌, to_z, of_z, w64, rules}
use Rattle.std.proofs.lemmas.Int.{to_z-of_z}
use Rattle.std.proofs.lemmas.Result.{on_ok_weaker}
use Rattle.corr_money.specs.Amounts.{signed_text}
use Rattle.mt950.specs.declared.joining.PageFault.TheVariants.{DoesNotAdd, NotCarried}
use Rattle.reconcile.specs.Lines.{fault_words}
use Rattle.reconcile.proofs.Printed.{three-words}
use Rattle.reconcile.proofs.lines.put_fault.Goals as goal

pub returns-in_ok-put_balance-in-NotCarried-clause-words : goal.returns-in_ok-put_balance-in-NotCarried-clause-words
returns-in_ok-put_balance-in-NotCarried-clause-words c =
    let f = c.in-NotCarried in
    let closing_fits : FitsSigned w64 f.closing = search rules in
    let opening_fits : FitsSigned w64 f.opening = search rules in
    let closing : to_z w64 (of_z w64 f.closing) ≡ f.closing = to_z-of_z w64 f.closing closing_fits in
    let opening : to_z w64 (of_z w64 f.opening) ≡ f.opening = to_z-of_z w64 f.opening opening_fits in
    on_ok_weaker c.put_balance-in-NotCarried.result (λ last.
    three-words c.args.out.now c.push-in-NotCarried.new.self c.put_number-in-NotCarried.new.out c.put_balance.new.out c.put_balance-in-NotCarried.new.out _ _ _ (32 ∷ signed_text c.args.decimals (to_z w64 (of_z w64 f.opening)))
    c.in_ok-push-in-NotCarried.ensures.ok c.in_ok-put_number-in-NotCarried.ensures.ok c.in_ok-put_balance-in-NotCarried.ensures.ok last
    ∙ (λ i. c.args.out.now ++ fault_words c.args.decimals (NotCarried f.page (closing i) (opening i)))
    ∙ ap (λ fault. c.args.out.now ++ fault_words c.args.decimals fault) (sym f.is)) c.put_balance-in-NotCarried.ensures.ok

pub returns-in_ok-put_balance-in-DoesNotAdd-2-clause-words : goal.returns-in_ok-put_balance-in-DoesNotAdd-2-clause-words
returns-in_ok-put_balance-in-DoesNotAdd-2-clause-words c =
    let f = c.in-DoesNotAdd in
    let opening_fits : FitsSigned w64 f.opening = search rules in
    let sum_fits : FitsSigned w64 f.sum = search rules in
    let closing_fits : FitsSigned w64 f.closing = search rules in
    let opening : to_z w64 (of_z w64 f.opening) ≡ f.opening = to_z-of_z w64 f.opening opening_fits in
    let sum : to_z w64 (of_z w64 f.sum) ≡ f.sum = to_z-of_z w64 f.sum sum_fits in
    let closing : to_z w64 (of_z w64 f.closing) ≡ f.closing = to_z-of_z w64 f.closing closing_fits in
    on_ok_weaker c.put_balance-in-DoesNotAdd-3.result (λ last.
    three-words c.args.out.now c.push-in-DoesNotAdd.new.self c.put_balance-in-DoesNotAdd.new.out c.put_balance-in-DoesNotAdd-2.new.out c.put_balance-in-DoesNotAdd-3.new.out _ _ _ (32 ∷ signed_text c.args.decimals (to_z w64 (of_z w64 f.closing)))
    c.in_ok-push-in-DoesNotAdd.ensures.ok c.in_ok-put_balance-in-DoesNotAdd.ensures.ok c.in_ok-put_balance-in-DoesNotAdd-2.ensures.ok last
    ∙ (λ i. c.args.out.now ++ fault_words c.args.decimals (DoesNotAdd (opening i) (sum i) (closing i)))
    ∙ ap (λ fault. c.args.out.now ++ fault_words c.args.decimals fault) (sym f.is)) c.put_balance-in-DoesNotAdd-3.ensures.ok
