use Rattle.std.proofs.Common.{◌-◌, ◌<◌, ◌≤◌, Some, None, cond, sym, ap, ◌∙◌, arith}
use Rattle.std.proofs.lemmas.Bool.Decides.{nat_tests}
use Rattle.day_model.proofs.laws.Fronts.{fits_now}
use Rattle.pay_returns.proofs.laws.Tagging.{opposed-in}
use Rattle.pay_returns.proofs.chain.opposed.Goals as goal

pub takes_back-requires : goal.takes_back-requires
takes_back-requires c = fits_now c.args.a.now c.args.h.now.entries (c.args.r - 1) c.get.result.now c.requires.legal c.get.ensures

pub returns-then-takes_back : goal.returns-then-takes_back
returns-then-takes_back c =
    let n = c.in_ok-place.place in
    let since : 1 ≤ n = grind (arith, nat_tests, c.if-place-eq0.false) in
    let before : n < c.args.r = grind (arith, nat_tests, c.if-place-r.false) in
    sym (opposed-in c.args.a.now c.args.h.now.entries c.args.r c.get.result.now c.requires.from_one c.get.ensures n c.get-2.result.now (sym c.named_place.ensures ∙ c.in_ok-place.was) since before c.get-2.ensures
    ∙ ap (λ b. cond b (Some n) None) (sym c.takes_back.ensures ∙ c.if-takes_back.true))

pub returns-else-takes_back : goal.returns-else-takes_back
returns-else-takes_back c =
    let n = c.in_ok-place.place in
    let since : 1 ≤ n = grind (arith, nat_tests, c.if-place-eq0.false) in
    let before : n < c.args.r = grind (arith, nat_tests, c.if-place-r.false) in
    sym (opposed-in c.args.a.now c.args.h.now.entries c.args.r c.get.result.now c.requires.from_one c.get.ensures n c.get-2.result.now (sym c.named_place.ensures ∙ c.in_ok-place.was) since before c.get-2.ensures
    ∙ ap (λ b. cond b (Some n) None) (sym c.takes_back.ensures ∙ c.if-takes_back.false))
