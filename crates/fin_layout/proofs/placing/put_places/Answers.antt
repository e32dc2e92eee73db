use Rattle.std.proofs.Common.{◌∙◌, ap, arith, length, length-append}
use Rattle.fin_layout.proofs.PlacedSoFar.{places-start, places-more, places-stop, places-end}
use Rattle.fin_layout.proofs.placing.put_places.Goals as goal

pub loop-f-init : goal.loop-f-init
loop-f-init c = record {
  within = omega arith;
  placed = places-start c.args.order.now c.args.fields.now c.reserve.new.self (c.reserve.ensures ∙ c.clear.ensures);
  count = ap length (c.reserve.ensures ∙ c.clear.ensures);
}

pub returns-in-None-clause-value : goal.returns-in-None-clause-value
returns-in-None-clause-value c = places-stop c.loop-f.invariant.placed c.f-item.result c.f-item.is c.loop-f-test.true c.in-None.ensures.value

pub loop-f-preserved : goal.loop-f-preserved
loop-f-preserved c = record {
  within = c.free_after-free.ensures.within;
  placed = rw c.free_after-free.ensures.value (places-more c.loop-f.invariant.placed c.f-item.result c.f-item.is c.loop-f-test.true c.in-Some.at _ c.in-Some.ensures.value c.in_ok-push-in-Some.ensures.ok);
  count = omega (arith, ap length c.in_ok-push-in-Some.ensures.ok, length-append c.loop-f.found, c.loop-f.invariant.count);
}

pub returns-clause-value : goal.returns-clause-value
returns-clause-value c = places-end c.loop-f.invariant.placed c.loop-f-test.false
