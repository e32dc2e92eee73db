use Rattle.std.proofs.lemmas.Result.{err_from_is_err_and}
use Rattle.jrn_codec.specs.inner.Reading.{items_at}
use Rattle.jrn_codec.specs.inner.RecordReading.{order_at}
use Rattle.jrn_codec.proofs.Loop.{goes_on, ends, is_done}
use Rattle.jrn_codec.proofs.order.orders_of.Goals as goal

pub returns-in_err-order : goal.returns-in_err-order
returns-in_err-order c =
    let p = err_from_is_err_and c.from_residual.result c.from_residual.ensures.1 in
    rw (p.1, p.2) (ends (order_at c.args.legs) c.in_err-order.field-0.0 c.loop.orders c.args.count c.loop.counter c.loop.rest.now (items_at (order_at c.args.legs) c.args.count c.args.bytes.now) c.loop-test.true c.in_err-order.ensures c.loop.invariant)

pub loop-preserved : goal.loop-preserved
loop-preserved c =
    let order = c.in_ok-order.order in
    rw c.in_ok-push.ensures.ok (goes_on (order_at c.args.legs) c.loop.orders c.args.count c.loop.counter c.loop.rest.now order c.in_ok-order.after.now (items_at (order_at c.args.legs) c.args.count c.args.bytes.now) c.loop-test.true c.in_ok-order.ensures c.loop.invariant)

pub returns : goal.returns
returns c = is_done (order_at c.args.legs) c.loop.orders c.args.count c.loop.counter c.loop.rest.now (items_at (order_at c.args.legs) c.args.count c.args.bytes.now) c.loop-test.false c.loop.invariant
