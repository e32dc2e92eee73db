use Rattle.std.proofs.lemmas.Result.{err_from_is_err_and}
use Rattle.jrn_codec.specs.inner.Reading.{items_at}
use Rattle.jrn_codec.specs.inner.RecordReading.{leg_at}
use Rattle.jrn_codec.proofs.Loop.{goes_on, ends, is_done}
use Rattle.jrn_codec.proofs.leg.legs_of.Goals as goal

pub returns-in_err-leg : goal.returns-in_err-leg
returns-in_err-leg c =
    let p = err_from_is_err_and c.from_residual.result c.from_residual.ensures.1 in
    rw (p.1, p.2) (ends leg_at c.in_err-leg.field-0.0 c.loop.legs c.args.count c.loop.counter c.loop.rest.now (items_at leg_at c.args.count c.args.bytes.now) c.loop-test.true c.in_err-leg.ensures c.loop.invariant)

pub loop-preserved : goal.loop-preserved
loop-preserved c =
    let leg = c.in_ok-leg.leg in
    rw c.in_ok-push.ensures.ok (goes_on leg_at c.loop.legs c.args.count c.loop.counter c.loop.rest.now leg c.in_ok-leg.after.now (items_at leg_at c.args.count c.args.bytes.now) c.loop-test.true c.in_ok-leg.ensures c.loop.invariant)

pub returns : goal.returns
returns c = is_done leg_at c.loop.legs c.args.count c.loop.counter c.loop.rest.now (items_at leg_at c.args.count c.args.bytes.now) c.loop-test.false c.loop.invariant
