use Rattle.corr_report.proofs.Fitting.{item_listed}
use Rattle.corr_report.proofs.outcome.put_legs.Goals as goal

pub put_leg-requires-clause-listed : goal.put_leg-requires-clause-listed
put_leg-requires-clause-listed c =
    let legs = c.as_slice-leg-items in
    item_listed c.args.a.now c.args.entry.now.pay legs.result.now c.loop-leg.leg-index c.leg-item.result c.requires legs.ensures c.loop-leg-test.true c.leg-item.is
