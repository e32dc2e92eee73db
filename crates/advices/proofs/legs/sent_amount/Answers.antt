use Rattle.std.proofs.Common.{arith}
use Rattle.advices.proofs.Fitting.{many-legs}
use Rattle.advices.proofs.legs.sent_amount.Goals as goal

pub leg_amount-requires-clause-leg : goal.leg_amount-requires-clause-leg
leg_amount-requires-clause-leg c = (omega arith, many-legs c.args.a.now c.args.pay.now c.requires)
