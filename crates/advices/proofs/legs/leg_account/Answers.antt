use Rattle.std.proofs.Common.{◌-◌}
use Rattle.advices.proofs.Fitting.{leg-fits}
use Rattle.advices.proofs.legs.leg_account.Goals as goal

pub get-requires : goal.get-requires
get-requires c = (leg-fits c.args.a.now c.args.pay.now c.as_slice.result.now _ c.leg_at.result.now c.requires.fits c.as_slice.ensures c.leg_at.ensures).listed

pub returns-clause-formed : goal.returns-clause-formed
returns-clause-formed c = c.get.ensures.sound.rows.apart.formed (c.leg_at.result.now.account.0 - 1) c.get.result.now c.get.ensures.value
