use Rattle.advices.proofs.Fitting.{leg-fits}
use Rattle.advices.proofs.legs.leg_amount.Goals as goal

pub returns-clause-spelled : goal.returns-clause-spelled
returns-clause-spelled c =
    let formed = c.leg_account-account.ensures.formed in
    let leg = leg-fits c.args.a.now c.args.pay.now c.as_slice.result.now _ c.leg_at.result.now c.requires.fits c.as_slice.ensures c.leg_at.ensures in
    record { amount = record { small = leg.below; few = formed.decimals }; letters = formed.ccy }
