use Rattle.corr_report.proofs.Fitting.{leg_listed}
use Rattle.corr_report.proofs.outcome.put_leg_balance.Goals as goal

pub account_of-account-requires : goal.account_of-account-requires
account_of-account-requires c = leg_listed c.args.a.now c.args.pay.now c.as_slice.result.now _ c.leg_at.result.now c.requires.fits c.as_slice.ensures c.leg_at.ensures
