use Rattle.desk_rows.proofs.Legs.{leg_listed}
use Rattle.desk_rows.proofs.entry_rows.leg_and_account.Goals as goal

pub account_of-account-requires : goal.account_of-account-requires
account_of-account-requires c = leg_listed c.args.a.now c.args.pay.now c.as_slice.result.now _ c.leg_at-leg.result.now c.requires.fits c.as_slice.ensures c.leg_at-leg.ensures
