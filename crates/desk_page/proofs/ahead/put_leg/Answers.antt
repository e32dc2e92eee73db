use Rattle.std.proofs.Common.{◌-◌}
use Rattle.desk_page.proofs.ahead.put_leg.Goals as goal

pub put_paid-requires-clause-decimals : goal.put_paid-requires-clause-decimals
put_paid-requires-clause-decimals c = (c.get.ensures.sound.rows.apart.formed (c.args.leg.now.account.0 - 1) c.get.result.now c.get.ensures.value).decimals
