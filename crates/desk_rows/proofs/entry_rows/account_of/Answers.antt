use Rattle.std.proofs.Common.{◌-◌}
use Rattle.desk_rows.proofs.entry_rows.account_of.Goals as goal

pub returns-clause-decimals : goal.returns-clause-decimals
returns-clause-decimals c = (c.get.ensures.sound.rows.apart.formed (c.args.leg.now.account.0 - 1) c.get.result.now c.get.ensures.value).decimals
