use Rattle.std.proofs.Common.{◌-◌}
use Rattle.desk_page.proofs.lacking.put_lacking_of.Goals as goal

pub short_of-short-requires-clause-ends : goal.short_of-short-requires-clause-ends
short_of-short-requires-clause-ends c = c.get-account.ensures.sound.rows.bounded (c.args.n.0 - 1) c.get-account.result.now c.get-account.ensures.value

pub put_lacking_cell-requires : goal.put_lacking_cell-requires
put_lacking_cell-requires c = (c.get-account.ensures.sound.rows.apart.formed (c.args.n.0 - 1) c.get-account.result.now c.get-account.ensures.value).decimals
