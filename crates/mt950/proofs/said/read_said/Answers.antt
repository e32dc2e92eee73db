use Rattle.mt950.specs.Order.{order_950}
use Rattle.mt950.proofs.BalanceFields.{place-known}
use Rattle.mt950.proofs.said.read_said.Goals as goal

pub read_lines-requires-clause-known : goal.read_lines-requires-clause-known
read_lines-requires-clause-known c =
    place-known c.args.tables.now order_950 c.args.fields.now c.args.found.now 3 c.in_ok-opening.opening c.in_ok-opening.ensures
