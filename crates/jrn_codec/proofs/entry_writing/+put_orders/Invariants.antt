use Rattle.std.proofs.Common.{length}
use Rattle.jrn_codec.proofs.entry_writing.+put_orders.Given as goal

abbrev pub decreases-put_orders : goal.decreases-put_orders
decreases-put_orders l = length l.orders.now
