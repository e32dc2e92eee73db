use Rattle.std.proofs.Common.{length}
use Rattle.jrn_codec.proofs.length.+orders_len.Given as goal

abbrev pub decreases-orders_len : goal.decreases-orders_len
decreases-orders_len l = length l.orders.now
