use Rattle.std.proofs.Common.{◌≡◌, ◌-◌}
use Rattle.jrn_codec.specs.inner.Reading.{items_at}
use Rattle.jrn_codec.specs.inner.RecordReading.{order_at}
use Rattle.jrn_codec.proofs.Loop.{with_front}
use Rattle.jrn_codec.proofs.order.orders_of.Given as goal

abbrev pub invariant-loop : goal.invariant-loop
invariant-loop l = with_front l.orders (items_at (order_at l.legs) (l.count - l.counter) l.rest) ≡ items_at (order_at l.legs) l.count l.bytes
