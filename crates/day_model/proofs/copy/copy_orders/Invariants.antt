use Rattle.std.proofs.Common.{◌≡◌, take}
use Rattle.day_model.proofs.copy.copy_orders.Given as goal

abbrev pub invariant-loop-order : goal.invariant-loop-order
invariant-loop-order l = l.copies ≡ take l.order-index l.orders
