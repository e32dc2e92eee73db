use Rattle.std.proofs.Common.{◌≡◌, ◌+◌, ◌≤◌, ◌∷◌, ◌++◌, length, vec_capacity}
use Rattle.work_pool.proofs.seating.in_order.Given as goal

abbrev pub invariant-loop-work : goal.invariant-loop-work
invariant-loop-work g l = record {
  works : l.works.items ++ l.work-iterator.rest.items ≡ l.fn.first ∷ l.fn.rest.items;
  room : length l.works.items + length l.work-iterator.rest.items ≤ vec_capacity l.works;
}
