use Rattle.std.proofs.Common.{◌≡◌, ◌+◌, ◌≤◌, ◌++◌, Some, length, map, vec_capacity}
use Rattle.work_pool.proofs.placing.take_all.Given as goal

abbrev pub invariant-loop-slot : goal.invariant-loop-slot
invariant-loop-slot g l = record {
  taken : map (λ reply. Some reply) l.replies.items ++ l.slot-iterator.rest.items ≡ l.fn.slots.items;
  room : length l.replies.items + length l.slot-iterator.rest.items ≤ vec_capacity l.replies;
}
