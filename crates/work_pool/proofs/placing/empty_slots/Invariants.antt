use Rattle.std.proofs.Common.{◌≡◌, ◌≤◌, length, vec_capacity}
use Rattle.work_pool.proofs.placing.empty_slots.Given as goal

abbrev pub invariant-loop : goal.invariant-loop
invariant-loop g l = record {
  count : length l.slots.items ≡ l.counter;
  room : l.count ≤ vec_capacity l.slots;
}
