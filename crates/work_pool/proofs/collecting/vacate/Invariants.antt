use Rattle.std.proofs.Common.{◌≡◌, ◌+◌, ◌≤◌, ◌++◌, length, map, vec_capacity}
use Rattle.work_pool.proofs.collecting.vacate.Given as goal

abbrev pub invariant-loop-seat : goal.invariant-loop-seat
invariant-loop-seat g l = record {
  passes : l.passes.items ++ map (λ seat. seat.pass) l.seat-iterator.rest.items ≡ map (λ seat. seat.pass) l.fn.seats.items;
  room : length l.passes.items + length l.seat-iterator.rest.items ≤ vec_capacity l.passes;
}
