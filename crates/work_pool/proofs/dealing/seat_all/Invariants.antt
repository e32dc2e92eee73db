use Rattle.std.proofs.Common.{◌≡◌, ◌+◌, ◌≤◌, ◌++◌, length, map, vec_capacity}
use Rattle.work_pool.specs.Served.{most_workers}
use Rattle.work_pool.proofs.dealing.seat_all.Given as goal

abbrev pub invariant-loop-pass : goal.invariant-loop-pass
invariant-loop-pass g l = record {
  passes : map (λ seat. seat.pass) l.seats.items ++ l.pass-iterator.rest.items ≡ l.fn.passes.items;
  hands : map (λ seat. seat.hand) l.seats.items ++ l.hands.rest.items ≡ l.fn.hands.items;
  even : length l.hands.rest.items ≡ length l.pass-iterator.rest.items;
  room : length l.seats.items + length l.pass-iterator.rest.items ≤ vec_capacity l.seats;
  few : length l.seats.items + length l.pass-iterator.rest.items ≤ most_workers;
}
