use Rattle.std.proofs.Common.{◌≡◌, ◌+◌, ◌≤◌, ◌++◌, ◌∷◌, true, [], length, map, vec_capacity}
use Rattle.crossbeam_queue.specs.Passes.{view, IsPassOf}
use Rattle.work_pool.specs.Served.{most_workers}
use Rattle.work_pool.specs.inner.Seating.{AreHelpers}
use Rattle.work_pool.proofs.seating.seat_at_line.Given as goal

abbrev pub invariant-loop-pass : goal.invariant-loop-pass
invariant-loop-pass g l = record {
  of_line : IsPassOf l.line l.token;
  parts : (view l.token).parts + length l.helpers.items ≡ most_workers;
  alone : length l.helpers.items ≡ 0 → (view l.token).alone ≡ true;
  feeds : (view l.token).feeds ≡ true;
  given : (view l.token).given ≡ [];
  taken : (view l.token).taken ≡ [];
  helpers : AreHelpers l.line l.helpers.items;
  passes : l.first ∷ (map (λ server. server.work.pass) l.helpers.items ++ l.pass-iterator.rest.items) ≡ l.fn.passes.items;
  room : length l.helpers.items + length l.pass-iterator.rest.items ≤ vec_capacity l.helpers;
  few : length l.helpers.items + length l.pass-iterator.rest.items + 1 ≤ most_workers;
  worker : l.worker ≡ length l.helpers.items + 1;
}
