use Rattle.std.proofs.Common.{◌≡◌, ◌+◌, ◌≤◌, ◌++◌, length, map, vec_capacity}
use Rattle.corr_top.proofs.desk.vacate.Given as goal

abbrev pub invariant-loop-worker : goal.invariant-loop-worker
invariant-loop-worker l = record {
  passes : l.passes.items ++ map (λ worker. worker.pass) l.worker-iterator.rest.items ≡ map (λ worker. worker.pass) l.fn.workers.items;
  room : length l.passes.items + length l.worker-iterator.rest.items ≤ vec_capacity l.passes;
}
