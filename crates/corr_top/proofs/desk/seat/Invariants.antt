use Rattle.std.proofs.Common.{◌≡◌, ◌+◌, ◌≤◌, ◌++◌, length, map, vec_capacity}
use Rattle.corr_top.specs.inner.Serving.{starting}
use Rattle.corr_top.proofs.desk.seat.Given as goal

abbrev pub invariant-loop-pass : goal.invariant-loop-pass
invariant-loop-pass l = record {
  workers : l.workers.items ++ map starting l.pass-iterator.rest.items ≡ map starting l.fn.passes.items;
  room : length l.workers.items + length l.pass-iterator.rest.items ≤ vec_capacity l.workers;
}
