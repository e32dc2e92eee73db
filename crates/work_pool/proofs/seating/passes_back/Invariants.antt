use Rattle.std.proofs.Common.{◌≡◌, ◌+◌, ◌≤◌, ◌++◌, length, map, vec_capacity}
use Rattle.work_pool.proofs.seating.passes_back.Given as goal

abbrev pub invariant-loop-work : goal.invariant-loop-work
invariant-loop-work g l = record {
  passes : l.passes.items ++ map (λ work. work.pass) l.work-iterator.rest.items ≡ map (λ work. work.pass) l.fn.works.items;
  room : length l.passes.items + length l.work-iterator.rest.items ≤ vec_capacity l.passes;
}
