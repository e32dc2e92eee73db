use Rattle.std.proofs.Common.{◌+◌, ◌≤◌, ◌++◌, length, map, vec_capacity}
use Rattle.work_pool.specs.inner.Hands.{unserved}
use Rattle.work_pool.specs.inner.Tasks.{AreInHands}
use Rattle.work_pool.proofs.dealing.deal.Given as goal

-- the hands so far, and those of the lists that are left
abbrev pub invariant-loop-jobs : goal.invariant-loop-jobs
invariant-loop-jobs g l = record {
  hands : AreInHands l.count l.fn.jobs.items (l.hands.items ++ map (map unserved) (map (λ list. list.items) l.jobs-iterator.rest.items));
  room : length l.hands.items + length l.jobs-iterator.rest.items ≤ vec_capacity l.hands;
}
