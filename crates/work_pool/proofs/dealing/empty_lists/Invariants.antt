use Rattle.std.proofs.Common.{◌≤◌, [], map, vec_capacity}
use Rattle.work_pool.specs.inner.Tasks.{AreInLists}
use Rattle.work_pool.proofs.dealing.empty_lists.Given as goal

abbrev pub invariant-loop : goal.invariant-loop
invariant-loop g l = record {
  lists : AreInLists l.counter [] (map (λ list. list.items) l.lists.items);
  room : l.count ≤ vec_capacity l.lists;
}
