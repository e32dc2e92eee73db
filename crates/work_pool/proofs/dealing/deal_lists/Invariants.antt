use Rattle.std.proofs.Common.{◌≡◌, List, ◌++◌, length, map}
use Rattle.work_pool.specs.inner.Tasks.{AreInLists}
use Rattle.work_pool.proofs.dealing.deal_lists.Given as goal

abbrev pub invariant-loop-job : goal.invariant-loop-job
invariant-loop-job g l =
    (done : List _)
    × (done ++ l.job-iterator.rest.items ≡ l.fn.jobs.items)
    × (length done ≡ l.dealt)
    × AreInLists l.count done (map (λ list. list.items) l.lists.items)
