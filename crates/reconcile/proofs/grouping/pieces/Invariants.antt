use Rattle.std.proofs.Common.{◌≡◌, ◌++◌}
use Rattle.reconcile.specs.inner.Gathering.{Gathers}
use Rattle.reconcile.proofs.grouping.pieces.Given as goal

-- the pages so far are put together
abbrev pub invariant-loop-page : goal.invariant-loop-page
invariant-loop-page l = record {
  gathers : Gathers l.yielded l.gathered;
  all : l.yielded ++ l.page-iterator.rest.items ≡ l.fn.pages.items;
}
