use Rattle.std.proofs.Common.{◌≡◌, map, take}
use Rattle.std.specs.Prelude.{All}
use Rattle.statement.specs.inner.Running.{message_by}
use Rattle.statement.specs.inner.Valid.{PageReadsBack}
use Rattle.statement.proofs.paging.messages_of.Given as goal

-- the messages of the pages so far, which read back
abbrev pub invariant-loop-placed : goal.invariant-loop-placed
invariant-loop-placed l = record {
  texts : l.texts ≡ map (λ placed. message_by l.home l.to placed.page) (take l.placed-index l.pages);
  back : All (λ placed. PageReadsBack l.home l.to placed.page) (take l.placed-index l.pages);
}
