use Rattle.statement.specs.Seen.{SeenBook}
use Rattle.statement.specs.Valid.{Prints}
use Rattle.statement.proofs.Printing.{PlacedSoFar}
use Rattle.statement.proofs.paging.page_values.Given as goal

abbrev pub invariant-loop-k : goal.invariant-loop-k
invariant-loop-k l = (book : SeenBook) → Prints l.ix l.n.0 l.day book → PlacedSoFar book l.n.0 l.day l.k l.pages
