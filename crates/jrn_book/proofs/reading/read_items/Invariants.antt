use Rattle.jrn_book.proofs.Growing.{IsSoFar}
use Rattle.jrn_book.proofs.reading.read_items.Given as goal

abbrev pub invariant-loop-next : goal.invariant-loop-next
invariant-loop-next l = IsSoFar l.version l.initial.past l.records l.next-index l.at l.past
