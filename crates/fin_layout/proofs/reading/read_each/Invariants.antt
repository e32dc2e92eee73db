use Rattle.fin_layout.proofs.InTurn.{ReadSoFar}
use Rattle.fin_layout.proofs.reading.read_each.Given as goal

abbrev pub invariant-loop-at : goal.invariant-loop-at
invariant-loop-at g l = ReadSoFar l.fields l.place (g.C.Content.meaning l.content) l.found l.at l.all
