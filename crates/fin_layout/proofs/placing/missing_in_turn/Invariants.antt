use Rattle.fin_layout.proofs.TakenInTurn.{TakenInTurn}
use Rattle.fin_layout.proofs.placing.missing_in_turn.Given as goal

abbrev pub invariant-loop-at : goal.invariant-loop-at
invariant-loop-at l = TakenInTurn l.order l.found l.at-index l.free
