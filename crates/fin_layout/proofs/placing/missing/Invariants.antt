use Rattle.fin_layout.proofs.PlacedSoFar.{NoneMissing}
use Rattle.fin_layout.proofs.placing.missing.Given as goal

abbrev pub invariant-loop-at : goal.invariant-loop-at
invariant-loop-at l = NoneMissing l.order l.found l.at
