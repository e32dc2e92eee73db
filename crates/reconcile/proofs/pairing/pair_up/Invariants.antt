use Rattle.reconcile.proofs.PairSteps.{ArePaired}
use Rattle.reconcile.proofs.pairing.pair_up.Given as goal

-- the lines so far took their entries
abbrev pub invariant-loop-at : goal.invariant-loop-at
invariant-loop-at l = ArePaired l.entries l.lines l.at l.waiting l.pairs l.theirs
