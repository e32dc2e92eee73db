use Rattle.std.proofs.Common.{◌≡◌, [], take, drop}
use Rattle.mt103.specs.Instructions.{first_given, misfits}
use Rattle.mt103.proofs.misfit.first_misfit.Given as goal

abbrev pub invariant-loop-at : goal.invariant-loop-at
invariant-loop-at l = first_given (misfits l.misfit) [] l.instrs ≡ first_given (misfits l.misfit) (take l.at l.instrs) (drop l.at l.instrs)
