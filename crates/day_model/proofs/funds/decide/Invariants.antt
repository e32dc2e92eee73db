use Rattle.day_model.proofs.LegTests.{NoneBefore}
use Rattle.day_model.proofs.funds.decide.Given as goal

abbrev pub invariant-loop-at : goal.invariant-loop-at
invariant-loop-at l = NoneBefore l.fn.a l.fn.h.entries l.fn.p.legs l.at
