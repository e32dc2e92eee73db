use Rattle.std.proofs.Common.{◌≡◌, take}
use Rattle.pay_returns.proofs.origin.copy_legs.Given as goal

abbrev pub invariant-loop-leg : goal.invariant-loop-leg
invariant-loop-leg l = l.copies ≡ take l.leg-index l.legs
