use Rattle.std.proofs.Common.{◌≡◌, take}
use Rattle.day_model.proofs.copy.copy_legs.Given as goal

abbrev pub invariant-loop-leg : goal.invariant-loop-leg
invariant-loop-leg l = l.copies ≡ take l.leg-index l.legs
