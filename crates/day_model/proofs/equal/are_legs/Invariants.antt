use Rattle.std.proofs.Common.{◌≡◌, take}
use Rattle.day_model.proofs.equal.are_legs.Given as goal

abbrev pub invariant-loop-at : goal.invariant-loop-at
invariant-loop-at l = take l.at l.a ≡ take l.at l.b
