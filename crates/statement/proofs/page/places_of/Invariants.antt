use Rattle.std.proofs.Common.{◌≡◌, map, take}
use Rattle.statement.proofs.page.places_of.Given as goal

abbrev pub invariant-loop-movement : goal.invariant-loop-movement
invariant-loop-movement l = l.places ≡ map (λ movement. movement.place) (take l.movement-index l.movements)
