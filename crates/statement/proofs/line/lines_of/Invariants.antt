use Rattle.std.proofs.Common.{◌≡◌, map, take}
use Rattle.statement.specs.Running.{line_by}
use Rattle.statement.proofs.line.lines_of.Given as goal

abbrev pub invariant-loop-movement : goal.invariant-loop-movement
invariant-loop-movement l = l.lines ≡ map line_by (take l.movement-index l.movements)
