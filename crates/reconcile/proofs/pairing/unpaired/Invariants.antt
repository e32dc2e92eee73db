use Rattle.std.proofs.Common.{◌≡◌, map, take}
use Rattle.statement.specs.Running.{placed_by}
use Rattle.reconcile.specs.Pairing.{ours_left}
use Rattle.reconcile.proofs.pairing.unpaired.Given as goal

-- the entries so far that are in no pair
abbrev pub invariant-loop-entry : goal.invariant-loop-entry
invariant-loop-entry l = l.places ≡ ours_left l.fn.pairs (map placed_by (take l.entry-index l.entries))
