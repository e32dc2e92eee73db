use Rattle.std.proofs.Common.{◌≡◌, ◌++◌, map, take}
use Rattle.statement.specs.Running.{placed_by}
use Rattle.reconcile.specs.Lines.{ours_lines}
use Rattle.reconcile.proofs.lines.put_ours.Given as goal

-- the entries so far
abbrev pub invariant-loop-place : goal.invariant-loop-place
invariant-loop-place l = l.out ≡ l.fn.out ++ ours_lines l.decimals (map placed_by l.entries) (take l.place-index l.places)
