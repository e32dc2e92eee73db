use Rattle.std.proofs.Common.{◌≡◌, ◌++◌, take}
use Rattle.reconcile.specs.Lines.{pair_lines}
use Rattle.reconcile.proofs.lines.put_pairs.Given as goal

-- the pairs so far
abbrev pub invariant-loop-place : goal.invariant-loop-place
invariant-loop-place l = l.out ≡ l.fn.out ++ pair_lines (take l.place-index l.pairs)
