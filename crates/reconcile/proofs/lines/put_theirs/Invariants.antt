use Rattle.std.proofs.Common.{◌≡◌, ◌++◌, take}
use Rattle.reconcile.specs.Lines.{theirs_lines}
use Rattle.reconcile.proofs.lines.put_theirs.Given as goal

-- the lines so far
abbrev pub invariant-loop-number : goal.invariant-loop-number
invariant-loop-number l = l.out ≡ l.fn.out ++ theirs_lines l.decimals l.lines (take l.number-index l.numbers)
