use Rattle.std.proofs.Common.{◌≡◌, ◌++◌, take}
use Rattle.mt950.proofs.joining.push_lines.Given as goal

abbrev pub invariant-loop-line : goal.invariant-loop-line
invariant-loop-line l = l.out ≡ l.fn.out ++ take l.line-index l.lines
