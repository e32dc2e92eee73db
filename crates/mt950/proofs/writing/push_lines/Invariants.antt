use Rattle.std.proofs.Common.{◌≡◌, ◌++◌, map, take}
use Rattle.mt950.specs.Writing.{line_field_61}
use Rattle.mt950.proofs.writing.push_lines.Given as goal

abbrev pub invariant-loop-line : goal.invariant-loop-line
invariant-loop-line l = l.fields ≡ l.fn.fields ++ map (line_field_61 l.decimals) (take l.line-index l.lines)
