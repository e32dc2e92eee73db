use Rattle.std.proofs.Common.{◌≡◌, ◌++◌, take}
use Rattle.fin_fields.specs.Writing.{ended_lines}
use Rattle.fin_fields.proofs.writing.put_lines.Given as goal

abbrev pub invariant-loop-line : goal.invariant-loop-line
invariant-loop-line l = l.out ≡ l.fn.out ++ ended_lines (take l.line-index l.lines)
