use Rattle.std.proofs.Common.{◌≡◌, ◌++◌, take}
use Rattle.mt940_out.proofs.note.push_lines.Given as goal

abbrev pub invariant-loop-line : goal.invariant-loop-line
invariant-loop-line l = l.note ≡ l.fn.note ++ take l.line-index l.lines
