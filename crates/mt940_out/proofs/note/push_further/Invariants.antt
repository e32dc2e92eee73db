use Rattle.std.proofs.Common.{◌≡◌, ◌++◌, take}
use Rattle.std.specs.List.{filter}
use Rattle.mt940_out.specs.Notes.{may_continue}
use Rattle.mt940_out.proofs.note.push_further.Given as goal

abbrev pub invariant-loop-line : goal.invariant-loop-line
invariant-loop-line l = l.note ≡ l.fn.note ++ filter may_continue (take l.line-index l.lines)
