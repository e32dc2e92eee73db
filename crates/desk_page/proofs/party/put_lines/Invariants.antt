use Rattle.std.proofs.Common.{◌≡◌, ◌++◌, take}
use Rattle.desk_page.specs.Row.{lined}
use Rattle.desk_page.proofs.party.put_lines.Given as goal

-- the lines so far
abbrev pub invariant-loop-line : goal.invariant-loop-line
invariant-loop-line l = l.out ≡ l.fn.out ++ lined (take l.line-index l.lines)
