use Rattle.std.proofs.Common.{◌≡◌, ◌++◌, take}
use Rattle.desk_page.specs.Escaped.{escaped}
use Rattle.desk_page.proofs.escape.put_escaped.Given as goal

-- the bytes so far
abbrev pub invariant-loop-b : goal.invariant-loop-b
invariant-loop-b l = l.out ≡ l.fn.out ++ escaped (take l.b-index l.text)
