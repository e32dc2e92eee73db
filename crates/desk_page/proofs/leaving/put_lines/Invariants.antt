use Rattle.std.proofs.Common.{◌≡◌, ◌++◌}
use Rattle.desk_page.specs.Leaving.{leaving_lines}
use Rattle.desk_page.proofs.leaving.put_lines.Given as goal

-- with the rows that are left the text becomes that with all rows
abbrev pub invariant-loop-kind : goal.invariant-loop-kind
invariant-loop-kind l = l.out ++ leaving_lines l.kind-iterator ≡ l.fn.out ++ leaving_lines l.counts.entries
