use Rattle.std.proofs.Common.{◌≡◌, map, take}
use Rattle.desk_page.specs.inner.Twice.{terms_in}
use Rattle.desk_page.proofs.twice.all_terms.Given as goal

-- the terms so far
abbrev pub invariant-loop-row : goal.invariant-loop-row
invariant-loop-row l = l.all.items ≡ map terms_in (take l.row-index l.rows)
