use Rattle.std.proofs.Common.{◌≡◌, ◌++◌, take}
use Rattle.corr_report.specs.Lines.{numbered}
use Rattle.desk_page.specs.inner.Books.{chart_in, entries_in}
use Rattle.desk_page.specs.Messages.{line_in}
use Rattle.desk_page.proofs.groups.put_lines.Given as goal

-- the rows so far
abbrev pub invariant-loop-at : goal.invariant-loop-at
invariant-loop-at l = l.out ≡ l.fn.out ++ numbered (line_in (chart_in l.fn.books) (entries_in l.fn.books) l.fn.group) 1 (take l.at l.rows)
