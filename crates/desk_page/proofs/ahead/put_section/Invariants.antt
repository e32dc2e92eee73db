use Rattle.std.proofs.Common.{◌≡◌, ◌-◌, ◌++◌, take}
use Rattle.corr_report.specs.Lines.{numbered}
use Rattle.desk_page.specs.Ahead.{ahead_if}
use Rattle.desk_page.specs.inner.Books.{chart_in, entries_in}
use Rattle.desk_page.specs.Markup.{markup}
use Rattle.desk_page.specs.declared.mark.Piece.TheVariants.{AheadBegin}
use Rattle.desk_page.proofs.ahead.put_section.Given as goal

-- the rows so far
abbrev pub invariant-loop-place : goal.invariant-loop-place
invariant-loop-place l =
    l.out ≡ (l.fn.out ++ markup AheadBegin) ++ numbered (ahead_if (chart_in l.fn.books) l.fn.day) 1 (take (l.place - 1) (entries_in l.fn.books))
