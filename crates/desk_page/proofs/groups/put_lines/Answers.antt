use Rattle.std.proofs.Common.{◌+◌, ◌++◌, refl, ap, ◌∙◌}
use Rattle.corr_report.proofs.laws.LineLists.{numbered_more}
use Rattle.desk_page.specs.inner.Books.{chart_in, entries_in}
use Rattle.desk_page.specs.Messages.{line_in}
use Rattle.desk_page.specs.declared.row.Row.{Row}
use Rattle.desk_page.proofs.groups.put_lines.Goals as goal

pub loop-at-preserved : goal.loop-at-preserved
loop-at-preserved c =
    let l = c.loop-at in
    let line = line_in (chart_in c.args.books) (entries_in c.args.books) c.args.group in
    numbered_more line c.args.rows.now l.at (l.at + 1) (l.at + 1) c.index-rows-at.result c.args.out.now l.out _ c.loop-at-test.true refl refl l.invariant
    (c.in_ok-put_row_in.ensures ∙ ap (λ (row : Row). l.out ++ line (l.at + 1) row) c.index-rows-at.is)
