use Rattle.std.proofs.Common.{◌+◌, Option, refl, sym, subst}
use Rattle.std.proofs.lemmas.Option.{slice_get_read}
use Rattle.day_model.specs.declared.gap.Gap.{Gap}
use Rattle.day_model.proofs.Openings.{SoFar, so_far_more, so_far_all}
use Rattle.day_model.proofs.gap.first_gap.Goals as goal

pub loop-row-preserved : goal.loop-row-preserved
loop-row-preserved c =
    let rows = c.args.rows.now in
    let at = slice_get_read rows _ c.loop-row.row-index c.row-item.result refl c.loop-row-test.true c.row-item.is in
    subst (λ (o : Option Gap). SoFar rows (c.loop-row.row-index + 1) o) (sym c.earlier-first.ensures)
    (so_far_more rows c.loop-row.row-index c.row-item.result c.loop-row.first c.gap_of.result c.loop-row.invariant at (c.gap_of.ensures rows c.in_ok-sums.ensures))

pub returns : goal.returns
returns c = so_far_all c.args.rows.now c.loop-row.row-index c.loop-row.first c.loop-row-test.false c.loop-row.invariant
