use Rattle.std.proofs.Common.{◌∙◌}
use Rattle.day_model.specs.declared.pay.Side.TheVariants.{Debit, Credit}
use Rattle.corr_report.proofs.Sums.{sum_fits, sum_is}
use Rattle.corr_report.proofs.laws.LineLists.{total_more}
use Rattle.corr_report.proofs.totals.put_totals.Goals as goal

pub sum_of-debits-requires-clause-fits : goal.sum_of-debits-requires-clause-fits
sum_of-debits-requires-clause-fits c =
    sum_fits Debit c.args.a.now c.args.h.now.entries _ c.in_ok-pairs.pairs.items _ c.requires c.in_ok-pairs.ensures.value c.as_slice.ensures.value

pub sum_of-credits-requires-clause-fits : goal.sum_of-credits-requires-clause-fits
sum_of-credits-requires-clause-fits c =
    sum_fits Credit c.args.a.now c.args.h.now.entries _ c.in_ok-pairs.pairs.items _ c.requires c.in_ok-pairs.ensures.value c.as_slice-in-loop-unit.ensures.value

pub loop-unit-preserved : goal.loop-unit-preserved
loop-unit-preserved c =
    let l = c.loop-unit in
    let chart = c.args.a.now in
    let entries = c.args.h.now.entries in
    let pairs = c.in_ok-pairs.pairs.items in
    let debits = c.sum_of-debits.ensures ∙ sum_is Debit chart entries _ pairs _ c.requires c.in_ok-pairs.ensures.value c.as_slice.ensures.value in
    let credits = c.sum_of-credits.ensures ∙ sum_is Credit chart entries _ pairs _ c.requires c.in_ok-pairs.ensures.value c.as_slice-in-loop-unit.ensures.value in
    total_more chart entries c.as_slice-unit-items.result.now l.unit-index _ c.args.out.now l.out _ _ _ c.loop-unit-test.true l.invariant debits credits c.in_ok-put_line.ensures
