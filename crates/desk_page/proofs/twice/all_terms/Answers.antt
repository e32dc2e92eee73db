use Rattle.desk_page.proofs.Known.{terms_more}
use Rattle.desk_page.proofs.twice.all_terms.Goals as goal

pub loop-row-preserved : goal.loop-row-preserved
loop-row-preserved c =
    terms_more c.args.rows.now c.loop-row.row-index c.row-item.result c.loop-row.all.items _ c.in_ok-terms.terms c.loop-row-test.true c.loop-row.invariant c.in_ok-terms.ensures c.row-item.is c.in_ok-push.ensures.items
