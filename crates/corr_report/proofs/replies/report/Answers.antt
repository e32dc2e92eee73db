use Rattle.std.proofs.Common.{◌+◌, [], refl}
use Rattle.corr_report.specs.Report.{reply_line}
use Rattle.corr_report.proofs.laws.LineLists.{numbered_more}
use Rattle.corr_report.proofs.replies.report.Goals as goal

pub loop-at-preserved : goal.loop-at-preserved
loop-at-preserved c =
    let l = c.loop-at in
    numbered_more (reply_line c.args.a.now c.args.h.now.entries) c.args.replies.now l.at (l.at + 1) (l.at + 1) _ [] l.out _ c.loop-at-test.true refl refl l.invariant c.in_ok-put_reply_line.ensures
