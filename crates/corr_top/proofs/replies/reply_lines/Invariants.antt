use Rattle.corr_top.proofs.Reporting.{IsReportedTo}
use Rattle.corr_top.proofs.replies.reply_lines.Given as goal

abbrev pub invariant-loop-at : goal.invariant-loop-at
invariant-loop-at l = IsReportedTo l.a l.h.entries l.served l.first l.at l.lines
