use Rattle.std.proofs.Common.{◌≡◌, take}
use Rattle.corr_report.specs.Lines.{numbered}
use Rattle.corr_report.specs.Report.{reply_line}
use Rattle.corr_report.proofs.replies.report.Given as goal

-- the lines so far
abbrev pub invariant-loop-at : goal.invariant-loop-at
invariant-loop-at l = l.out ≡ numbered (reply_line l.a l.h.entries) 1 (take l.at l.replies)
