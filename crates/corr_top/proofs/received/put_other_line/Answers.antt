use Rattle.std.proofs.Common.{sym, subst}
use Rattle.corr_report.specs.Report.{NamesPlace}
use Rattle.corr_top.proofs.Replying.{names_none}
use Rattle.corr_top.proofs.received.put_other_line.Goals as goal

pub reply_line-requires-clause-place : goal.reply_line-requires-clause-place
reply_line-requires-clause-place c = subst (NamesPlace c.args.h.now.entries) (sym c.reply_for.ensures) (names_none c.args.h.now.entries c.args.why)
