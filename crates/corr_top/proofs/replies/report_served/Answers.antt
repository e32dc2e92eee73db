use Rattle.corr_top.proofs.Reporting.{reported_all}
use Rattle.corr_top.proofs.replies.report_served.Goals as goal

pub reply_lines_by-requires-clause-served : goal.reply_lines_by-requires-clause-served
reply_lines_by-requires-clause-served g c κs within = record { replies = c.requires.served.0; are = c.requires.served.1; names = c.requires.served.2 }

pub returns : goal.returns
returns g c = reported_all c.args.a.now c.args.h.now.entries c.args.served.now c.in_ok-report.report c.put_report_end.new.out c.in_ok-report.ensures c.in_ok-put_report_end.ensures.text
