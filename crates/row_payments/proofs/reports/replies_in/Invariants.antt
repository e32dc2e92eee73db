use Rattle.std.specs.Prelude.{All}
use Rattle.corr_report.specs.Report.{NamesPlace}
use Rattle.row_payments.proofs.reports.replies_in.Given as goal

abbrev pub invariant-loop-cells : goal.invariant-loop-cells
invariant-loop-cells l = All (NamesPlace l.h.entries) l.replies
