use Rattle.std.proofs.Common.{pos}
use Rattle.corr_report.specs.Bookings.{AreInCentury}
use Rattle.day_model.specs.Legal.{IsLegal}
use Rattle.day_model.specs.Laws.{IsLatest}
use Rattle.desk_rows.specs.Entries.{AreValued}
use Rattle.row_payments.proofs.histories.history_in.Given as goal

abbrev pub invariant-loop-cells : goal.invariant-loop-cells
invariant-loop-cells l = IsLegal l.a l.h.entries × IsLatest l.h.entries (record { 0 = pos 19877 }) × AreInCentury l.h.entries × AreValued l.h.entries
