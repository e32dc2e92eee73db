use Rattle.std.proofs.Common.{length, take}
use Rattle.day_model.specs.Chart.{accounts_of}
use Rattle.day_model.specs.Totals.{HasTotals}
use Rattle.desk_rows.specs.Until.{entries_until}
use Rattle.desk_rows.proofs.until.totals_until.Given as goal

-- the totals of the entries so far
abbrev pub invariant-loop-at : goal.invariant-loop-at
invariant-loop-at l = HasTotals l.pairs.items (length (accounts_of l.fn.a)) (entries_until l.fn.until (take l.at l.fn.h.entries))
