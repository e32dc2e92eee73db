use Rattle.std.proofs.Common.{length, take}
use Rattle.day_model.specs.Chart.{accounts_of}
use Rattle.day_model.specs.Totals.{HasTotals}
use Rattle.day_model.proofs.account_totals.totals.Given as goal

abbrev pub invariant-loop-at : goal.invariant-loop-at
invariant-loop-at l = HasTotals l.pairs.items (length (accounts_of l.fn.a)) (take l.at l.fn.h.entries)
