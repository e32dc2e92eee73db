use Rattle.day_model.proofs.CorePurses.{Opened}
use Rattle.day_model.proofs.core_ledger.balances.Given as goal

abbrev pub invariant-loop-at : goal.invariant-loop-at
invariant-loop-at l = Opened l.fn.a l.fn.h.entries l.at l.purses.items
