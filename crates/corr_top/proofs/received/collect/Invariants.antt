use Rattle.corr_top.proofs.Collected.{HasCollected}
use Rattle.corr_top.proofs.received.collect.Given as goal

-- what is still to be added and to be found
abbrev pub invariant-loop-at : goal.invariant-loop-at
invariant-loop-at l = HasCollected l.a l.h.entries l.tables l.messages l.fn.report l.at l.report l.pages.items
