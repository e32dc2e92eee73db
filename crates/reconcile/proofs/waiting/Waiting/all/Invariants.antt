use Rattle.std.proofs.Common.{take}
use Rattle.reconcile.specs.inner.Waiting.{AllWait}
use Rattle.reconcile.proofs.waiting.Waiting.all.Given as goal

-- the entries so far wait
abbrev pub invariant-loop-entry : goal.invariant-loop-entry
invariant-loop-entry l = AllWait (take l.entry-index l.entries) l.waiting
