use Rattle.std.proofs.Common.{◌≡◌, ◌++◌, drop}
use Rattle.reconcile.specs.Breaks.{most_compared, told_from}
use Rattle.reconcile.proofs.telling.breaks.Given as goal

-- what is told so far, and then of the pieces that are left, is what is told of all
abbrev pub invariant-loop-piece : goal.invariant-loop-piece
invariant-loop-piece l = told_from most_compared l.a l.h.entries l.piece-items ≡ l.out ++ told_from l.room l.a l.h.entries (drop l.piece-index l.piece-items)
