use Rattle.std.proofs.Common.{◌≡◌, length, drop}
use Rattle.mt950.specs.Joining.{first_gap}
use Rattle.mt950.proofs.joining.first_gap.Given as goal

abbrev pub invariant-loop-at : goal.invariant-loop-at
invariant-loop-at l = first_gap l.first (length l.pages) 0 l.pages ≡ first_gap l.first (length l.pages) l.at (drop l.at l.pages)
