use Rattle.std.proofs.Common.{◌≡◌, ℕ, List, ◌++◌, length}
use Rattle.corr_top.specs.inner.Feeding.{HasPassed}
use Rattle.corr_top.proofs.cutting.cut_in_pieces.Given as goal

abbrev pub invariant-loop-rest : goal.invariant-loop-rest
invariant-loop-rest l = (fed : List ℕ) × (fed ++ l.rest ≡ l.file) × HasPassed l.cutter fed l.messages

abbrev pub decreases-loop-rest : goal.decreases-loop-rest
decreases-loop-rest l = length l.rest
