use Rattle.std.proofs.Common.{ℕ, ◌≤◌, List, length}
use Rattle.fin_frame.specs.Cutting.{WasFed}
use Rattle.row_texts.proofs.frame.cut.Given as goal

-- the cutter was fed as many bytes as are counted
abbrev pub invariant-loop-piece : goal.invariant-loop-piece
invariant-loop-piece l = ((fed : List ℕ) × WasFed l.cutter fed l.messages × (length fed ≤ l.bytes)) × (l.bytes ≤ 16777216)
