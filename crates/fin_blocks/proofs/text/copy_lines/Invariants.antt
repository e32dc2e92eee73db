use Rattle.std.proofs.Common.{length}
use Rattle.fin_blocks.proofs.Lines.{IsCopied}
use Rattle.fin_blocks.proofs.text.copy_lines.Given as goal

-- the lines copied so far
abbrev pub invariant-loop-rest : goal.invariant-loop-rest
invariant-loop-rest l = IsCopied l.text l.rest l.b

abbrev pub decreases-loop-rest : goal.decreases-loop-rest
decreases-loop-rest l = length l.rest
