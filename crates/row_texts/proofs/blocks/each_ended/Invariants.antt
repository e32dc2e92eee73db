use Rattle.std.proofs.Common.{length}
use Rattle.row_texts.proofs.Lines.{IsCopied}
use Rattle.row_texts.proofs.blocks.each_ended.Given as goal

-- the lines copied so far
abbrev pub invariant-loop-rest : goal.invariant-loop-rest
invariant-loop-rest l = IsCopied l.text l.rest l.b

abbrev pub decreases-loop-rest : goal.decreases-loop-rest
decreases-loop-rest l = length l.rest
