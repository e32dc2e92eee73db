use Rattle.std.proofs.Common.{length}
use Rattle.corr_text.specs.Lines.{lines_of}
use Rattle.fin_fields.proofs.CutSoFar.{CutSoFar}
use Rattle.fin_fields.proofs.cutting.group_lines.Given as goal

abbrev pub invariant-loop-rest : goal.invariant-loop-rest
invariant-loop-rest l = CutSoFar (lines_of l.fn.text) (lines_of l.rest) l.fn.first l.fields l.number l.plain l.fn.plain

abbrev pub decreases-loop-rest : goal.decreases-loop-rest
decreases-loop-rest l = length l.rest
