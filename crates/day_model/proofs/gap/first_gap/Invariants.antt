use Rattle.day_model.proofs.Openings.{SoFar}
use Rattle.day_model.proofs.gap.first_gap.Given as goal

abbrev pub invariant-loop-row : goal.invariant-loop-row
invariant-loop-row l = SoFar l.rows l.row-index l.first
