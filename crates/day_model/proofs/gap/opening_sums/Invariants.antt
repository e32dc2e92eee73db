use Rattle.std.proofs.Common.{take}
use Rattle.day_model.specs.inner.Gap.{AreOpeningSums}
use Rattle.day_model.proofs.gap.opening_sums.Given as goal

abbrev pub invariant-loop-row : goal.invariant-loop-row
invariant-loop-row l = AreOpeningSums l.sums.entries (take l.row-index l.rows)
