use Rattle.std.proofs.Common.{◌∙◌, sym}
use Rattle.fin_layout.proofs.PlacedSoFar.{missing-more, missing-here, missing-none}
use Rattle.fin_layout.proofs.placing.missing.Goals as goal

pub returns-then-is_missing-clause-value : goal.returns-then-is_missing-clause-value
returns-then-is_missing-clause-value c = missing-here c.loop-at.invariant _ c.loop-at-test.true (sym c.is_missing.ensures ∙ c.if-is_missing.true)

pub loop-at-preserved : goal.loop-at-preserved
loop-at-preserved c = missing-more c.loop-at.invariant _ c.loop-at-test.true (sym c.is_missing.ensures ∙ c.if-is_missing.false)

pub returns-clause-value : goal.returns-clause-value
returns-clause-value c = missing-none c.loop-at.invariant c.loop-at-test.false
