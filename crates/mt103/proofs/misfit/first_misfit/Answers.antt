use Rattle.std.proofs.Common.{◌∙◌, sym}
use Rattle.mt103.specs.Instructions.{misfits}
use Rattle.mt103.proofs.FirstGiven.{given-more, given-here, given-end}
use Rattle.mt103.proofs.misfit.first_misfit.Goals as goal

pub returns-then-misfits-clause-value : goal.returns-then-misfits-clause-value
returns-then-misfits-clause-value c = sym (c.loop-at.invariant ∙ given-here (misfits c.args.misfit) c.args.instrs.now c.loop-at.at c.index-instrs-at.result c.index-instrs-at.is (sym c.misfits.ensures ∙ c.if-misfits.true) c.loop-at-test.true)

pub loop-at-preserved : goal.loop-at-preserved
loop-at-preserved c = c.loop-at.invariant ∙ given-more (misfits c.args.misfit) c.args.instrs.now c.loop-at.at c.index-instrs-at.result c.index-instrs-at.is (sym c.misfits.ensures ∙ c.if-misfits.false) c.loop-at-test.true

pub returns-clause-value : goal.returns-clause-value
returns-clause-value c = sym (c.loop-at.invariant ∙ given-end (misfits c.args.misfit) c.args.instrs.now c.loop-at.at c.loop-at-test.false)
