use Rattle.std.proofs.Common.{refl}
use Rattle.fin_layout.proofs.TakenInTurn.{turn-due, turn-on, turn-end}
use Rattle.fin_layout.proofs.placing.missing_in_turn.Goals as goal

pub returns-in-Some-clause-value : goal.returns-in-Some-clause-value
returns-in-Some-clause-value c = turn-due c.loop-at.invariant _ refl c.loop-at-test.true c.if-at-free.false c.in-Some.due c.in-Some.ensures.value

pub loop-at-preserved : goal.loop-at-preserved
loop-at-preserved c = turn-on c.loop-at.invariant _ refl c.loop-at-test.true c.if-at-free.false c.in_default.ensures.value

pub returns-clause-value : goal.returns-clause-value
returns-clause-value c = turn-end c.loop-at.invariant _ c.loop-at-test.false c.first_due-2.ensures.value
