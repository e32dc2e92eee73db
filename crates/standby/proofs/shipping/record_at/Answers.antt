use Rattle.standby.proofs.Numbered.{first_at}
use Rattle.standby.proofs.shipping.record_at.Goals as goal

pub returns-then-number-eq1-clause-there : goal.returns-then-number-eq1-clause-there
returns-then-number-eq1-clause-there c = first_at c.args.head.now c.args.recs.now c.args.number c.if-number-eq1.true
