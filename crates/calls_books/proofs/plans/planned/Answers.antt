use Rattle.calls_books.proofs.plans.planned.Goals as goal

pub plan-requires-clause-message : goal.plan-requires-clause-message
plan-requires-clause-message c = (c.args.desk.now.tables, c.requires)
