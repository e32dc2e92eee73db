use Rattle.calls_statements.proofs.received.takes_the_first.Goals as goal

pub compared-requires-clause-grown : goal.compared-requires-clause-grown
compared-requires-clause-grown c = (c.in_ok-given.given.1, c.in_ok-given.ensures)
