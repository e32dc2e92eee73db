use Rattle.calls_statements.proofs.statements.statements.Goals as goal

pub printed-requires-clause-grown : goal.printed-requires-clause-grown
printed-requires-clause-grown c = (c.in_ok-h.index, c.in_ok-h.ensures)
