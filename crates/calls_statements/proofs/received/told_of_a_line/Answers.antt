use Rattle.calls_statements.proofs.received.told_of_a_line.Goals as goal

-- the accounts and the history are those of the index that was grown with them
pub told-requires-clause-grown : goal.told-requires-clause-grown
told-requires-clause-grown c = (c.in_ok-h._index, c.in_ok-h.ensures)
