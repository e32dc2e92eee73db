use Rattle.calls_locks.proofs.locks.locks_that_are_given_back_are_free.Given as goal

abbrev pub ghosts-given_back : goal.ghosts-given_back
ghosts-given_back g a = record { table = a.loose.table }
