use Rattle.calls_locks.proofs.locks.purses_at_the_ends_of_their_range_are_taken.Given as goal

abbrev pub ghosts-taken_at_the_ends : goal.ghosts-taken_at_the_ends
ghosts-taken_at_the_ends g a = record { table = a.loose.table }
