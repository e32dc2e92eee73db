use Rattle.calls_locks.proofs.locks.each_account_is_taken_again.Given as goal

abbrev pub ghosts-taken_twice : goal.ghosts-taken_twice
ghosts-taken_twice g a = record { table = a.loose.table }
