use Rattle.calls_locks.proofs.locks.two_threads_take_two_accounts_each.Given as goal

abbrev pub ghosts-in_two_threads : goal.ghosts-in_two_threads
ghosts-in_two_threads g a = record { table = a.loose.table }
