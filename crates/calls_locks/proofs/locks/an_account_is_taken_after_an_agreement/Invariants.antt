use Rattle.calls_locks.proofs.locks.an_account_is_taken_after_an_agreement.Given as goal

abbrev pub ghosts-taken_after_agreeing : goal.ghosts-taken_after_agreeing
ghosts-taken_after_agreeing g a = record { table = a.loose.table }
