use Rattle.calls_locks.proofs.locks.a_debit_and_a_credit_are_settled.Given as goal

abbrev pub ghosts-settled : goal.ghosts-settled
ghosts-settled g a = record { table = a.loose.table }
