use Rattle.calls_locks.proofs.lists.legs_are_settled_on_a_list.Given as goal

abbrev pub ghosts-settled : goal.ghosts-settled
ghosts-settled g a = record { table = a.loose.table }
