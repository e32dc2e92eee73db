use Rattle.calls_journal.proofs.charged.a_pay_of_three_legs_is_entered.Given as goal

-- the table of these very purses
abbrev pub ghosts-entered : goal.ghosts-entered
ghosts-entered g a = record { table = a.book.table }
