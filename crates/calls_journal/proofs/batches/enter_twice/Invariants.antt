use Rattle.calls_journal.proofs.batches.enter_twice.Given as goal

-- the table of these very purses
abbrev pub ghosts-give_twice : goal.ghosts-give_twice
ghosts-give_twice g a = record { table = a.book.table }
