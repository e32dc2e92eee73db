use Rattle.corr_books.proofs.stand.Stand.book.Given as goal

-- the pay that was answered
abbrev pub ghosts-tell : goal.ghosts-tell
ghosts-tell g a = record { pay = a.of.now }
