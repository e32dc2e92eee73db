use Rattle.corr_books.proofs.stand.Stand.book_all.Given as goal

-- the pays that are booked
abbrev pub ghosts-book_all_as : goal.ghosts-book_all_as
ghosts-book_all_as g a = record { pays = a.pays.items }
