use Rattle.corr_books.specs.Opening.{opening_with, past_of}
use Rattle.calls_shared.proofs.batches.book_both.Given as goal

-- these very parts, with two entries under one sync
abbrev pub ghosts-book_both_as-N-BooksName : goal.ghosts-book_both_as-N-BooksName
ghosts-book_both_as-N-BooksName g a = record { opening = opening_with g.D.Disk a.opened a.made 2; past = past_of g.D.Disk a.opened }

abbrev pub ghosts-book_both_as-N-Name : goal.ghosts-book_both_as-N-Name
ghosts-book_both_as-N-Name g a = record { table = a.opened.purses }
