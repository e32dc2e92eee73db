use Rattle.corr_books.specs.Opening.{opening_with, past_of}
use Rattle.calls_shared.proofs.books.book_turn.Given as goal

-- these very parts
abbrev pub ghosts-book_turn_as-N-BooksName : goal.ghosts-book_turn_as-N-BooksName
ghosts-book_turn_as-N-BooksName g a = record { opening = opening_with g.D.Disk a.opened a.made 1; past = past_of g.D.Disk a.opened }

abbrev pub ghosts-book_turn_as-N-Name : goal.ghosts-book_turn_as-N-Name
ghosts-book_turn_as-N-Name g a = record { table = a.opened.purses }
