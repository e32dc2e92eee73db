use Rattle.corr_books.specs.Opening.{opening_with, past_of}
use Rattle.corr_top.proofs.returning.enter_alone.Given as goal

-- the books of this opening, with one pass and one entry under one sync, and what the disk might have left until then
abbrev pub ghosts-enter_named-N-BooksName : goal.ghosts-enter_named-N-BooksName
ghosts-enter_named-N-BooksName g a = record { opening = opening_with g.D.Disk a.opened 1 1; past = past_of g.D.Disk a.opened }

abbrev pub ghosts-enter_named-N-Name : goal.ghosts-enter_named-N-Name
ghosts-enter_named-N-Name g a = record { table = a.opened.purses }
