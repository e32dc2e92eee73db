use Rattle.corr_books.specs.Opening.{opening_with, past_of}
use Rattle.corr_top.proofs.serving.serve_stream.Given as goal

-- the books of this opening, with a pass for each worker and so many entries under one sync, and what the disk might have left until then
abbrev pub ghosts-serve_fed-N-BooksName : goal.ghosts-serve_fed-N-BooksName
ghosts-serve_fed-N-BooksName g a = record { opening = opening_with g.D.Disk a.opened a.workers a.entries; past = past_of g.D.Disk a.opened }

abbrev pub ghosts-serve_fed-N-Name : goal.ghosts-serve_fed-N-Name
ghosts-serve_fed-N-Name g a = record { table = a.opened.purses }

-- the file of this source
abbrev pub ghosts-serve_fed-F-FileName : goal.ghosts-serve_fed-F-FileName
ghosts-serve_fed-F-FileName g a = record { left = g.S.Source.left a.source; faults = g.S.Source.faults a.source }
