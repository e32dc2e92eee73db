use Rattle.corr_books.proofs.opening.begin.Given as goal

-- the word begins with this history
abbrev pub ghosts-begin_as : goal.ghosts-begin_as
ghosts-begin_as a = record { history = a.history.now.entries }
