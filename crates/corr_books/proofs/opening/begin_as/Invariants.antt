use Rattle.corr_books.proofs.opening.begin_as.Given as goal

abbrev pub ghost-new : goal.ghost-new
ghost-new g a = g.B.Beginning.history
