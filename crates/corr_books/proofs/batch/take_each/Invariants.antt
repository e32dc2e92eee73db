use Rattle.corr_books.proofs.Gathered.{HasTaken}
use Rattle.corr_books.proofs.batch.take_each.Given as goal

-- the accounts so far are held
abbrev pub invariant-loop-n : goal.invariant-loop-n
invariant-loop-n g l = HasTaken l.initial.held l.numbers l.n-index l.last l.held
