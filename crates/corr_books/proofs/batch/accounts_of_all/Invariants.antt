use Rattle.std.proofs.Common.{take}
use Rattle.corr_books.proofs.Gathered.{Gathers}
use Rattle.corr_books.proofs.batch.accounts_of_all.Given as goal

-- the accounts of the pays so far
abbrev pub invariant-loop-p : goal.invariant-loop-p
invariant-loop-p l = Gathers l.a (take l.p-index l.pays) l.numbers.items
