use Rattle.std.proofs.Common.{length}
use Rattle.jrn_book.proofs.deciding.+pairs_test.Given as goal

abbrev pub decreases-pairs_test : goal.decreases-pairs_test
decreases-pairs_test l = length l.legs.now
