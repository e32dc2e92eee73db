use Rattle.std.proofs.Common.{length}
use Rattle.jrn_book.proofs.deciding.+held_test.Given as goal

abbrev pub decreases-held_test : goal.decreases-held_test
decreases-held_test g l = length l.legs.now
