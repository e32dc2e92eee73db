use Rattle.std.proofs.Common.{◌≡◌, ◌+◌, drop}
use Rattle.corr_text.specs.First.{first_of}
use Rattle.mt950.specs.Joining.{carried_tests}
use Rattle.mt950.proofs.joining.check_carried.Given as goal

abbrev pub invariant-loop-at : goal.invariant-loop-at
invariant-loop-at l = first_of (carried_tests 1 l.first.opening.signed l.pages) ≡ first_of (carried_tests (l.at + 1) l.closing (drop l.at l.pages))
