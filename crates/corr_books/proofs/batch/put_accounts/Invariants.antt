use Rattle.std.proofs.Common.{◌≡◌, ◌++◌, map, take}
use Rattle.corr_books.proofs.batch.put_accounts.Given as goal

abbrev pub invariant-loop-leg : goal.invariant-loop-leg
invariant-loop-leg l = l.numbers.items ≡ l.initial.numbers.items ++ map (λ leg. leg.account.0) (take l.leg-index l.legs)
