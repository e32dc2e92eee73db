use Rattle.std.proofs.Common.{◌≡◌, take}
use Rattle.day_model.specs.Balance.{balance_of}
use Rattle.day_model.proofs.funds.balance.Given as goal

abbrev pub invariant-loop-entry : goal.invariant-loop-entry
invariant-loop-entry l = l.balance ≡ balance_of l.fn.a (take l.entry-index l.entry-items) l.n.0
