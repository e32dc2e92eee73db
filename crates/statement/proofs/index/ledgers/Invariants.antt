use Rattle.std.proofs.Common.{◌≡◌, [], map, take}
use Rattle.std.specs.Prelude.{All}
use Rattle.day_model.specs.Chart.{HasCode, accounts_of}
use Rattle.statement.specs.Index.{ledger_with}
use Rattle.statement.proofs.index.ledgers.Given as goal

abbrev pub invariant-loop-n : goal.invariant-loop-n
invariant-loop-n l = (l.ledgers.items ≡ map (λ account. ledger_with account []) (take l.n (accounts_of l.a))) × All HasCode (take l.n (accounts_of l.a))
