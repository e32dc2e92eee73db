-- Decisions by the totals of accounts.
use Rattle.std.specs.Prelude.{List, All}
use Rattle.day_model.specs.declared.pay.Leg.{Leg}
use Rattle.acct_locks.specs.Holdings.{Holding, HoldsOnce}

-- the account of each leg is held, by one purse alone
abbrev pub HoldsAll : List Holding → List Leg → Type 0
HoldsAll held legs = All (λ leg. HoldsOnce held leg.account.0) legs
