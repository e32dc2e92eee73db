-- What the workers of a core enter into: the history, and one purse per account.
use Rattle.std.specs.Prelude.{◌<◌, ◌≤◌, List, [], ◌∷◌, length, ℤ}
use Rattle.corr_money.specs.Amounts.{amount_end}
use Rattle.day_model.specs.declared.pay.Leg.{Leg}
use Rattle.day_model.specs.Chart.{IsSmall}
use Rattle.day_model.specs.CoreLedger.{purse_of, with_leg}

-- a leg's account has a purse, and neither the purse nor the amount is large
pub record CanAdd (purses : List ℤ) (leg : Leg) : Type 0 where
  pub from_one : 1 ≤ leg.account.0
  pub there : leg.account.0 ≤ length purses
  pub small : IsSmall (purse_of purses leg.account.0)
  pub amount : leg.amount.0 < amount_end

-- each leg can be added after those before it
abbrev pub CanAddAll : List ℤ → List Leg → Type 0
CanAddAll purses [] = Unit {0}
CanAddAll purses (leg ∷ legs) = CanAdd purses leg × CanAddAll (with_leg purses leg) legs
