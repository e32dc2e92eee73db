-- The accounts of a pay's legs, in rising order.
use Rattle.std.specs.Prelude.{◌≡◌, ◌⊎◌, ℕ, ◌<◌, ◌≤◌, All, List, [], ◌∷◌, length, Option, Some, None, nat_lt, if◌then◌else◌}
use Rattle.day_model.specs.declared.account.AcctNo.{AcctNo}
use Rattle.day_model.specs.declared.pay.Leg.{Leg}
use Rattle.day_model.specs.Chart.{Chart, accounts_of}
use Rattle.corr_books.specs.declared.rising.TwoOrThree.{TwoOrThree}

-- n is one of the numbers
abbrev pub IsOneOf : List ℕ → ℕ → Type 0
IsOneOf [] n = ⊥
IsOneOf (m ∷ numbers) n = (m ≡ n) ⊎ IsOneOf numbers n

-- numbers that rise, each above low and at most most
abbrev pub RiseBetween : ℕ → ℕ → List ℕ → Type 0
RiseBetween low most [] = Unit {0}
RiseBetween low most (n ∷ numbers) = (low < n) × (n ≤ most) × RiseBetween n most numbers

-- these two or three numbers rise, and are accounts of the chart, among them that of each leg
pub record AreRising (chart : Chart) (legs : List Leg) (numbers : List ℕ) : Type 0 where
  pub many : 2 ≤ length numbers
  pub few : length numbers ≤ 3
  pub rise : RiseBetween 0 (length (accounts_of chart)) numbers
  pub are : All (λ leg. IsOneOf numbers leg.account.0) legs

-- a number put before the first that is greater
abbrev pub inserted : ℕ → List ℕ → List ℕ
inserted n [] = n ∷ []
inserted n (m ∷ numbers) = if nat_lt n m then n ∷ m ∷ numbers else m ∷ inserted n numbers

-- the accounts of legs, sorted
abbrev pub sorted_accounts : List Leg → List ℕ
sorted_accounts [] = []
sorted_accounts (leg ∷ legs) = inserted leg.account.0 (sorted_accounts legs)

-- a third number, or none
abbrev pub third_of : Option AcctNo → List ℕ
third_of (Some n) = n.0 ∷ []
third_of None = []

-- two numbers or three
abbrev pub numbers_of : TwoOrThree → List ℕ
numbers_of accounts = accounts.low.0 ∷ accounts.next.0 ∷ third_of accounts.last
