-- Totals of accounts: what a history credits to and debits from each.
use Rattle.std.specs.Prelude.{◌≡◌, ℕ, zero, suc, ◌+◌, ◌<◌, ◌≤◌, ◌^◌, List, [], ◌∷◌, ◌++◌, length, Option, Some, None, slice_get, ℤ, pos, ◌+ℤ◌, ◌-ℤ◌, sum_by, if◌then◌else◌}
use Rattle.day_model.specs.declared.pay.Side.{Side}
use Rattle.day_model.specs.declared.pay.Side.TheVariants.{Debit, Credit}
use Rattle.day_model.specs.declared.pay.Leg.{Leg}
use Rattle.day_model.specs.declared.entry.Entry.{Entry}
use Rattle.day_model.specs.Chart.{Chart}
use Rattle.day_model.specs.Balance.{is_booked, moved, credits_of, debits_of, opening_of, balance_of}
use Rattle.day_model.specs.Legal.{IsLegal}

-- an account's totals: its credits, then its debits
abbrev pub Pair : Type 0
Pair = ℕ × ℕ

-- two pairs added, side by side
abbrev pub plus : Pair → Pair → Pair
plus p q = (p.0 + q.0, p.1 + q.1)

-- both totals fit 64 bits
abbrev pub Fits64 : Pair → Type 0
Fits64 p = (p.0 < 2 ^ 64) × (p.1 < 2 ^ 64)

-- an amount on one side
abbrev pub on_side : Side → ℕ → Pair
on_side Credit amount = (amount, 0)
on_side Debit amount = (0, amount)

-- what a leg adds to the totals of its account
abbrev pub leg_pair : Leg → Pair
leg_pair leg = on_side leg.side leg.amount.0

-- what legs add to the totals of account n
abbrev pub legs_pair : ℕ → List Leg → Pair
legs_pair n legs = (sum_by (moved Credit n) legs, sum_by (moved Debit n) legs)

-- the legs that an entry books: none where it is unfunded
abbrev pub booked_legs : Entry → List Leg
booked_legs entry = if is_booked entry.outcome then entry.pay.legs else []

-- the totals of account n after a history
abbrev pub totals_of : ℕ → List Entry → Pair
totals_of n entries = (credits_of entries n, debits_of entries n)

-- the pair of account n, in a list that begins with account 1's
abbrev pub pair_at : List Pair → ℕ → Option Pair
pair_at pairs zero = None
pair_at pairs (suc k) = slice_get pairs k

-- a pair for each of `count` accounts
pub record HasPairs (pairs : List Pair) (count : ℕ) (pair_of : ℕ → Pair) : Type 0 where
  pub size : length pairs ≡ count
  pub each : (n : ℕ) → 1 ≤ n → n ≤ count → pair_at pairs n ≡ Some (pair_of n)

-- the totals of each of `count` accounts after a history
abbrev pub HasTotals : List Pair → ℕ → List Entry → Type 0
HasTotals pairs count entries = HasPairs pairs count (λ n. totals_of n entries)

-- the balance of account n with these totals
abbrev pub balance_with : Chart → ℕ → Pair → ℤ
balance_with chart n totals = (opening_of chart n +ℤ pos totals.0) -ℤ pos totals.1

-- a balance is the opening, plus the credits and minus the debits of the account's totals
abbrev pub BalanceIsByTotals : Type 0
BalanceIsByTotals = (chart : Chart) (entries : List Entry) (n : ℕ) → balance_of chart entries n ≡ balance_with chart n (totals_of n entries)

-- an entry adds the legs that it books
abbrev pub EntryAddsItsLegs : Type 0
EntryAddsItsLegs = (entries : List Entry) (entry : Entry) (n : ℕ) → totals_of n (entries ++ entry ∷ []) ≡ plus (totals_of n entries) (legs_pair n (booked_legs entry))

-- after a legal history the totals of an account fit 64 bits
abbrev pub LegalTotalsFit : Type 0
LegalTotalsFit = (chart : Chart) (entries : List Entry) (n : ℕ) → IsLegal chart entries → Fits64 (totals_of n entries)
