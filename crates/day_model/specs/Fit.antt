-- Which pays fit a book's accounts.
use Rattle.std.specs.Prelude.{ℕ, ◌==◌, ◌&&◌, Bool, true, false, not, List, [], ◌∷◌, length, Option, Some, None, nat_lt, nat_le, sum_by, slice_get, IsTrue, if◌then◌else◌, ◌-◌}
use Rattle.std.specs.List.{list_all}
use Rattle.corr_money.specs.Amounts.{amount_end}
use Rattle.day_model.specs.declared.account.Account.{Account}
use Rattle.day_model.specs.declared.pay.Side.{Side}
use Rattle.day_model.specs.declared.pay.Side.TheVariants.{Debit, Credit}
use Rattle.day_model.specs.declared.pay.Leg.{Leg}
use Rattle.day_model.specs.declared.pay.Pay.{Pay}
use Rattle.day_model.specs.Chart.{Chart, accounts_of, is_same_ccy}

-- two sides are the same
abbrev pub is_side : Side → Side → Bool
is_side Debit Debit = true
is_side Credit Credit = true
is_side Debit Credit = false
is_side Credit Debit = false

-- what a leg has on one side
abbrev pub amount_on : Side → Leg → ℕ
amount_on side leg = if is_side side leg.side then leg.amount.0 else 0

-- what legs have on one side together
abbrev pub side_sum : Side → List Leg → ℕ
side_sum side legs = sum_by (amount_on side) legs

-- a leg's amount is above 0 and below 10^14
abbrev pub has_amount : Leg → Bool
has_amount leg = nat_lt 0 leg.amount.0 && nat_lt leg.amount.0 amount_end

-- two legs are on two accounts
abbrev pub is_apart_from : Leg → Leg → Bool
is_apart_from leg other = not (leg.account.0 == other.account.0)

-- no two legs are on one account
abbrev pub are_apart : List Leg → Bool
are_apart [] = true
are_apart (leg ∷ legs) = list_all (is_apart_from leg) legs && are_apart legs

-- the first leg is a debit
abbrev pub begin_with_debit : List Leg → Bool
begin_with_debit [] = false
begin_with_debit (leg ∷ legs) = is_side Debit leg.side

-- the debits sum to what the credits sum to
abbrev pub are_even : List Leg → Bool
are_even legs = side_sum Debit legs == side_sum Credit legs

-- two legs or three on distinct accounts, a debit first, each amount above 0 and below 10^14, with as much debited as credited
abbrev pub are_legs : List Leg → Bool
are_legs legs = nat_le 2 (length legs) && nat_le (length legs) 3 && begin_with_debit legs && list_all has_amount legs && are_apart legs && are_even legs

-- an account of a list, by its number from 1
abbrev pub account_in : List Account → ℕ → Option Account
account_in accounts n = slice_get accounts (n - 1)

-- a list has an account of this number
abbrev pub is_in : List Account → ℕ → Bool
is_in accounts n = nat_le 1 n && nat_le n (length accounts)

-- both accounts are there and have one currency
abbrev pub same_ccy : Option Account → Option Account → Bool
same_ccy (Some a) (Some b) = is_same_ccy a.ccy b.ccy
same_ccy (Some a) None = false
same_ccy None b = false

-- a leg's account is in the list, and has the currency of account n
abbrev pub is_beside : List Account → ℕ → Leg → Bool
is_beside accounts n leg = is_in accounts leg.account.0 && same_ccy (account_in accounts n) (account_in accounts leg.account.0)

-- the legs are on accounts of the list that have one currency
abbrev pub fit_in : List Account → List Leg → Bool
fit_in accounts [] = true
fit_in accounts (first ∷ legs) = is_in accounts first.account.0 && list_all (is_beside accounts first.account.0) legs

-- legs of a pay, on accounts of a book that have one currency
abbrev pub legs_fit : Chart → List Leg → Bool
legs_fit chart legs = are_legs legs && fit_in (accounts_of chart) legs

-- the pay fits the accounts of a book
abbrev pub FitsAccounts : Chart → Pay → Type 0
FitsAccounts chart pay = IsTrue (legs_fit chart pay.legs)

-- an account has this number
abbrev pub is_listed : Chart → ℕ → Bool
is_listed chart n = is_in (accounts_of chart) n

-- distinct accounts of the book, of one currency
abbrev pub accounts_fit : Chart → ℕ → ℕ → Bool
accounts_fit chart debit credit =
    is_listed chart debit && is_listed chart credit && not (debit == credit) && same_ccy (account_in (accounts_of chart) debit) (account_in (accounts_of chart) credit)
