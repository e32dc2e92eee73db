-- Balances, and what decides whether a pay is booked.
use Rattle.std.specs.Prelude.{ℕ, ◌+◌, ◌==◌, ◌&&◌, Bool, true, false, List, [], ◌∷◌, length, Option, Some, None, ℤ, pos, ◌+ℤ◌, ◌-ℤ◌, int_le, sum_by, unwrap_or, option_map, if◌then◌else◌}
use Rattle.corr_text.specs.First.{first_of, unless}
use Rattle.day_model.specs.declared.account.Account.{Account}
use Rattle.day_model.specs.declared.pay.Side.{Side}
use Rattle.day_model.specs.declared.pay.Side.TheVariants.{Debit, Credit}
use Rattle.day_model.specs.declared.pay.Leg.{Leg}
use Rattle.day_model.specs.declared.pay.Pay.{Pay}
use Rattle.day_model.specs.declared.entry.Entry.{Entry}
use Rattle.day_model.specs.declared.entry.Outcome.{Outcome}
use Rattle.day_model.specs.declared.entry.Outcome.TheVariants.{Booked, Unfunded}
use Rattle.day_model.specs.Chart.{Chart, account_at, chart_at}
use Rattle.day_model.specs.Fit.{is_side}

-- whether an outcome is Booked
abbrev pub is_booked : Outcome → Bool
is_booked Booked = true
is_booked (Unfunded _ _) = false

-- what a leg moves on one side of account n
abbrev pub moved : Side → ℕ → Leg → ℕ
moved side n leg = if is_side side leg.side && (leg.account.0 == n) then leg.amount.0 else 0

-- what an entry moves there: only a booked one does
abbrev pub moved_by : Side → ℕ → Entry → ℕ
moved_by side n entry = if is_booked entry.outcome then sum_by (moved side n) entry.pay.legs else 0

-- the credits and the debits of account n
abbrev pub credits_of : List Entry → ℕ → ℕ
credits_of entries n = sum_by (moved_by Credit n) entries

-- the sum of what entries debit to account n
abbrev pub debits_of : List Entry → ℕ → ℕ
debits_of entries n = sum_by (moved_by Debit n) entries

-- an account's opening balance; 0 for a number that no account has
abbrev pub opening_of : Chart → ℕ → ℤ
opening_of chart n = unwrap_or (option_map (λ account. account.opening) (account_at chart n)) (pos 0)

-- an account's balance: its opening, plus its credits, minus its debits
abbrev pub balance_of : Chart → List Entry → ℕ → ℤ
balance_of chart entries n = (opening_of chart n +ℤ pos (credits_of entries n)) -ℤ pos (debits_of entries n)

-- a balance changed by a leg
abbrev pub changed : Side → ℕ → ℤ → ℤ
changed Credit amount balance = balance +ℤ pos amount
changed Debit amount balance = balance -ℤ pos amount

-- the account is there, and the balance lies within its floor and ceiling
abbrev pub is_within : Option Account → ℤ → Bool
is_within (Some account) balance = int_le account.floor balance && int_le balance account.ceil
is_within None balance = false

-- leg k must leave its account within the floor and the ceiling that it has after these entries
abbrev pub leg_test : Chart → List Entry → ℕ → Leg → Option Outcome
leg_test chart entries k leg =
    let balance = balance_of chart entries leg.account.0 in
    unless (is_within (account_at (chart_at chart (length entries)) leg.account.0) (changed leg.side leg.amount.0 balance)) (Unfunded k balance)

-- the tests of the legs one by one, the first of which is leg k
abbrev pub leg_tests : Chart → List Entry → ℕ → List Leg → List (Option Outcome)
leg_tests chart entries k [] = []
leg_tests chart entries k (leg ∷ legs) = leg_test chart entries k leg ∷ leg_tests chart entries (k + 1) legs

-- Booked, or else Unfunded with the first leg that fails, from 1, and its balance
abbrev pub outcome_of : Chart → List Entry → Pay → Outcome
outcome_of chart entries pay = unwrap_or (first_of (leg_tests chart entries 1 pay.legs)) Booked
