-- What the workers of a core enter into: the history, and one purse per account.
use Rattle.std.specs.Prelude.{◌≡◌, ℕ, ◌-◌, ◌&&◌, ◌||◌, Bool, false, not, List, [], ◌∷◌, Some, length, slice_get, slice_set, is_some, unwrap_or, option_map, ℤ, pos, nat_lt, if◌then◌else◌}
use Rattle.corr_ids.specs.declared.day.Day.{Day}
use Rattle.day_model.specs.declared.pay.Leg.{Leg}
use Rattle.day_model.specs.declared.pay.Pay.{Pay}
use Rattle.day_model.specs.declared.entry.Entry.{Entry}
use Rattle.day_model.specs.declared.core_job.Mark.{Mark}
use Rattle.day_model.specs.declared.core_job.Mark.TheVariants.{Entered, Refused}
use Rattle.day_model.specs.Chart.{Chart, IsChart, IsListed, accounts_of}
use Rattle.day_model.specs.Log.{most_entries}
use Rattle.day_model.specs.Balance.{balance_of, changed, is_booked, outcome_of}
use Rattle.day_model.specs.Next.{entered_at, next_history}
use Rattle.day_model.specs.Legal.{IsLegal}
use Rattle.day_model.specs.Laws.{IsLatest}

-- accounts, the day of what is entered, the entries, a balance per account, and whether a fault came
pub record LedgerState : Type 0 where
  pub chart : Chart
  pub day : Day
  pub entries : List Entry
  pub purses : List ℤ
  pub broken : Bool

-- account n's purse; 0 where there is none
abbrev pub purse_of : List ℤ → ℕ → ℤ
purse_of purses n = unwrap_or (slice_get purses (n - 1)) (pos 0)

-- a leg added to the purse of its account
abbrev pub with_leg : List ℤ → Leg → List ℤ
with_leg purses leg = slice_set purses (leg.account.0 - 1) (changed leg.side leg.amount.0 (purse_of purses leg.account.0))

-- legs added one after another
abbrev pub with_legs : List ℤ → List Leg → List ℤ
with_legs purses [] = purses
with_legs purses (leg ∷ legs) = with_legs (with_leg purses leg) legs

-- a pay's reference is in the history
abbrev pub is_entered : LedgerState → Pay → Bool
is_entered ledger pay = is_some (entered_at pay.mir ledger.entries)

-- nothing after a fault, and no new reference in a full history
abbrev pub may_enter : LedgerState → Pay → Bool
may_enter ledger pay = not ledger.broken && (is_entered ledger pay || nat_lt (length ledger.entries) most_entries)

-- the legs of a new and booked entry are added
abbrev pub purses_after : LedgerState → Pay → List ℤ
purses_after ledger pay =
    if is_entered ledger pay then ledger.purses
    else if is_booked (outcome_of ledger.chart ledger.entries pay) then with_legs ledger.purses pay.legs else ledger.purses

-- the ledger after a Commit of a pay: it is entered if it may be
abbrev pub ledger_after : LedgerState → Pay → LedgerState
ledger_after ledger pay =
    if may_enter ledger pay
    then record ledger { entries = next_history ledger.chart ledger.entries pay ledger.day; purses = purses_after ledger pay }
    else ledger

-- what a Commit says of a job: its reference is in the history, or it may not enter
abbrev pub mark_of : LedgerState → Pay → Mark
mark_of ledger pay = if may_enter ledger pay then Entered else Refused

-- the day of the last entry, or 1980-01-01
abbrev pub day_of_last : List Entry → Day
day_of_last entries = unwrap_or (option_map (λ entry. entry.day) (slice_get entries (length entries - 1))) (record { 0 = pos 3652 })

-- each account's purse is its balance
pub record AreAtBalance (chart : Chart) (entries : List Entry) (purses : List ℤ) : Type 0 where
  pub one_each : length purses ≡ length (accounts_of chart)
  pub balances : (n : ℕ) → IsListed chart n → slice_get purses (n - 1) ≡ Some (balance_of chart entries n)

-- the history is legal, no entry has a later day, and purses are at their balances
pub record IsSoundLedger (ledger : LedgerState) : Type 0 where
  pub chart : IsChart ledger.chart
  pub legal : IsLegal ledger.chart ledger.entries
  pub latest : IsLatest ledger.entries ledger.day
  pub purses : AreAtBalance ledger.chart ledger.entries ledger.purses

-- no worker has begun: the ledger of a history
pub record IsFirstLedger (chart : Chart) (entries : List Entry) (ledger : LedgerState) : Type 0 where
  pub chart_is : ledger.chart ≡ chart
  pub entries_are : ledger.entries ≡ entries
  pub day : ledger.day ≡ day_of_last entries
  pub purses : AreAtBalance chart entries ledger.purses
  pub whole : ledger.broken ≡ false
