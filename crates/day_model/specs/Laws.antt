-- Laws of legal histories and of folds.
use Rattle.std.specs.Prelude.{◌≡◌, ℕ, ◌+◌, ◌<◌, ◌≤◌, ◌^◌, ◌&&◌, Bool, true, false, List, [], ◌∷◌, ◌++◌, length, map, take, Option, Some, None, slice_get, ℤ, pos, ◌+ℤ◌, ◌≤ℤ◌, sum_by, if◌then◌else◌}
use Rattle.corr_ids.specs.declared.mir.Mir.{Mir}
use Rattle.corr_ids.specs.declared.day.Day.{Day}
use Rattle.corr_money.specs.declared.amount.Ccy.{Ccy}
use Rattle.day_model.specs.declared.account.Account.{Account}
use Rattle.day_model.specs.declared.pay.Side.{Side}
use Rattle.day_model.specs.declared.pay.Side.TheVariants.{Debit, Credit}
use Rattle.day_model.specs.declared.pay.Leg.{Leg}
use Rattle.day_model.specs.declared.pay.Pay.{Pay}
use Rattle.day_model.specs.declared.entry.Entry.{Entry}
use Rattle.day_model.specs.Chart.{AreBy, Chart, IsListed, account_at, accounts_of, chart_at, is_same_ccy, with_change}
use Rattle.day_model.specs.declared.change.What.{What}
use Rattle.day_model.specs.Changes.{most_changes}
use Rattle.day_model.specs.Log.{most_entries}
use Rattle.day_model.specs.Fit.{FitsAccounts, is_side}
use Rattle.day_model.specs.Balance.{is_booked, is_within, balance_of, credits_of, debits_of}
use Rattle.day_model.specs.Next.{entered_at, next_history, fold_of}
use Rattle.day_model.specs.Legal.{FollowsRules, IsLegal, IsLegalChange, balance_named}

-- the sum of an amount over the accounts of a currency, of which the first has number n
abbrev pub sum_in : Ccy → (ℕ → ℤ) → ℕ → List Account → ℤ
sum_in ccy amount n [] = pos 0
sum_in ccy amount n (account ∷ accounts) = (if is_same_ccy account.ccy ccy then amount n else pos 0) +ℤ sum_in ccy amount (n + 1) accounts

-- the balances of each currency sum to 0
abbrev pub BalancesCancel : Chart → List Entry → Type 0
BalancesCancel chart entries = (ccy : Ccy) → sum_in ccy (balance_of chart entries) 1 (accounts_of chart) ≡ pos 0

-- the account is there and has this currency
abbrev pub in_ccy : Ccy → Option Account → Bool
in_ccy ccy (Some account) = is_same_ccy account.ccy ccy
in_ccy ccy None = false

-- what a leg moves on one side of a currency
abbrev pub moved_in : Chart → Ccy → Side → Leg → ℕ
moved_in chart ccy side leg = if is_side side leg.side && in_ccy ccy (account_at chart leg.account.0) then leg.amount.0 else 0

-- what an entry moves there: only a booked one does
abbrev pub entry_in : Chart → Ccy → Side → Entry → ℕ
entry_in chart ccy side entry = if is_booked entry.outcome then sum_by (moved_in chart ccy side) entry.pay.legs else 0

-- what the booked entries move on one side of a currency
abbrev pub turnover : Chart → Ccy → Side → List Entry → ℕ
turnover chart ccy side entries = sum_by (entry_in chart ccy side) entries

-- in each currency the booked entries debit as much as they credit
abbrev pub DebitsEqualCredits : Chart → List Entry → Type 0
DebitsEqualCredits chart entries = (ccy : Ccy) → turnover chart ccy Debit entries ≡ turnover chart ccy Credit entries

-- an account's credits and its debits each fit 64 bits
abbrev pub TotalsFit : List Entry → ℕ → Type 0
TotalsFit entries n = (credits_of entries n < 2 ^ 64) × (debits_of entries n < 2 ^ 64)

-- after each of the first entries that found account n there, its balance lay within the floor and the ceiling that it had then
abbrev pub WasWithin : Chart → List Entry → ℕ → Type 0
WasWithin chart entries n =
    (k : ℕ) → k ≤ length entries → IsListed (chart_at chart k) n → is_within (account_at (chart_at chart k) n) (balance_of chart (take k entries) n) ≡ true

-- no entry has a later day
abbrev pub IsLatest : List Entry → Day → Type 0
IsLatest entries day = (i : ℕ) (e : Entry) → slice_get entries i ≡ Some e → e.day.0 ≤ℤ day.0

-- with a pay entered on a day that is not before the last, the history is legal still
abbrev pub StaysLegal : Chart → List Entry → Pay → Type 0
StaysLegal chart entries pay = (day : Day) → IsLatest entries day → length entries < most_entries → IsLegal chart (next_history chart entries pay day)

-- without changes no entry yet is legal
abbrev pub EmptyIsLegal : Type 0
EmptyIsLegal = (chart : Chart) → chart.changes ≡ [] → IsLegal chart []

-- a fold begins with the history that it starts from
abbrev pub FoldBegins : Type 0
FoldBegins = (chart : Chart) (entries : List Entry) (pays : List Pay) (day : Day) →
    (more : List Entry) × (fold_of chart entries pays day ≡ entries ++ more)

-- two lists of pays one after another are folded as one list
abbrev pub FoldOfAppend : Type 0
FoldOfAppend = (chart : Chart) (entries : List Entry) (a b : List Pay) (day : Day) →
    fold_of chart entries (a ++ b) day ≡ fold_of chart (fold_of chart entries a day) b day

-- pays that are entered add nothing when they come again
abbrev pub FoldAgain : Type 0
FoldAgain = (chart : Chart) (entries : List Entry) (a b : List Pay) (day : Day) →
    fold_of chart (fold_of chart entries a day) (a ++ b) day ≡ fold_of chart entries (a ++ b) day

-- a fold of pays that fit is legal
abbrev pub FoldIsLegal : Type 0
FoldIsLegal = (chart : Chart) (entries : List Entry) (pays : List Pay) (day : Day) →
    IsLegal chart entries → ((k : ℕ) (p : Pay) → slice_get pays k ≡ Some p → FitsAccounts chart p) → IsLatest entries day → length entries + length pays ≤ most_entries →
    IsLegal chart (fold_of chart entries pays day)

-- entries keep their places
abbrev pub PlacesStay : Type 0
PlacesStay = (mir : Mir) (entries more : List Entry) (place : ℕ) → entered_at mir entries ≡ Some place → entered_at mir (entries ++ more) ≡ Some place

-- the entries of one day after a history are what one thread makes of their pays
abbrev pub HistoryIsFold : Type 0
HistoryIsFold = (chart : Chart) (front added : List Entry) (day : Day) → FollowsRules chart (front ++ added) →
    ((i : ℕ) (e : Entry) → slice_get added i ≡ Some e → e.day ≡ day) → front ++ added ≡ fold_of chart front (map (λ e. e.pay) added) day

-- where all changes came by then, the accounts of the time are those of now
abbrev pub AccountsOfNow : Type 0
AccountsOfNow = (chart : Chart) (k : ℕ) → AreBy k chart → accounts_of (chart_at chart k) ≡ accounts_of chart

-- each pay of a legal history fits the accounts of now
abbrev pub PaysFitNow : Type 0
PaysFitNow = (chart : Chart) (entries : List Entry) (i : ℕ) (e : Entry) → IsLegal chart entries → slice_get entries i ≡ Some e → FitsAccounts chart e.pay

-- the front of a history that follows the rules follows them
abbrev pub FrontFollowsRules : Type 0
FrontFollowsRules = (chart : Chart) (front more : List Entry) → FollowsRules chart (front ++ more) → FollowsRules chart front

-- a front of a legal history by which all changes came is legal
abbrev pub FrontIsLegal : Type 0
FrontIsLegal = (chart : Chart) (front more : List Entry) → AreBy (length front) chart → IsLegal chart (front ++ more) → IsLegal chart front

-- a legal change may come after all entries
abbrev pub ChangeStaysLegal : Type 0
ChangeStaysLegal = (chart : Chart) (entries : List Entry) (what : What) → IsLegal chart entries → length chart.changes < most_changes →
    IsLegalChange (accounts_of chart) (balance_named (balance_of chart entries) what) what → IsLegal (with_change chart (length entries) what) entries
