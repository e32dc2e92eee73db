-- Which histories are legal.
use Rattle.std.specs.Prelude.{◌≡◌, ℕ, ◌<◌, ◌≤◌, ◌≤ℤ◌, ℤ, pos, IsTrue, List, [], ◌∷◌, ◌++◌, length, take, slice_get, Some}
use Rattle.day_model.specs.declared.account.Account.{Account}
use Rattle.day_model.specs.declared.change.Change.{Change}
use Rattle.day_model.specs.declared.change.What.{What}
use Rattle.day_model.specs.declared.change.What.TheVariants.{Opened, Limits}
use Rattle.day_model.specs.declared.entry.Entry.{Entry}
use Rattle.day_model.specs.Changes.{are_in_order, changed_by, most_changes}
use Rattle.day_model.specs.Chart.{AreApart, AreBy, AreEnds, Chart, IsFormed, IsLimited, chart_at}
use Rattle.day_model.specs.Log.{most_entries}
use Rattle.day_model.specs.Fit.{FitsAccounts, is_in}
use Rattle.day_model.specs.Balance.{balance_of, outcome_of}

-- each pay fits the accounts of its time and has the outcome that the entries before it give, no two have one reference, days never fall
pub record FollowsRules (chart : Chart) (entries : List Entry) : Type 0 where
  pub short : length entries ≤ most_entries
  pub fits : (i : ℕ) (e : Entry) → slice_get entries i ≡ Some e → FitsAccounts (chart_at chart i) e.pay
  pub decided : (i : ℕ) (e : Entry) → slice_get entries i ≡ Some e → e.outcome ≡ outcome_of chart (take i entries) e.pay
  pub single : (i j : ℕ) (d e : Entry) → slice_get entries i ≡ Some d → slice_get entries j ≡ Some e → d.pay.mir ≡ e.pay.mir → i ≡ j
  pub days : (i j : ℕ) (d e : Entry) → i < j → slice_get entries i ≡ Some d → slice_get entries j ≡ Some e → d.day.0 ≤ℤ e.day.0

-- an account may be opened: with it the accounts are apart still, and it begins with 0, between its ends
pub record MayOpen (before : List Account) (account : Account) : Type 0 where
  pub apart : AreApart (before ++ account ∷ [])
  pub empty : account.opening ≡ pos 0
  pub limited : IsLimited account

-- account n may have these ends: it is there, and its balance lies between them
pub record MayLimit (before : List Account) (n : ℕ) (floor ceil balance : ℤ) : Type 0 where
  pub listed : IsTrue (is_in before n)
  pub ends : AreEnds floor ceil balance

-- what may change in accounts, where the account that limits name has this balance
abbrev pub IsLegalChange : List Account → ℤ → What → Type 0
IsLegalChange before balance (Opened account) = MayOpen before account
IsLegalChange before balance (Limits n floor ceil) = MayLimit before n.0 floor ceil balance

-- a new account has the form of its columns
abbrev pub IsInForm : What → Type 0
IsInForm (Opened account) = IsFormed account
IsInForm (Limits n floor ceil) = Unit {0}

-- of the accounts' balances, that of the account that limits name
abbrev pub balance_named : (ℕ → ℤ) → What → ℤ
balance_named balance (Opened account) = pos 0
balance_named balance (Limits n floor ceil) = balance n.0

-- each change is legal for the accounts that those before it leave, and for the balances after as many entries as came before it
abbrev pub AreLegalInTurn : (ℕ → ℕ → ℤ) → List Account → List Change → Type 0
AreLegalInTurn balances accounts [] = Unit {0}
AreLegalInTurn balances accounts (change ∷ changes) =
    IsLegalChange accounts (balance_named (balances change.after) change.what) change.what × AreLegalInTurn balances (changed_by change.what accounts) changes

-- the balance of account n after the first k entries
abbrev pub balance_at : Chart → List Entry → ℕ → ℕ → ℤ
balance_at chart entries k n = balance_of chart (take k entries) n

-- the changes are in order, came after these entries or among them, and each was legal when it came
pub record AreLegalChanges (chart : Chart) (entries : List Entry) : Type 0 where
  pub few : length chart.changes ≤ most_changes
  pub by_now : AreBy (length entries) chart
  pub in_order : IsTrue (are_in_order chart.changes)
  pub in_turn : AreLegalInTurn (balance_at chart entries) chart.first chart.changes

-- a history of accounts that change: its entries follow the rules, and the changes among them are legal
pub record IsLegal (chart : Chart) (entries : List Entry) : Type 0 where
  pub rules : FollowsRules chart entries
  pub changes : AreLegalChanges chart entries
