-- The accounts of a book.
use Rattle.std.specs.Prelude.{◌≡◌, ◌≢◌, ℕ, ◌-◌, ◌≤◌, Bool, ◌&&◌, ◌||◌, List, [], ◌∷◌, ◌++◌, length, slice_get, Option, Some, option_map, ℤ, pos, neg_ℤ, ◌+ℤ◌, ◌≤ℤ◌, ◌==◌, if◌then◌else◌, IsTrue}
use Rattle.std.specs.Str.{bytes_eq}
use Rattle.std.specs.List.{position_from, list_all}
use Rattle.std.specs.Char.{is_ascii_uppercase}
use Rattle.corr_text.specs.Sets.{is_c_byte}
use Rattle.corr_ids.specs.Bic.{IsBic}
use Rattle.corr_ids.specs.Kinds.{IsSameBank, customer, fee, is_kind, nostro, vostro}
use Rattle.corr_ids.specs.declared.bic.Bic.{Bic}
use Rattle.corr_money.specs.Amounts.{amount_end, most_decimals}
use Rattle.corr_money.specs.declared.amount.Ccy.{Ccy}
use Rattle.day_model.specs.declared.account.Account.{Account}
use Rattle.day_model.specs.declared.account.AcctNo.{AcctNo}
use Rattle.day_model.specs.declared.change.Change.{Change}
use Rattle.day_model.specs.declared.change.What.{What}
use Rattle.day_model.specs.declared.kind.Kind.{Kind}
use Rattle.day_model.specs.declared.kind.Kind.TheVariants.{Customer, Fee, Nostro, Vostro}
use Rattle.day_model.specs.Changes.{all_changed, by_then, is_by}

-- the most accounts that a book has
abbrev pub most_accounts : ℕ
most_accounts = 1000

-- what contracts see of `Accounts`: the home BIC, the accounts that the book began with, and the changes since
pub record Chart : Type 0 where
  pub home : Bic
  pub first : List Account
  pub changes : List Change

-- the accounts after all changes, in the order of their numbers
abbrev pub accounts_of : Chart → List Account
accounts_of chart = all_changed chart.changes chart.first

-- the accounts as they were after the first k entries, and the changes that came by then
abbrev pub chart_at : Chart → ℕ → Chart
chart_at chart k = record { home = chart.home; first = all_changed (by_then k chart.changes) chart.first; changes = [] }

-- with one change more, after k entries
abbrev pub with_change : Chart → ℕ → What → Chart
with_change chart k what = record chart { changes = chart.changes ++ record { after = k; what = what } ∷ [] }

-- without its changes
abbrev pub bare : Chart → Chart
bare chart = record chart { changes = [] }

-- each change came after at most k entries
abbrev pub AreBy : ℕ → Chart → Type 0
AreBy k chart = IsTrue (list_all (is_by k) chart.changes)

-- numbers of accounts count from 1
abbrev pub IsListed : Chart → ℕ → Type 0
IsListed chart n = (1 ≤ n) × (n ≤ length (accounts_of chart))

-- the account with a number
abbrev pub account_at : Chart → ℕ → Option Account
account_at chart n = slice_get (accounts_of chart) (n - 1)

-- the number of the first account that passes a test
abbrev pub number_of_first : (Account → Bool) → List Account → Option AcctNo
number_of_first test accounts = option_map (λ n. record { 0 = n }) (position_from test 1 accounts)

-- an account has this id
abbrev pub has_id : List ℕ → Account → Bool
has_id id account = bytes_eq account.id id

-- two currencies are the same
abbrev pub is_same_ccy : Ccy → Ccy → Bool
is_same_ccy c d = bytes_eq c.0 d.0

-- of this kind, this head of its owner, this currency and this number of decimals
abbrev pub is_owned : ℕ → List ℕ → Ccy → ℕ → Account → Bool
is_owned kind head ccy decimals account =
    (account.kind == kind) && bytes_eq account.owner.head head && is_same_ccy account.ccy ccy && (account.decimals == decimals)

-- the letter of a kind
abbrev pub kind_letter : Kind → ℕ
kind_letter Customer = customer
kind_letter Vostro = vostro
kind_letter Nostro = nostro
kind_letter Fee = fee

-- the form of an account's columns
pub record IsFormed (account : Account) : Type 0 where
  pub id_given : 1 ≤ length account.id
  pub id_short : length account.id ≤ 34
  pub id_plain : IsTrue (list_all is_c_byte account.id)
  pub kind : IsTrue (is_kind account.kind)
  pub owner : IsBic account.owner
  pub ccy : IsTrue (list_all is_ascii_uppercase account.ccy.0)
  pub decimals : account.decimals ≤ most_decimals

-- an account's currency has three characters
abbrev pub HasCode : Account → Type 0
HasCode account = length account.ccy.0 ≡ 3

-- below 10^14 in size
abbrev pub IsSmall : ℤ → Type 0
IsSmall n = (neg_ℤ (pos (amount_end - 1)) ≤ℤ n) × (n ≤ℤ pos (amount_end - 1))

-- floor ≤ balance ≤ ceiling, each below 10^14 in size
pub record AreEnds (floor ceil balance : ℤ) : Type 0 where
  pub floor_small : IsSmall floor
  pub ceil_small : IsSmall ceil
  pub above_floor : floor ≤ℤ balance
  pub below_ceil : balance ≤ℤ ceil

-- floor ≤ opening ≤ ceiling, each below 10^14 in size
abbrev pub IsLimited : Account → Type 0
IsLimited account = AreEnds account.floor account.ceil account.opening

-- floor and ceiling are below 10^14 in size
abbrev pub IsBounded : Account → Type 0
IsBounded account = IsSmall account.floor × IsSmall account.ceil

-- at most 1,000 accounts in the form of their columns; ids and banks' accounts are distinct, and a currency has one number of decimals
pub record AreApart (accounts : List Account) : Type 0 where
  pub few : length accounts ≤ most_accounts
  pub formed : (i : ℕ) (a : Account) → slice_get accounts i ≡ Some a → IsFormed a
  pub ids : (i j : ℕ) (a b : Account) → slice_get accounts i ≡ Some a → slice_get accounts j ≡ Some b → a.id ≡ b.id → i ≡ j
  pub banks : (i j : ℕ) (a b : Account) → slice_get accounts i ≡ Some a → slice_get accounts j ≡ Some b → IsSameBank a.kind a.owner.head a.ccy.0 b.kind b.owner.head b.ccy.0 → i ≡ j
  pub decimals : (i j : ℕ) (a b : Account) → slice_get accounts i ≡ Some a → slice_get accounts j ≡ Some b → a.ccy ≡ b.ccy → a.decimals ≡ b.decimals

-- what must hold of the accounts that a book begins with, but for the sums of their openings
pub record AreRows (accounts : List Account) : Type 0 where
  pub apart : AreApart accounts
  pub limited : (i : ℕ) (a : Account) → slice_get accounts i ≡ Some a → IsLimited a

-- what holds of the accounts of a book after changes: an opening need not lie within limits that came later
pub record AreAccounts (accounts : List Account) : Type 0 where
  pub apart : AreApart accounts
  pub bounded : (i : ℕ) (a : Account) → slice_get accounts i ≡ Some a → IsBounded a

-- the sum of the openings of a currency's accounts
abbrev pub opening_sum : Ccy → List Account → ℤ
opening_sum ccy [] = pos 0
opening_sum ccy (account ∷ accounts) = (if is_same_ccy account.ccy ccy then account.opening else pos 0) +ℤ opening_sum ccy accounts

-- the openings of each currency sum to 0
abbrev pub AreBalanced : List Account → Type 0
AreBalanced accounts = (ccy : Ccy) → opening_sum ccy accounts ≡ pos 0

-- the accounts of a book: those that it began with, and those that it has after all changes
pub record IsChart (chart : Chart) : Type 0 where
  pub first : AreRows chart.first
  pub first_balanced : AreBalanced chart.first
  pub rows : AreAccounts (accounts_of chart)
  pub balanced : AreBalanced (accounts_of chart)

-- a list of the accounts of a book as they are after all changes
pub record KeepsRows (chart : Chart) (rows : List Account) : Type 0 where
  pub sound : IsChart chart
  pub rows_are : rows ≡ accounts_of chart
