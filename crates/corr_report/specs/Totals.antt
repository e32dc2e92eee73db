-- The currencies of a book, and what its booked entries move in each.
use Rattle.std.specs.Prelude.{◌≡◌, ℕ, true, List, [], ◌∷◌, codes, if◌then◌else◌}
use Rattle.std.specs.List.{All, Contains, flat_map, insert, list_any, position_or_len}
use Rattle.std.specs.List.Sorted.{IsStrictlySortedBy}
use Rattle.std.specs.Ordering.{nat_cmp}
use Rattle.std.specs.Cmp.Lexicographic.{slice_cmp}
use Rattle.corr_money.specs.Amounts.{amount_text}
use Rattle.day_model.specs.declared.account.Account.{Account}
use Rattle.day_model.specs.declared.entry.Entry.{Entry}
use Rattle.day_model.specs.declared.pay.Side.TheVariants.{Debit, Credit}
use Rattle.day_model.specs.Chart.{Chart, accounts_of, is_same_ccy}
use Rattle.day_model.specs.Gap.{is_before}
use Rattle.day_model.specs.Laws.{turnover}
use Rattle.corr_report.specs.declared.currency.Currency.{Currency}
use Rattle.corr_report.specs.Lines.{line}

-- currencies in byte order, and one more where it isn't among them
abbrev pub entered : Currency → List Currency → List Currency
entered new units = if list_any (λ unit. is_same_ccy unit.ccy new.ccy) units then units else insert units (position_or_len (λ unit. is_before new.ccy unit.ccy) units) new

-- an account's currency and its decimals
abbrev pub currency_of : Account → Currency
currency_of account = record { ccy = account.ccy; decimals = account.decimals }

-- The currencies of these accounts: in byte order, each once; each is an account's, with its decimals, and each account's is there.
pub record AreCurrencies (accounts : List Account) (units : List Currency) : Type 0 where
  pub rising : IsStrictlySortedBy (λ (c d : Currency). slice_cmp nat_cmp c.ccy.0 d.ccy.0) units
  pub each : All (λ unit. (a : Account) × Contains accounts a × (currency_of a ≡ unit)) units
  pub all : All (λ a. list_any (λ unit. is_same_ccy unit.ccy a.ccy) units ≡ true) accounts

-- the currencies of the accounts as a list: those of an empty list, and then of one account more each time (`AreCurrencies`)
abbrev pub currencies_of : List Currency → List Account → List Currency
currencies_of units [] = units
currencies_of units (account ∷ accounts) = currencies_of (entered (currency_of account) units) accounts

-- `TOTAL EUR DEBIT 1234,50 CREDIT 1234,50`
abbrev pub total_line : Currency → ℕ → ℕ → List ℕ
total_line unit debits credits =
    line (codes "TOTAL") (unit.ccy.0 ∷ codes "DEBIT" ∷ amount_text unit.decimals debits ∷ codes "CREDIT" ∷ amount_text unit.decimals credits ∷ [])

-- what the booked entries debit and credit in a currency
abbrev pub total_of : Chart → List Entry → Currency → List ℕ
total_of chart entries unit =
    total_line unit (turnover chart unit.ccy Debit entries) (turnover chart unit.ccy Credit entries)

-- a line for each currency
abbrev pub total_lines : Chart → List Entry → List ℕ
total_lines chart entries = flat_map (total_of chart entries) (currencies_of [] (accounts_of chart))
