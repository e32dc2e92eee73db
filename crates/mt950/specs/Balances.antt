-- Balances: what a field says, or the code of what is wrong with it, tested in this order.
use Rattle.std.specs.Prelude.{ℕ, ◌==◌, ◌&&◌, ◌||◌, Bool, false, List, [], ◌∷◌, take, drop, Option, Some, None, Result, Ok, ℤ, pos, neg_ℤ, slice_index, if◌then◌else◌}
use Rattle.corr_text.specs.Codes.{code}
use Rattle.corr_text.specs.First.{check, or_fault, ◌>>=◌}
use Rattle.corr_text.specs.declared.fault.Code.{Code}
use Rattle.corr_ids.specs.Day.{day_of}
use Rattle.ref_tables.specs.Seen.{Tables}
use Rattle.fin_fields.specs.declared.field.Field.{Field}
use Rattle.fin_contents.specs.Money.{ccy_amount_in, is_dated_amount}
use Rattle.fin_contents.specs.Plain.{one_line}
use Rattle.mt950.specs.declared.balance.Stated.{Stated}

-- C
abbrev pub credit : ℕ
credit = 67

-- D
abbrev pub debit : ℕ
debit = 68

-- the letter F: the first opening or the last closing of a statement
abbrev pub is_last : Option ℕ → Bool
is_last None = false
is_last (Some letter) = letter == 70

-- the mark C or D, then `6!n3!a` and 1 or more of X
abbrev pub is_balance_text : List ℕ → Bool
is_balance_text [] = false
is_balance_text (mark ∷ dated) = ((mark == credit) || (mark == debit)) && is_dated_amount dated

-- an amount with its mark: below 0 where it is D
abbrev pub signed_by : ℕ → ℕ → ℤ
signed_by mark minor = if mark == debit then neg_ℤ (pos minor) else pos minor

-- a date, a currency of the table, and an amount with its decimals
unfoldable pub stated_in : Tables → Bool → List ℕ → Result Stated Code
stated_in t last line = do
  day ← or_fault (day_of (take 6 (drop 1 line))) (code "T50")
  amount ← ccy_amount_in t (drop 7 line)
  Ok (record { balance = record { last = last; day = day; signed = signed_by (slice_index line 0) amount.minor.0 }; ccy = amount.ccy; decimals = amount.decimals })

-- 60a, 62a, 64: `1!a6!n3!a15d`
unfoldable pub stated_of : Tables → Field → Result Stated Code
stated_of t f = do
  line ← or_fault (one_line f) (code "P24")
  _ ← check (is_balance_text line) (code "P24")
  stated_in t (is_last f.letter) line
