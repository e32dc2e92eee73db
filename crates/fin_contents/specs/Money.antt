-- Contents of money: what a field says, or the code of what is wrong with it, tested in this order.
use Rattle.std.specs.Prelude.{ℕ, ◌<◌, ◌==◌, ◌&&◌, not, Bool, List, [], ◌∷◌, length, take, drop, Result, Ok, Err, nat_le, bytes_eq, codes}
use Rattle.std.specs.List.{list_all, list_any}
use Rattle.corr_text.specs.Codes.{code}
use Rattle.corr_text.specs.First.{check, or_fault, ◌>>=◌}
use Rattle.corr_text.specs.Sets.{is_in}
use Rattle.corr_text.specs.declared.fault.Code.{Code}
use Rattle.corr_text.specs.declared.set.Set.TheVariants.{X, N, A}
use Rattle.corr_ids.specs.Day.{day_of}
use Rattle.corr_money.specs.Amounts.{amount_end, amount_of, is_comma_number}
use Rattle.corr_money.specs.declared.amount.Amount.{Amount}
use Rattle.corr_money.specs.declared.amount.Minor.{Minor}
use Rattle.corr_money.specs.declared.fault.AmountFault.{AmountFault}
use Rattle.corr_money.specs.declared.fault.AmountFault.TheVariants as amount
use Rattle.ref_tables.specs.Seen.{Tables, decimals_in}
use Rattle.fin_fields.specs.declared.field.Field.{Field}
use Rattle.fin_contents.specs.declared.value.Value.{Value}
use Rattle.fin_contents.specs.Plain.{one_line}

-- the code of what is wrong with an amount
abbrev pub amount_code : AmountFault → Code
amount_code amount.T40 = code "T40"
amount_code amount.T43 = code "T43"
amount_code amount.C03 = code "C03"
amount_code amount.TooLarge = code "P27"

-- an amount, its fault as a code
abbrev pub coded : Result Minor AmountFault → Result Minor Code
coded (Ok minor) = Ok minor
coded (Err e) = Err (amount_code e)

-- the minor units that bytes spell, or the code of what is wrong with them
abbrev pub minor_in : ℕ → List ℕ → Result Minor Code
minor_in decimals bs = coded (amount_of decimals bs)

-- `3!a` and 1 or more of X
abbrev pub is_ccy_amount : List ℕ → Bool
is_ccy_amount line = nat_le 4 (length line) && list_all (is_in A) (take 3 line) && list_all (is_in X) (drop 3 line)

-- a currency of the table, and an amount with its decimals
unfoldable pub ccy_amount_in : Tables → List ℕ → Result Amount Code
ccy_amount_in t line = do
  decimals ← or_fault (decimals_in t (take 3 line)) (code "T52")
  minor ← minor_in decimals (drop 3 line)
  Ok (record { ccy = record { 0 = take 3 line }; minor = minor; decimals = decimals })

-- 33B, 71F, 71G: `3!a15d`
unfoldable pub ccy_amount_of : Tables → Field → Result Amount Code
ccy_amount_of t f = do
  line ← or_fault (one_line f) (code "P24")
  _ ← check (is_ccy_amount line) (code "P24")
  ccy_amount_in t line

-- `6!n`, `3!a` and 1 or more of X
abbrev pub is_dated_amount : List ℕ → Bool
is_dated_amount line = nat_le 10 (length line) && list_all (is_in N) (take 6 line) && is_ccy_amount (drop 6 line)

-- gold, silver, palladium and platinum
abbrev pub metals : List (List ℕ)
metals = codes "XAU" ∷ codes "XAG" ∷ codes "XPD" ∷ codes "XPT" ∷ []

-- a precious metal
abbrev pub is_metal : List ℕ → Bool
is_metal ccy = list_any (λ metal. bytes_eq metal ccy) metals

-- a date, a currency that is no metal, and an amount that is not zero
unfoldable pub value_in : Tables → List ℕ → Result Value Code
value_in t line = do
  day ← or_fault (day_of (take 6 line)) (code "T50")
  _ ← check (not (is_metal (take 3 (drop 6 line)))) (code "C08")
  amount ← ccy_amount_in t (drop 6 line)
  _ ← check (not (amount.minor.0 == 0)) (code "P26")
  Ok (record { day = day; amount = amount })

-- 32A: `6!n3!a15d`
unfoldable pub value_of : Tables → Field → Result Value Code
value_of t f = do
  line ← or_fault (one_line f) (code "P24")
  _ ← check (is_dated_amount line) (code "P24")
  value_in t line

-- an amount that may be paid: above zero and below 10^14 minor units
pub record IsPayable (a : Amount) : Type 0 where
  pub above : 0 < a.minor.0
  pub below : a.minor.0 < amount_end

-- 36: `12d`
unfoldable pub rate_of : Field → Result (List ℕ) Code
rate_of f = do
  line ← or_fault (one_line f) (code "P24")
  _ ← check (nat_le 1 (length line) && list_all (is_in X) line) (code "P24")
  _ ← check (is_comma_number line) (code "T40")
  _ ← check (nat_le (length line) 12) (code "T43")
  Ok line
