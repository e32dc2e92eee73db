-- Amounts of money in decimal digits with a comma: how they are read and written.
use Rattle.std.specs.Prelude.{ℕ, ◌+◌, ◌-◌, ◌==◌, ◌&&◌, Bool, ℤ, pos, neg_ℤ, List, [], ◌∷◌, ◌++◌, length, take, drop, replicate, Result, Ok, is_some, nat_lt, nat_le, unsigned_abs, if◌then◌else◌}
use Rattle.std.specs.Int.{is_negative}
use Rattle.std.specs.List.{after_first, before_first, list_all, position}
use Rattle.std.specs.Char.{is_ascii_digit}
use Rattle.std.specs.Str.Parse.{digits_value}
use Rattle.corr_text.specs.First.{check, ◌>>=◌}
use Rattle.corr_text.specs.Digits.{padded}
use Rattle.corr_money.specs.declared.amount.Minor.{Minor}
use Rattle.corr_money.specs.declared.fault.AmountFault.{AmountFault}
use Rattle.corr_money.specs.declared.fault.AmountFault.TheVariants.{T40, T43, C03, TooLarge}

-- amounts are below this number of minor units, 10^14
abbrev pub amount_end : ℕ
amount_end = 100000000000000

-- a currency has at most so many decimals
abbrev pub most_decimals : ℕ
most_decimals = 4

-- the comma before the decimals
abbrev pub is_comma : ℕ → Bool
is_comma b = b == 44

-- what stands before the first comma
abbrev pub whole_of : List ℕ → List ℕ
whole_of bs = before_first is_comma bs

-- what stands after it
abbrev pub decimals_of : List ℕ → List ℕ
decimals_of bs = after_first is_comma bs

-- digits with exactly one comma, and at least one digit before it
unfoldable pub is_comma_number : List ℕ → Bool
is_comma_number bs = is_some (position is_comma bs) && nat_lt 0 (length (whole_of bs)) && list_all is_ascii_digit (whole_of bs) && list_all is_ascii_digit (decimals_of bs)

-- the number of the digits without the comma, with zeros after them for the decimals that are missing
unfoldable pub minor_of : ℕ → List ℕ → ℕ
minor_of decimals bs = digits_value 10 (whole_of bs ++ decimals_of bs ++ replicate (decimals - length (decimals_of bs)) 48)

-- the amount, in minor units of a currency with so many decimals, that is written so: the tests in their order
unfoldable pub amount_of : ℕ → List ℕ → Result Minor AmountFault
amount_of decimals bs = do
  _ ← check (is_comma_number bs) T40
  _ ← check (nat_le (length bs) 15) T43
  _ ← check (nat_le (length (decimals_of bs)) decimals) C03
  _ ← check (nat_lt (minor_of decimals bs) amount_end) TooLarge
  Ok (record { 0 = minor_of decimals bs })

-- digits with a comma before the last so many
abbrev pub with_comma : ℕ → List ℕ → List ℕ
with_comma decimals ds = take (length ds - decimals) ds ++ 44 ∷ drop (length ds - decimals) ds

-- a number of minor units as an amount with so many decimals: its digits, at least one of them before the comma
unfoldable pub amount_text : ℕ → ℕ → List ℕ
amount_text decimals n = with_comma decimals (padded (decimals + 1) n)

-- the same with a minus before it where it is below 0
unfoldable pub signed_text : ℕ → ℤ → List ℕ
signed_text decimals v = if is_negative v then 45 ∷ amount_text decimals (unsigned_abs v) else amount_text decimals (unsigned_abs v)

-- the number of minor units that an amount writes, below 0 where a minus stands before it
abbrev pub signed_minor_of : ℕ → List ℕ → ℤ
signed_minor_of decimals [] = pos 0
signed_minor_of decimals (b ∷ bs) = if b == 45 then neg_ℤ (pos (minor_of decimals bs)) else pos (minor_of decimals (b ∷ bs))
