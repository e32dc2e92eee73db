-- The forms of columns.
use Rattle.std.specs.Prelude.{ℕ, ◌-◌, ◌==◌, ◌&&◌, Bool, List, [], ◌∷◌, length, drop, Option, Some, None, option_and_then, option_map, nat_le, nat_lt, slice_index, ℤ, pos, neg_ℤ, if◌then◌else◌}
use Rattle.std.specs.List.{list_all}
use Rattle.std.specs.Char.{is_ascii_uppercase}
use Rattle.corr_text.specs.Digits.{number_of}
use Rattle.corr_text.specs.Sets.{is_c_byte}
use Rattle.corr_ids.specs.Kinds.{is_kind}
use Rattle.corr_money.specs.Amounts.{amount_end}
use Rattle.corr_money.specs.declared.amount.Minor.{Minor}

-- a currency code: three capital letters
abbrev pub is_ccy : List ℕ → Bool
is_ccy bs = (length bs == 3) && list_all is_ascii_uppercase bs

-- a country code: two capital letters
abbrev pub is_country : List ℕ → Bool
is_country bs = (length bs == 2) && list_all is_ascii_uppercase bs

-- a number of decimals: one digit, 0 to 4
abbrev pub decimals_in_cell : List ℕ → Option ℕ
decimals_in_cell (b ∷ []) = if nat_le 48 b && nat_le b 52 then Some (b - 48) else None
decimals_in_cell _ = None

-- Y or N
abbrev pub yes_of : List ℕ → Option Bool
yes_of (b ∷ []) = if b == 89 then Some Bool.true else if b == 78 then Some Bool.false else None
yes_of _ = None

-- an account's id: 1 to 34 capital letters and digits
abbrev pub is_account_id : List ℕ → Bool
is_account_id bs = nat_le 1 (length bs) && nat_le (length bs) 34 && list_all is_c_byte bs

-- a kind, of one letter
abbrev pub kind_in_cell : List ℕ → Option ℕ
kind_in_cell (b ∷ []) = if is_kind b then Some b else None
kind_in_cell _ = None

-- 1 to 15 digits
abbrev pub magnitude_of : List ℕ → Option ℕ
magnitude_of bs = if nat_le (length bs) 15 then number_of bs else None

-- a signed number: a minus sign or none, then 1 to 15 digits
abbrev pub signed_of : List ℕ → Option ℤ
signed_of bs =
    if slice_index bs 0 == 45 then option_map (λ n. neg_ℤ (pos n)) (magnitude_of (drop 1 bs)) else option_map pos (magnitude_of bs)

-- an amount that can be charged: above 0 and below 10^14
abbrev pub is_charge : ℕ → Bool
is_charge n = nat_lt 0 n && nat_lt n amount_end

-- a charge, in minor units: 1 to 15 digits that write such an amount
abbrev pub charge_in_cell : List ℕ → Option Minor
charge_in_cell bs = option_and_then (λ n. if is_charge n then Some (record { 0 = n }) else None) (magnitude_of bs)
