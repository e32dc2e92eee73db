-- The test of accounts, as a program makes it.
use Rattle.std.specs.Prelude.{◌==◌, ◌&&◌, ◌||◌, Bool, not, ℤ, pos, neg_ℤ, int_le, ◌-◌}
use Rattle.std.specs.Str.{bytes_eq}
use Rattle.corr_money.specs.Amounts.{amount_end}
use Rattle.day_model.specs.declared.account.Account.{Account}
use Rattle.day_model.specs.Chart.{is_same_ccy}
use Rattle.corr_ids.specs.Kinds.{customer}

-- floor, balance and ceiling are in order and small
abbrev pub are_ends : ℤ → ℤ → ℤ → Bool
are_ends floor ceil balance =
    int_le (neg_ℤ (pos (amount_end - 1))) floor && int_le ceil (pos (amount_end - 1)) && int_le floor balance && int_le balance ceil

-- the opening lies between the ends
abbrev pub has_limits : Account → Bool
has_limits a = are_ends a.floor a.ceil a.opening

-- vostro, nostro or fee accounts of one kind, owner's head and currency
abbrev pub is_same_bank : Account → Account → Bool
is_same_bank a b = not (a.kind == customer) && (a.kind == b.kind) && bytes_eq a.owner.head b.owner.head && is_same_ccy a.ccy b.ccy

-- of one id or of one bank
abbrev pub meets : Account → Account → Bool
meets a b = bytes_eq a.id b.id || is_same_bank a b

-- one currency has one number of decimals
abbrev pub agrees : Account → Account → Bool
agrees a b = not (is_same_ccy a.ccy b.ccy) || (a.decimals == b.decimals)
