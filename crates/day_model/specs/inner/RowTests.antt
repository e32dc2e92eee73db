-- The test of accounts, as a program makes it.
use Rattle.std.specs.Prelude.{Option, Some, None, ◌&&◌, Bool, true, false, not, List, [], ◌∷◌, ◌++◌, length, nat_le}
use Rattle.std.specs.Str.{bytes_eq}
use Rattle.std.specs.List.{list_all}
use Rattle.std.specs.Char.{is_ascii_uppercase}
use Rattle.corr_text.specs.Sets.{is_c_byte}
use Rattle.corr_ids.specs.Bic.{bic_of}
use Rattle.corr_ids.specs.declared.bic.Bic.{Bic}
use Rattle.corr_money.specs.Amounts.{most_decimals}
use Rattle.day_model.specs.declared.account.Account.{Account}
use Rattle.day_model.specs.Chart.{most_accounts}
use Rattle.corr_ids.specs.Kinds.{is_kind}
use Rattle.day_model.specs.RowTests.{has_limits, meets, agrees}

-- a BIC that is read, if any, is this one
abbrev pub is_same_bic : Option Bic → Bic → Bool
is_same_bic (Some c) b = bytes_eq c.head b.head && bytes_eq c.branch b.branch
is_same_bic None b = false

-- a BIC's characters are read as itself
abbrev pub reads_itself : Bic → Bool
reads_itself b = is_same_bic (bic_of (b.head ++ b.branch)) b

-- the columns have their forms
abbrev pub is_formed : Account → Bool
is_formed a =
    nat_le 1 (length a.id) && nat_le (length a.id) 34 && list_all is_c_byte a.id && is_kind a.kind && reads_itself a.owner
    && list_all is_ascii_uppercase a.ccy.0 && nat_le a.decimals most_decimals

-- an account alone passes
abbrev pub is_row : Account → Bool
is_row a = is_formed a && has_limits a

-- other ids and other banks; one currency has one number of decimals
abbrev pub apart : Account → Account → Bool
apart a b = not (meets a b) && agrees a b

-- each two accounts are apart
abbrev pub all_apart : List Account → Bool
all_apart [] = true
all_apart (a ∷ accounts) = list_all (apart a) accounts && all_apart accounts

-- whether accounts are those of a book, but for the sums of their openings
abbrev pub rows_fit : List Account → Bool
rows_fit accounts = nat_le (length accounts) most_accounts && list_all is_row accounts && all_apart accounts
