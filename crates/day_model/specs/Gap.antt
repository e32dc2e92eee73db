-- Openings that don't add up.
use Rattle.std.specs.Prelude.{◌≡◌, ◌≢◌, ℕ, Bool, true, List, Some, slice_get, pos}
use Rattle.std.specs.Ordering.{is_lt, nat_cmp}
use Rattle.std.specs.Cmp.Lexicographic.{slice_cmp}
use Rattle.corr_money.specs.declared.amount.Ccy.{Ccy}
use Rattle.day_model.specs.declared.account.Account.{Account}
use Rattle.day_model.specs.declared.gap.Gap.{Gap}
use Rattle.day_model.specs.declared.fault.AccountsFault.{AccountsFault}
use Rattle.day_model.specs.declared.fault.AccountsFault.TheVariants.{Unbalanced, Memory}
use Rattle.day_model.specs.Chart.{opening_sum}

-- in byte order
abbrev pub is_before : Ccy → Ccy → Bool
is_before c d = is_lt (slice_cmp nat_cmp c.0 d.0)

-- the openings of an account's currency don't sum to 0: its decimals, and the sum
pub record IsGapOf (accounts : List Account) (account : Account) (gap : Gap) : Type 0 where
  pub ccy : account.ccy ≡ gap.ccy
  pub decimals : account.decimals ≡ gap.decimals
  pub sum_is : opening_sum gap.ccy accounts ≡ gap.sum
  pub off : gap.sum ≢ pos 0

-- the first currency in byte order whose openings don't sum to 0, its decimals and that sum
pub record IsFirstUnbalanced (accounts : List Account) (gap : Gap) : Type 0 where
  pub place : ℕ
  pub account : Account
  pub there : slice_get accounts place ≡ Some account
  pub is_gap : IsGapOf accounts account gap
  pub first : (c : Ccy) → is_before c gap.ccy ≡ true → opening_sum c accounts ≡ pos 0

-- what a refusal of accounts tells: out of memory tells nothing
abbrev pub TellsUnbalanced : List Account → AccountsFault → Type 0
TellsUnbalanced accounts (Unbalanced ccy decimals sum) = IsFirstUnbalanced accounts (record { ccy = ccy; decimals = decimals; sum = sum })
TellsUnbalanced accounts Memory = Unit {0}
