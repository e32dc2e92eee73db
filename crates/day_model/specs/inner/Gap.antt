-- Openings that don't add up.
use Rattle.std.specs.Prelude.{◌≡◌, ℕ, ℤ, List, Option, Some, None, pos, unwrap_or, if◌then◌else◌}
use Rattle.std.specs.Map.{lookup}
use Rattle.std.specs.Str.{bytes_eq}
use Rattle.corr_money.specs.declared.amount.Ccy.{Ccy}
use Rattle.day_model.specs.declared.account.Account.{Account}
use Rattle.day_model.specs.declared.gap.Gap.{Gap}
use Rattle.day_model.specs.Chart.{opening_sum}
use Rattle.day_model.specs.Gap.{is_before, IsGapOf, IsFirstUnbalanced}

-- the sum that is noted for a currency, and 0 where none is
abbrev pub sum_in : List (List ℕ × ℤ) → Ccy → ℤ
sum_in sums ccy = unwrap_or (lookup (bytes_eq ccy.0) sums) (pos 0)

-- each currency's openings are summed
abbrev pub AreOpeningSums : List (List ℕ × ℤ) → List Account → Type 0
AreOpeningSums sums accounts = (ccy : Ccy) → sum_in sums ccy ≡ opening_sum ccy accounts

-- the gap of an account's currency, if it has one
abbrev pub GapOf : List Account → Account → Option Gap → Type 0
GapOf accounts account None = opening_sum account.ccy accounts ≡ pos 0
GapOf accounts account (Some gap) = IsGapOf accounts account gap

-- of two gaps the one whose currency comes first in byte order
abbrev pub earlier_of : Option Gap → Option Gap → Option Gap
earlier_of None second = second
earlier_of (Some gap) None = Some gap
earlier_of (Some gap) (Some other) = if is_before other.ccy gap.ccy then Some other else Some gap

-- what the search for the first gap answers: none where all currencies' openings sum to 0
abbrev pub FirstGap : List Account → Option Gap → Type 0
FirstGap accounts None = (c : Ccy) → opening_sum c accounts ≡ pos 0
FirstGap accounts (Some gap) = IsFirstUnbalanced accounts gap
