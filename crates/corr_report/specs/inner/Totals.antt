-- The currencies of a book, and what its booked entries move in each.
use Rattle.std.specs.Prelude.{ℕ, ◌+◌, List, [], ◌∷◌, unwrap_or, if◌then◌else◌}
use Rattle.corr_money.specs.declared.amount.Ccy.{Ccy}
use Rattle.day_model.specs.declared.account.Account.{Account}
use Rattle.day_model.specs.declared.pay.Side.{Side}
use Rattle.day_model.specs.declared.pay.Side.TheVariants.{Debit, Credit}
use Rattle.day_model.specs.Chart.{is_same_ccy}
use Rattle.day_model.specs.Totals.{Pair, pair_at}

-- the sum of a number of each account of a currency, the first account having number n
abbrev pub sum_over : (ℕ → ℕ) → Ccy → ℕ → List Account → ℕ
sum_over moved ccy n [] = 0
sum_over moved ccy n (account ∷ accounts) = (if is_same_ccy account.ccy ccy then moved n else 0) + sum_over moved ccy (n + 1) accounts

-- one side of an account's totals
abbrev pub part_of : Side → Pair → ℕ
part_of Credit p = p.0
part_of Debit p = p.1

-- one side of the totals of account n, in a list that begins with account 1's
abbrev pub part_at : Side → List Pair → ℕ → ℕ
part_at side pairs n = part_of side (unwrap_or (pair_at pairs n) (0, 0))
