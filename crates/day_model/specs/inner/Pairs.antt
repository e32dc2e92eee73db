-- Lists of the accounts' totals, and what legs add to them.
use Rattle.std.specs.Prelude.{ℕ, zero, suc, List, slice_set}
use Rattle.day_model.specs.Totals.{Pair}

-- the pairs with p for account n
abbrev pub with_pair : List Pair → ℕ → Pair → List Pair
with_pair pairs zero p = pairs
with_pair pairs (suc k) p = slice_set pairs k p
