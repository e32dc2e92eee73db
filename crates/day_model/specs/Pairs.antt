-- Lists of the accounts' totals, and what legs add to them.
use Rattle.std.specs.Prelude.{◌≡◌, ℕ, ◌+◌, List, [], ◌∷◌, Some}
use Rattle.day_model.specs.declared.pay.Leg.{Leg}
use Rattle.day_model.specs.Totals.{Pair, plus, Fits64, legs_pair, pair_at}

-- pairs of which the first is account n's, each with what the legs add to it
abbrev pub pairs_from : ℕ → List Leg → List Pair → List Pair
pairs_from n legs [] = []
pairs_from n legs (p ∷ pairs) = plus p (legs_pair n legs) ∷ pairs_from (n + 1) legs pairs

-- each account's pair with what the legs add to it
abbrev pub pairs_with : List Leg → List Pair → List Pair
pairs_with legs pairs = pairs_from 1 legs pairs

-- no pair passes 64 bits by these legs
abbrev pub PairsFit : List Leg → List Pair → Type 0
PairsFit legs pairs = (n : ℕ) (p : Pair) → pair_at pairs n ≡ Some p → Fits64 (plus p (legs_pair n legs))
