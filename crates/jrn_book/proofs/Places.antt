-- References and their places.
use Rattle.std.proofs.Common.{◌≡◌, ℕ, ◌+◌, Bool, true, false, ◌||◌, cond, List, [], ◌∷◌, None, Some, refl, sym}
use Rattle.std.proofs.lemmas.Iterator.Adapters.{position_from-zero}
use Rattle.std.specs.Prelude.{position}
use Rattle.std.specs.List.{position_from, list_any}

-- counted from 0
pub from_zero : {A : Type 0} (t : A → Bool) (xs : List A) → position_from t 0 xs ≡ position t xs
from_zero t xs = sym (position_from-zero t xs)

-- a list in which nothing passes, counted from any place
pub none_passes : {A : Type 0} (t : A → Bool) (i : ℕ) (xs : List A) → position_from t i xs ≡ None → list_any t xs ≡ false
none_passes t i [] e = refl
none_passes t i (x ∷ xs) e =
    elim (t x) as (λ b. cond b (Some i) (position_from t (i + 1) xs) ≡ None → (b || list_any t xs) ≡ false) [
      | true ↦ λ h. cc
      | false ↦ λ h. none_passes t (i + 1) xs h
    ] e
