-- The first of a list that a test refuses, given those before it.
use Rattle.std.proofs.Common.{◌≡◌, ℕ, ◌+◌, ◌<◌, ◌≤◌, Bool, true, false, List, length, get_or, take, drop, Some, None, refl, arith}
use Rattle.std.proofs.lemmas.List.{drop_more, take_more, drop_all, length-take-le}
use Rattle.mt103.specs.Instructions.{first_given}

module _ {A : Type 0} (test : List A → A → Bool) (xs : List A) (i : ℕ) where
  pub given-more : (x : A) → x ≡ get_or xs i x → test (take i xs) x ≡ false → i < length xs → first_given test (take i xs) (drop i xs) ≡ first_given test (take (i + 1) xs) (drop (i + 1) xs)
  unfolding first_given
  given-more x at none lt = rw (drop_more xs i x lt, take_more xs i x lt, ← at, none) refl

  pub given-here : (x : A) → x ≡ get_or xs i x → test (take i xs) x ≡ true → i < length xs → first_given test (take i xs) (drop i xs) ≡ Some i
  unfolding first_given
  given-here x at some lt = rw (drop_more xs i x lt, ← at, some, length-take-le i xs (omega arith)) refl

  pub given-end : length xs ≤ i → first_given test (take i xs) (drop i xs) ≡ None
  unfolding first_given
  given-end le = rw (drop_all i xs le) refl
