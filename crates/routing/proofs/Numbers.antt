-- The first item that passes a test, and where it stands.
use Rattle.std.proofs.Common.{◌≡◌, ℕ, zero, suc, ◌+◌, Bool, true, false, cond, ◌&&◌, List, [], ◌∷◌, Some, None, refl, ap, ◌∙◌, arith}
use Rattle.std.specs.Prelude.{slice_get}
use Rattle.std.specs.List.{position_from}
use Rattle.day_model.proofs.laws.Places.{position_from-within}

-- there is an item at this place, and it passes
pub record StandsAt {A : Type 0} (t : A → Bool) (xs : List A) (j : ℕ) : Type 0 where
  pub item : A
  pub there : slice_get xs j ≡ Some item
  pub passes : t item ≡ true

after : {A : Type 0} (t : A → Bool) (x : A) (xs : List A) (j : ℕ) → StandsAt t xs j → StandsAt t (x ∷ xs) (suc j)
after t x xs j s = record { item = s.item; there = s.there; passes = s.passes }

pub found : {A : Type 0} (t : A → Bool) (i j k : ℕ) (xs : List A) → position_from t i xs ≡ Some k → i + j ≡ k → StandsAt t xs j
found t i j k [] e h = cc
found t i zero k (x ∷ xs) e h =
    elim (t x) as (λ b. (t x ≡ b) → cond b (Some i) (position_from t (i + 1) xs) ≡ Some k → StandsAt t (x ∷ xs) zero) [
      | true ↦ λ was at. record { item = x; there = refl; passes = was }
      | false ↦ λ was at. let w = position_from-within t (i + 1) k xs at in absurd (omega arith)
    ] refl e
found t i (suc j) k (x ∷ xs) e h =
    elim (t x) as (λ b. cond b (Some i) (position_from t (i + 1) xs) ≡ Some k → StandsAt t (x ∷ xs) (suc j)) [
      | true ↦ λ at. let s : i ≡ k = cc in absurd (omega arith)
      | false ↦ λ at. after t x xs j (found t (i + 1) j k xs at (omega arith))
    ] e

-- none passes two tests where none passes the first
pub none-both : {A : Type 0} (p q : A → Bool) (i : ℕ) (xs : List A) → position_from p i xs ≡ None → position_from (λ x. p x && q x) i xs ≡ None
none-both p q i [] e = refl
none-both p q i (x ∷ xs) e =
    elim (p x) as (λ b. cond b (Some i) (position_from p (i + 1) xs) ≡ None → cond (b && q x) (Some i) (position_from (λ x. p x && q x) (i + 1) xs) ≡ None) [
      | true ↦ λ at. cc
      | false ↦ λ at. none-both p q (i + 1) xs at
    ] e

-- none passes where each fails
pub none-such : {A : Type 0} (t : A → Bool) (i : ℕ) (xs : List A) → ((k : ℕ) (y : A) → slice_get xs k ≡ Some y → t y ≡ false) → position_from t i xs ≡ None
none-such t i [] fails = refl
none-such t i (x ∷ xs) fails = rw (fails zero x refl) (none-such t (i + 1) xs (λ k y at. fails (suc k) y at))

-- the first that passes one test is the first that passes two, where it passes the other
pub some-both : {A : Type 0} (p q : A → Bool) (i j k : ℕ) (xs : List A) (y : A) → position_from p i xs ≡ Some k → i + j ≡ k → slice_get xs j ≡ Some y → q y ≡ true → position_from (λ x. p x && q x) i xs ≡ Some k
some-both p q i j k [] y e h there passes = cc
some-both p q i zero k (x ∷ xs) y e h there passes =
    let same : x ≡ y = cc in
    let passed : q x ≡ true = ap q same ∙ passes in
    elim (p x) as (λ b. cond b (Some i) (position_from p (i + 1) xs) ≡ Some k → cond (b && q x) (Some i) (position_from (λ x. p x && q x) (i + 1) xs) ≡ Some k) [
      | true ↦ λ at. rw passed at
      | false ↦ λ at. let w = position_from-within p (i + 1) k xs at in absurd (omega arith)
    ] e
some-both p q i (suc j) k (x ∷ xs) y e h there passes =
    elim (p x) as (λ b. cond b (Some i) (position_from p (i + 1) xs) ≡ Some k → cond (b && q x) (Some i) (position_from (λ x. p x && q x) (i + 1) xs) ≡ Some k) [
      | true ↦ λ at. let s : i ≡ k = cc in absurd (omega arith)
      | false ↦ λ at. some-both p q (i + 1) j k xs y at (omega arith) there passes
    ] e
