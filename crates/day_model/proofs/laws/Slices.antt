-- Elements of a list that grows by one, or in which one is replaced.
use Rattle.std.proofs.Common.{◌≡◌, ◌≢◌, ℕ, zero, suc, ◌<◌, List, [], ◌∷◌, ◌++◌, Some, None, length, refl, sym, ap, ◌∙◌, arith, inl, inr, set}
use Rattle.std.specs.Prelude.{◌⊎◌, slice_get, slice_set}
use Rattle.std.proofs.lemmas.Bool.{cases_lt}
use Rattle.std.proofs.lemmas.List.{length-set, get_or-set_same, get_or-set_other}
use Rattle.std.proofs.lemmas.Option.{none-some, same_Some, slice_get-get_or, slice_get_past}

-- what is set at a place stands there
pub slice_get-set_same : {A : Type 0} (xs : List A) (i : ℕ) (y : A) → i < length xs → slice_get (slice_set xs i y) i ≡ Some y
slice_get-set_same {A = A} xs i y lt =
    let size = length-set xs i y in
    slice_get-get_or (set xs i y) i y (omega arith) ∙ ap (λ (z : A). Some z) (get_or-set_same xs i y y lt)

-- and at each other place stands what stood there
pub slice_get-set_other : {A : Type 0} (xs : List A) (i j : ℕ) (y : A) → j ≢ i → slice_get (slice_set xs i y) j ≡ slice_get xs j
slice_get-set_other {A = A} xs i j y ne =
    let size = length-set xs i y in
    elim (cases_lt j (length xs)) [
      | inl lt ↦ slice_get-get_or (set xs i y) j y (omega arith) ∙ ap (λ (z : A). Some z) (get_or-set_other xs i j y y ne)
          ∙ sym (slice_get-get_or xs j y lt)
      | inr past ↦ slice_get_past (set xs i y) j (omega arith) ∙ sym (slice_get_past xs j past)
    ]

-- what was there is there before one more
pub push_before : {A : Type 0} (xs : List A) (y : A) (j : ℕ) (x : A) → slice_get xs j ≡ Some x → slice_get (xs ++ y ∷ []) j ≡ Some x
push_before [] y j x at = absurd (none-some x at)
push_before (z ∷ xs) y zero x at = at
push_before (z ∷ xs) y (suc j) x at = push_before xs y j x at

-- the one more stands last
pub push_last : {A : Type 0} (xs : List A) (y : A) → slice_get (xs ++ y ∷ []) (length xs) ≡ Some y
push_last [] y = refl
push_last (x ∷ xs) y = push_last xs y

-- behind it there is nothing
pub push_past : {A : Type 0} (xs : List A) (y : A) (j : ℕ) → length xs < j → slice_get (xs ++ y ∷ []) j ≡ None
push_past [] y zero lt = absurd (omega (arith, lt))
push_past [] y (suc j) lt = refl
push_past (x ∷ xs) y zero lt = absurd (omega (arith, lt))
push_past (x ∷ xs) y (suc j) lt = push_past xs y j (omega (arith, lt))

-- an element of a list and one more is an old one, or the new one
pub in_pushed : {A : Type 0} (xs : List A) (y : A) (k : ℕ) (x : A) → slice_get (xs ++ y ∷ []) k ≡ Some x
    → (slice_get xs k ≡ Some x) ⊎ ((k ≡ length xs) × (y ≡ x))
in_pushed [] y zero x at = inr (refl, same_Some y x at)
in_pushed [] y (suc k) x at = absurd (none-some x at)
in_pushed (z ∷ xs) y zero x at = inl at
in_pushed (z ∷ xs) y (suc k) x at =
    elim (in_pushed xs y k x at) [
      | inl old ↦ inl old
      | inr new ↦ inr (ap suc new.0, new.1)
    ]

-- an element of a front is one of the whole
pub front_get : {A : Type 0} (front more : List A) (i : ℕ) (x : A) → slice_get front i ≡ Some x → slice_get (front ++ more) i ≡ Some x
front_get [] more i x at = absurd (none-some x at)
front_get (y ∷ front) more zero x at = at
front_get (y ∷ front) more (suc i) x at = front_get front more i x at
