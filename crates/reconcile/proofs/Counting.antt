-- Elements that pass a test, counted along a list.
use Rattle.std.proofs.Common.{◌≡◌, ℕ, zero, suc, ◌-◌, ◌<◌, ◌≤◌, Bool, true, false, cond, List, [], ◌∷◌, length, take, Some, refl, sym, ap, ◌∙◌, arith, inl, inr}
use Rattle.std.specs.Prelude.{slice_get}
use Rattle.std.specs.List.{filter}
use Rattle.std.proofs.lemmas.Bool.{cases_Bool, cases_eq}
use Rattle.std.proofs.lemmas.Option.{none-some, same_Some}

bump : {A : Type 0} (b : Bool) (x : A) (xs ys : List A) → length xs ≤ length ys → length (cond b (x ∷ xs) xs) ≤ length (cond b (x ∷ ys) ys)
bump true x xs ys le = omega (arith, le)
bump false x xs ys le = le

bump-lt : {A : Type 0} (b : Bool) (x : A) (xs ys : List A) → length xs < length ys → length (cond b (x ∷ xs) xs) < length (cond b (x ∷ ys) ys)
bump-lt true x xs ys lt = omega (arith, lt)
bump-lt false x xs ys lt = lt

-- those after an element that passes are more than those ahead of it
pub count-lt : {A : Type 0} (q : A → Bool) (xs : List A) (l k : ℕ) (x : A) → l < k → slice_get xs l ≡ Some x → q x ≡ true → length (filter q (take l xs)) < length (filter q (take k xs))
count-lt q [] l k x lt at holds = absurd (none-some x at)
count-lt q (y ∷ xs) zero zero x lt at holds = absurd (omega (arith, lt))
count-lt q (y ∷ xs) zero (suc k) x lt at holds = let here : q y ≡ true = ap q (same_Some y x at) ∙ holds in rw here (omega arith)
count-lt q (y ∷ xs) (suc l) zero x lt at holds = absurd (omega (arith, lt))
count-lt q (y ∷ xs) (suc l) (suc k) x lt at holds = bump-lt (q y) y (filter q (take l xs)) (filter q (take k xs)) (count-lt q xs l k x (omega (arith, lt)) at holds)

-- an element among the first k that passes, and has so many like it ahead
pub record Nth {A : Type 0} (q : A → Bool) (xs : List A) (k j : ℕ) : Type 0 where
  pub place : ℕ
  pub item : A
  pub below : place < k
  pub there : slice_get xs place ≡ Some item
  pub holds : q item ≡ true
  pub count : length (filter q (take place xs)) ≡ j

later : {A : Type 0} (q : A → Bool) (y : A) (xs : List A) (k j i : ℕ) → q y ≡ true → j ≡ suc i → Nth q xs k i → Nth q (y ∷ xs) (suc k) j
later q y xs k j i met e n =
    let below = n.below in
    let count = n.count in
    record { place = suc n.place; item = n.item; below = omega (arith, below); there = n.there; holds = n.holds; count = rw met (omega (arith, e, count)) }

passed : {A : Type 0} (q : A → Bool) (y : A) (xs : List A) (k j : ℕ) → q y ≡ false → Nth q xs k j → Nth q (y ∷ xs) (suc k) j
passed q y xs k j unmet n =
    let below = n.below in
    record { place = suc n.place; item = n.item; below = omega (arith, below); there = n.there; holds = n.holds; count = rw unmet n.count }

pub nth : {A : Type 0} (q : A → Bool) (xs : List A) (k j : ℕ) → j < length (filter q (take k xs)) → Nth q xs k j
nth q xs zero j lt = absurd (omega (arith, lt))
nth q [] (suc k) j lt = absurd (omega (arith, lt))
nth q (y ∷ xs) (suc k) j lt =
    elim (cases_Bool (q y)) [
      | inl met ↦
          let less : j < suc (length (filter q (take k xs))) = rw met at lt in
          elim (cases_eq j 0) [
            | inl none ↦ record { place = 0; item = y; below = omega arith; there = refl; holds = met; count = sym none }
            | inr some ↦
                let before : j ≡ suc (j - 1) = omega (arith, some) in
                later q y xs k j (j - 1) met before (nth q xs k (j - 1) (omega (arith, less, before)))
          ]
      | inr unmet ↦ let less : j < length (filter q (take k xs)) = rw unmet at lt in passed q y xs k j unmet (nth q xs k j less)
    ]

-- ---- what a filter keeps

first-kept : {A : Type 0} (test : A → Bool) (x : A) (xs : List A) → test x ≡ true → slice_get (filter test (x ∷ xs)) 0 ≡ Some x
first-kept test x xs e = rw e refl

-- an element that passes is kept
pub kept-at : {A : Type 0} (test : A → Bool) (xs : List A) (i : ℕ) (x : A) → slice_get xs i ≡ Some x → test x ≡ true → (j : ℕ) × (slice_get (filter test xs) j ≡ Some x)
kept-at test [] i x at holds = absurd (none-some x at)
kept-at test (y ∷ xs) zero x at holds = let same : y ≡ x = same_Some y x at in (0, first-kept test y xs (ap test same ∙ holds) ∙ ap Some same)
kept-at test (y ∷ xs) (suc i) x at holds =
    let rest = kept-at test xs i x at holds in
    elim (cases_Bool (test y)) [
      | inl met ↦ (suc rest.0, rw met rest.1)
      | inr unmet ↦ (rest.0, rw unmet rest.1)
    ]

-- a kept element, at a place of the list
pub record Kept {A : Type 0} (test : A → Bool) (xs : List A) (x : A) : Type 0 where
  pub place : ℕ
  pub there : slice_get xs place ≡ Some x
  pub holds : test x ≡ true

kept-after : {A : Type 0} (test : A → Bool) (y : A) (xs : List A) (x : A) → Kept test xs x → Kept test (y ∷ xs) x
kept-after test y xs x k = record { place = suc k.place; there = k.there; holds = k.holds }

kept-cases : {A : Type 0} (test : A → Bool) (y : A) (xs kept : List A) (b : Bool) (j : ℕ) (x : A) → test y ≡ b → ((i : ℕ) → slice_get kept i ≡ Some x → Kept test xs x)
    → slice_get (cond b (y ∷ kept) kept) j ≡ Some x → Kept test (y ∷ xs) x
kept-cases test y xs kept true zero x e rest at = record { place = 0; there = at; holds = ap test (sym (same_Some y x at)) ∙ e }
kept-cases test y xs kept true (suc j) x e rest at = kept-after test y xs x (rest j at)
kept-cases test y xs kept false j x e rest at = kept-after test y xs x (rest j at)

pub kept-from : {A : Type 0} (test : A → Bool) (xs : List A) (j : ℕ) (x : A) → slice_get (filter test xs) j ≡ Some x → Kept test xs x
kept-from test [] j x at = absurd (none-some x at)
kept-from test (y ∷ xs) j x at = kept-cases test y xs (filter test xs) (test y) j x refl (λ i e. kept-from test xs i x e) at
