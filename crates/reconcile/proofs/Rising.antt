-- Lists whose numbers rise.
use Rattle.std.proofs.Common.{◌≡◌, ℕ, zero, suc, ◌+◌, ◌<◌, ◌≤◌, Bool, true, false, cond, List, [], ◌∷◌, Some, sym, ap, ◌∙◌, subst, arith, inl, inr}
use Rattle.std.specs.Prelude.{slice_get}
use Rattle.std.specs.List.{filter}
use Rattle.std.proofs.lemmas.Bool.{cases_lt}
use Rattle.std.proofs.lemmas.Option.{none-some, same_Some}
use Rattle.statement.specs.inner.Lines.{RiseFrom}

module _ {A : Type 0} (number : A → ℕ) where
  pub rise-later : (low more : ℕ) (xs : List A) → low ≤ more → RiseFrom number more xs → RiseFrom number low xs
  rise-later low more [] le up = tt
  rise-later low more (x ∷ xs) le up = let first = up.0 in (omega (arith, le, first), up.1)

  one-kept : (low : ℕ) (x : A) (xs : List A) (b : Bool) → low ≤ number x → RiseFrom number (number x + 1) xs → RiseFrom number low (cond b (x ∷ xs) xs)
  one-kept low x xs true le up = (le, up)
  one-kept low x xs false le up = rise-later low (number x + 1) xs (omega (arith, le)) up

  -- those that pass a test rise too
  pub filter-rises : (low : ℕ) (test : A → Bool) (xs : List A) → RiseFrom number low xs → RiseFrom number low (filter test xs)
  filter-rises low test [] up = tt
  filter-rises low test (x ∷ xs) up = one-kept low x (filter test xs) (test x) up.0 (filter-rises (number x + 1) test xs up.1)

  pub from-low : (low : ℕ) (xs : List A) (i : ℕ) (x : A) → RiseFrom number low xs → slice_get xs i ≡ Some x → low ≤ number x
  from-low low [] i x up at = absurd (none-some x at)
  from-low low (y ∷ xs) zero x up at = subst (λ (z : A). low ≤ number z) (same_Some y x at) up.0
  from-low low (y ∷ xs) (suc i) x up at =
      let rest = from-low (number y + 1) xs i x up.1 at in
      let first = up.0 in
      omega (arith, rest, first)

  -- a later one has a greater number
  pub rises : (low : ℕ) (xs : List A) (i j : ℕ) (x y : A) → RiseFrom number low xs → i < j → slice_get xs i ≡ Some x → slice_get xs j ≡ Some y → number x < number y
  rises low [] i j x y up lt e f = absurd (none-some x e)
  rises low (z ∷ xs) zero zero x y up lt e f = absurd (omega (arith, lt))
  rises low (z ∷ xs) zero (suc j) x y up lt e f =
      let rest = from-low (number z + 1) xs j y up.1 f in
      let same : number z ≡ number x = ap number (same_Some z x e) in
      omega (arith, rest, same)
  rises low (z ∷ xs) (suc i) zero x y up lt e f = absurd (omega (arith, lt))
  rises low (z ∷ xs) (suc i) (suc j) x y up lt e f = rises (number z + 1) xs i j x y up.1 (omega (arith, lt)) e f

  -- one with the same number is the same
  pub same-item : (low : ℕ) (xs : List A) (i j : ℕ) (x y : A) → RiseFrom number low xs → slice_get xs i ≡ Some x → slice_get xs j ≡ Some y → number x ≡ number y → x ≡ y
  same-item low xs i j x y up e f same =
      elim (cases_lt i j) [
        | inl lt ↦ let less = rises low xs i j x y up lt e f in absurd (omega (arith, less, same))
        | inr le ↦ elim (cases_lt j i) [
          | inl lt ↦ let less = rises low xs j i y x up lt f e in absurd (omega (arith, less, same))
          | inr more ↦
              let here : i ≡ j = omega (arith, le, more) in
              same_Some x y (sym e ∙ ap (slice_get xs) here ∙ f)
        ]
      ]
