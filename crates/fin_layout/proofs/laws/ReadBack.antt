-- What was read at a place is what some field says.
use Rattle.std.proofs.Common.{◌≡◌, ℕ, ◌+◌, ◌≤◌, ◌==◌, ◌⊎◌, Bool, true, false, cond, List, [], ◌∷◌, length, Option, Some, None, Result, Ok, Err, refl, ap, arith, inl, inr}
use Rattle.corr_text.specs.First.{◌>>=◌}
use Rattle.corr_text.specs.declared.fault.Code.{Code}
use Rattle.corr_text.specs.declared.fault.Fault.{Fault}
use Rattle.fin_fields.specs.declared.field.Field.{Field}
use Rattle.fin_layout.specs.declared.place.Place.{Place}
use Rattle.fin_layout.specs.Contents.{all_from, located, must_read}

located-ok : {A : Type 0} (fs : List Field) (i : ℕ) (r : Result A Code) (x : A) → located fs i r ≡ Ok x → r ≡ Ok x
located-ok fs i (Ok y) x e = ap Ok (cc e)
located-ok fs i (Err c) x e = absurd (cc e)

-- a content that must be there and is read has a field that says it
pub must-ok : {A : Type 0} (order : List Place) (fs : List Field) (k : ℕ) (read : Field → Result A Code) (o : Option (ℕ × Field)) (x : A) → must_read order fs k read o ≡ Ok x → (f : Field) × (read f ≡ Ok x)
must-ok order fs k read None x e = absurd (cc e)
must-ok order fs k read (Some (i, f)) x e = (f, located-ok fs i (read f) x e)

all-step : {A : Type 0} (b : Bool) (first : Result A Fault) (others here : Result (List A) Fault) (xs : List A) → cond b (first >>= λ x. others >>= λ ys. Ok (x ∷ ys)) here ≡ Ok xs
    → ((x : A) × (ys : List A) × (first ≡ Ok x) × (others ≡ Ok ys) × (x ∷ ys ≡ xs)) ⊎ (here ≡ Ok xs)
all-step true (Ok x) (Ok ys) here xs e = inl (x, ys, refl, refl, cc e)
all-step true (Ok x) (Err f) here xs e = absurd (cc e)
all-step true (Err f) others here xs e = absurd (cc e)
all-step false first others here xs e = inr e

-- no more is read than there are fields
pub all-few : {A : Type 0} (whole : List Field) (k : ℕ) (read : Field → Result A Code) (i : ℕ) (found : List ℕ) (fs : List Field) (xs : List A) → all_from whole k read i found fs ≡ Ok xs → length xs ≤ length fs
unfolding all_from
all-few whole k read i [] fs [] e = omega arith
all-few whole k read i [] fs (x ∷ xs) e = absurd (cc e)
all-few whole k read i (p ∷ found) [] [] e = omega arith
all-few whole k read i (p ∷ found) [] (x ∷ xs) e = absurd (cc e)
all-few whole k read i (p ∷ found) (f ∷ fs) xs e =
    elim (all-step (p == k) (located whole i (read f)) (all_from whole k read (i + 1) found fs) (all_from whole k read (i + 1) found fs) xs e) [
      | inl here ↦
          let (x, ys, first, others, same) = here in
          let few = all-few whole k read (i + 1) found fs ys others in
          rw (← same) (omega (arith, few))
      | inr later ↦ let few = all-few whole k read (i + 1) found fs xs later in omega (arith, few)
    ]
