-- What was read at a place of a message is what some field said that stands there.
use Rattle.std.proofs.Common.{◌≡◌, ℕ, ◌+◌, ◌==◌, ◌⊎◌, Bool, true, false, List, [], ◌∷◌, get_or, drop, option_map, position, Option, Some, None, Result, Ok, Err, refl, sym, ap, ◌∙◌, inl, inr}
use Rattle.std.specs.Prelude.{unwrap_or, cond, IfSome}
use Rattle.std.specs.List.{All, AllByRecursion}
use Rattle.std.proofs.lemmas.Bool.{cases_Bool, eqb-true}
use Rattle.std.proofs.lemmas.List.{get_or-drop}
use Rattle.std.proofs.lemmas.List.Elements.{All-head, All-tail}
use Rattle.std.proofs.lemmas.List.Quantifiers.{position-Some}
use Rattle.corr_text.specs.First.{◌>>=◌}
use Rattle.corr_text.specs.declared.fault.Code.{Code}
use Rattle.corr_text.specs.declared.fault.Fault.{Fault}
use Rattle.fin_fields.specs.declared.field.Field.{Field}
use Rattle.fin_layout.specs.declared.place.Place.{Place}
use Rattle.fin_layout.specs.Contents.{all_from, in_option, in_place, located, may_read, must_read}
use Rattle.fin_layout.specs.Order.{field_in, fits, free_after, place_from, places_from}
use Rattle.fin_layout.proofs.laws.FoundField.{field-here, field-later}
use Rattle.fin_layout.proofs.laws.Fine.{field-nil, second, unshifted}

-- ---- what holds of each field at its place

-- each field has the property of the place that it stands at
abbrev pub HoldsInPlaces : (ℕ → Field → Type 0) → List ℕ → List Field → Type 0
HoldsInPlaces Q [] fs = Unit {0}
HoldsInPlaces Q (q ∷ found) [] = Unit {0}
HoldsInPlaces Q (q ∷ found) (f ∷ fs) = Q q f × HoldsInPlaces Q found fs

-- it has this property, and may stand at that place
pub record Stands (order : List Place) (P : Field → Type 0) (k : ℕ) (f : Field) : Type 0 where
  pub fitting : (d : Place) → fits (get_or order k d) f ≡ true
  pub has : P f

fitting-from : (order : List Place) (free k : ℕ) (f : Field) (o : Option ℕ) → o ≡ position (λ p. fits p f) (drop free order) → option_map (λ j. free + j) o ≡ Some k → (d : Place) → fits (get_or order k d) f ≡ true
fitting-from order free k f None at e d = absurd (cc e)
fitting-from order free k f (Some j) at e d =
    let first = position-Some (λ p. fits p f) (drop free order) j d (sym at) in
    let place : free + j ≡ k = cc e in
    rw (← place, ← get_or-drop) (first.1)

stands-on : (order : List Place) (P : Field → Type 0) (free : ℕ) (f : Field) (fs : List Field) (more : ℕ → List ℕ) (o : Option ℕ) → o ≡ place_from order free f → P f → ((k : ℕ) → HoldsInPlaces (Stands order P) (more k) fs)
    → HoldsInPlaces (Stands order P) (unwrap_or (option_map (λ k. k ∷ more k) o) []) (f ∷ fs)
stands-on order P free f fs more None at is later = tt
stands-on order P free f fs more (Some k) at is later = (record { fitting = fitting-from order free k f (position (λ p. fits p f) (drop free order)) refl (sym at); has = is }, later k)

-- fields that take places stand there
pub stand : (order : List Place) (P : Field → Type 0) (free : ℕ) (fs : List Field) → All P fs → HoldsInPlaces (Stands order P) (places_from order free fs) fs
unfolding places_from
stand order P free [] all = tt
stand order P free (f ∷ fs) all =
    stands-on order P free f fs (λ k. places_from order (free_after order k) fs) (place_from order free f) refl (All-head P f fs all)
    (λ k. stand order P (free_after order k) fs (All-tail P f fs all))

holds-at : (Q : ℕ → Field → Type 0) (k : ℕ) (found : List ℕ) (fs : List Field) (n : ℕ) (f : Field) → HoldsInPlaces Q found fs → field_in fs found k ≡ Some (n, f) → Q k f
holds-at Q k [] fs n f h at = absurd (cc at)
holds-at Q k (q ∷ found) [] n f h at = absurd (cc (sym (field-nil (q ∷ found) k) ∙ at))
holds-at Q k (q ∷ found) (g ∷ fs) n f h at =
    elim (cases_Bool (q == k)) [
      | inl here ↦
          let place : q ≡ k = eqb-true q k here in
          let same : g ≡ f = second 0 n g f (sym (field-here g fs q k found here) ∙ at) in
          rw (← place, ← same) (h.0)
      | inr other ↦
          let u = unshifted (field_in fs found k) n f (sym (field-later g fs q k found other) ∙ at) in
          holds-at Q k found fs u.0 f h.1 u.1
    ]

-- ---- what they say

-- a field of which this holds says so
pub record Said {A : Type 0} (Q : Field → Type 0) (read : Field → Result A Code) (x : A) : Type 0 where
  pub field : Field
  pub says : read field ≡ Ok x
  pub holds : Q field

located-ok : {A : Type 0} (fs : List Field) (i : ℕ) (r : Result A Code) (x : A) → located fs i r ≡ Ok x → r ≡ Ok x
located-ok fs i (Ok y) x e = ap Ok (cc e)
located-ok fs i (Err c) x e = absurd (cc e)

some-ok : {A : Type 0} (r : Result A Fault) (x : A) → (r >>= λ y. Ok (Some y)) ≡ Ok (Some x) → r ≡ Ok x
some-ok (Ok y) x h = ap Ok (cc h)
some-ok (Err c) x h = absurd (cc h)

all-step : {A : Type 0} (b : Bool) (first : Result A Fault) (others here : Result (List A) Fault) (xs : List A) → cond b (first >>= λ x. others >>= λ ys. Ok (x ∷ ys)) here ≡ Ok xs
    → ((x : A) × (ys : List A) × (b ≡ true) × (first ≡ Ok x) × (others ≡ Ok ys) × (x ∷ ys ≡ xs)) ⊎ (here ≡ Ok xs)
all-step true (Ok x) (Ok ys) here xs e = inl (x, ys, refl, refl, refl, cc e)
all-step true (Ok x) (Err f) here xs e = absurd (cc e)
all-step true (Err f) others here xs e = absurd (cc e)
all-step false first others here xs e = inr e

module _ {A : Type 0} (Q : ℕ → Field → Type 0) (whole : List Field) (k : ℕ) (read : Field → Result A Code) where
  must-say : (order : List Place) (found : List ℕ) (o : Option (ℕ × Field)) (x : A) → HoldsInPlaces Q found whole → o ≡ field_in whole found k → must_read order whole k read o ≡ Ok x → Said (Q k) read x
  must-say order found None x h at e = absurd (cc e)
  must-say order found (Some (n, f)) x h at e = record { field = f; says = located-ok whole n (read f) x e; holds = holds-at Q k found whole n f h (sym at) }

  -- at a mandatory place
  pub said-one : (order : List Place) (found : List ℕ) (x : A) → HoldsInPlaces Q found whole → in_place order whole found k read ≡ Ok x → Said (Q k) read x
  said-one order found x h e = must-say order found (field_in whole found k) x h refl e

  may-say : (found : List ℕ) (o : Option (ℕ × Field)) (x : A) → HoldsInPlaces Q found whole → o ≡ field_in whole found k → may_read whole read o ≡ Ok (Some x) → Said (Q k) read x
  may-say found None x h at e = absurd (cc e)
  may-say found (Some (n, f)) x h at e =
      record { field = f; says = located-ok whole n (read f) x (some-ok (located whole n (read f)) x e); holds = holds-at Q k found whole n f h (sym at) }

  -- at an optional place
  pub said-option : (found : List ℕ) (o : Option A) → HoldsInPlaces Q found whole → in_option whole found k read ≡ Ok o → IfSome o (Said (Q k) read)
  said-option found None h e = tt
  said-option found (Some x) h e = may-say found (field_in whole found k) x h refl e

  -- at a place of several fields
  pub said-all : (i : ℕ) (found : List ℕ) (fs : List Field) (xs : List A) → HoldsInPlaces Q found fs → all_from whole k read i found fs ≡ Ok xs → AllByRecursion (Said (Q k) read) xs
  unfolding all_from
  said-all i [] fs [] h e = tt
  said-all i [] fs (x ∷ xs) h e = absurd (cc e)
  said-all i (q ∷ found) [] [] h e = tt
  said-all i (q ∷ found) [] (x ∷ xs) h e = absurd (cc e)
  said-all i (q ∷ found) (f ∷ fs) xs h e =
      elim (all-step (q == k) (located whole i (read f)) (all_from whole k read (i + 1) found fs) (all_from whole k read (i + 1) found fs) xs e) [
        | inl here ↦
            let (x, ys, at, first, others, same) = here in
            let place : q ≡ k = eqb-true q k at in
            rw (← same) (record { field = f; says = located-ok whole i (read f) x first; holds = rw (← place) (h.0) }, said-all (i + 1) found fs ys h.1 others)
        | inr later ↦ said-all (i + 1) found fs xs h.1 later
      ]
