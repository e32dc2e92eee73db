-- The field that is found at a place.
use Rattle.std.proofs.Common.{◌≡◌, ℕ, zero, suc, ◌+◌, ◌<◌, ◌==◌, ◌||◌, Bool, true, false, List, [], ◌∷◌, ◌++◌, length, replicate, Option, Some, None, refl, ap, ◌∙◌, arith, option_map, option_and_then, position, add-one, slice_get}
use Rattle.std.proofs.lemmas.Bool.Decides.{nat_tests}
use Rattle.std.proofs.lemmas.List.Folds.{list_any-append}
use Rattle.std.specs.List.{list_any}
use Rattle.fin_fields.specs.declared.field.Field.{Field}
use Rattle.fin_fields.proofs.laws.Positions.{position-here, position-later}
use Rattle.fin_layout.specs.Order.{field_in}
use Rattle.fin_layout.specs.Segments.{joined}
use Rattle.fin_layout.specs.inner.Segments.{places_of}

slice_get-later : {X : Type 0} (x : X) (xs : List X) (i : ℕ) → slice_get (x ∷ xs) (i + 1) ≡ slice_get xs i
slice_get-later x xs i = rw add-one refl

-- a field that is found so many items later
abbrev pub shifted : ℕ → ℕ × Field → ℕ × Field
shifted n x = (x.0 + n, x.1)

-- a field at the head that stands at the place is the one that is found
pub field-here : (f : Field) (fs : List Field) (q k : ℕ) (found : List ℕ) → (q == k) ≡ true → field_in (f ∷ fs) (q ∷ found) k ≡ Some (0, f)
field-here f fs q k found h = rw (position-here (λ r. r == k) q found h) refl

-- after a field at another place the one that is found stands one item later
pub field-later : (f : Field) (fs : List Field) (q k : ℕ) (found : List ℕ) → (q == k) ≡ false → field_in (f ∷ fs) (q ∷ found) k ≡ option_map (shifted 1) (field_in fs found k)
field-later f fs q k found h = rw (position-later (λ r. r == k) q found h) (go (position (λ r. r == k) found))
  where
    go : (o : Option ℕ) → option_and_then (λ i. option_map (λ g. (i, g)) (slice_get (f ∷ fs) i)) (option_map (λ i. i + 1) o) ≡ option_map (shifted 1) (option_and_then (λ i. option_map (λ g. (i, g)) (slice_get fs i)) o)
    go None = refl
    go (Some i) = rw slice_get-later (by (slice_get fs i))
      where
        by : (g : Option Field) → option_map (λ g. (i + 1, g)) g ≡ option_map (shifted 1) (option_map (λ g. (i, g)) g)
        by None = refl
        by (Some g) = refl

shifted-twice : (m : ℕ) (o : Option (ℕ × Field)) → option_map (shifted 1) (option_map (shifted m) o) ≡ option_map (shifted (suc m)) o
shifted-twice m None = refl
shifted-twice m (Some x) = ap (λ n. Some (n, x.1)) (omega arith)

not-shifted : (o : Option (ℕ × Field)) → o ≡ option_map (shifted 0) o
not-shifted None = refl
not-shifted (Some x) = ap (λ n. Some (n, x.1)) (omega arith)

-- a group at another place is passed over
field-past : (seg fs : List Field) (j k : ℕ) (found : List ℕ) → (j == k) ≡ false → field_in (seg ++ fs) (replicate (length seg) j ++ found) k ≡ option_map (shifted (length seg)) (field_in fs found k)
field-past [] fs j k found h = not-shifted (field_in fs found k)
field-past (f ∷ seg) fs j k found h =
    field-later f (seg ++ fs) j k (replicate (length seg) j ++ found) h
    ∙ ap (option_map (shifted 1)) (field-past seg fs j k found h) ∙ shifted-twice (length seg) (field_in fs found k)

before : (j k : ℕ) → j < k → (j == k) ≡ false
before j k lt = grind (arith, nat_tests)

after : (j k : ℕ) → k < j → (j == k) ≡ false
after j k lt = grind (arith, nat_tests)

-- there is the first field of its group
pub grouped-field : (segs : List (List Field)) (j n : ℕ) (f : Field) (more : List Field) → slice_get segs n ≡ Some (f ∷ more) → (i : ℕ) × (field_in (joined segs) (places_of j segs) (j + n) ≡ Some (i, f))
grouped-field [] j n f more e = absurd (cc e)
grouped-field (s ∷ ss) j zero f more e =
    let same : s ≡ f ∷ more = cc e in
    let here : (j == j + 0) ≡ true = grind (arith, nat_tests) in
    (0, rw same (field-here f (more ++ joined ss) j (j + 0) (replicate (length more) j ++ places_of (j + 1) ss) here))
grouped-field (s ∷ ss) j (suc n) f more e =
    let later = grouped-field ss (j + 1) n f more e in
    let place : j + suc n ≡ j + 1 + n = omega arith in
    (later.0 + length s, field-past s (joined ss) j (j + suc n) (places_of (j + 1) ss) (before j (j + suc n) (omega arith)) ∙ rw (place, later.1) refl)

-- no field is at a place before these groups
none-before : (segs : List (List Field)) (j k : ℕ) → k < j → field_in (joined segs) (places_of j segs) k ≡ None
none-before [] j k lt = refl
none-before (s ∷ ss) j k lt = field-past s (joined ss) j k (places_of (j + 1) ss) (after j k lt) ∙ rw (none-before ss (j + 1) k (omega arith)) refl

-- none is there for an empty group
pub grouped-none : (segs : List (List Field)) (j n : ℕ) → slice_get segs n ≡ Some [] → field_in (joined segs) (places_of j segs) (j + n) ≡ None
grouped-none [] j n e = refl
grouped-none (s ∷ ss) j zero e =
    let same : s ≡ [] = cc e in
    rw same (none-before ss (j + 1) (j + 0) (omega arith))
grouped-none (s ∷ ss) j (suc n) e =
    let place : j + suc n ≡ j + 1 + n = omega arith in
    field-past s (joined ss) j (j + suc n) (places_of (j + 1) ss) (before j (j + suc n) (omega arith)) ∙ rw (place, grouped-none ss (j + 1) n e) refl

-- a group that has a field takes its place
pub grouped-taken : (segs : List (List Field)) (j n : ℕ) (f : Field) (more : List Field) → slice_get segs n ≡ Some (f ∷ more) → list_any (λ q. q == j + n) (places_of j segs) ≡ true
grouped-taken [] j n f more e = absurd (cc e)
grouped-taken (s ∷ ss) j zero f more e =
    let same : s ≡ f ∷ more = cc e in
    let here : (j == j + 0) ≡ true = grind (arith, nat_tests) in
    rw (same, here) refl
grouped-taken (s ∷ ss) j (suc n) f more e =
    let place : j + suc n ≡ j + 1 + n = omega arith in
    rw (list_any-append (λ q. q == j + suc n) (replicate (length s) j) (places_of (j + 1) ss), place, grouped-taken ss (j + 1) n f more e) (or-true _)
  where
    or-true : (b : Bool) → (b || true) ≡ true
    or-true true = refl
    or-true false = refl
