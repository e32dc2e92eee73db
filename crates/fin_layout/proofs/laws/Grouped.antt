-- Fields that are grouped by place take those places.
use Rattle.std.proofs.Common.{◌≡◌, ℕ, ◌+◌, ◌-◌, ◌<◌, ◌≤◌, ◌==◌, Bool, true, false, cond, List, [], ◌∷◌, ◌++◌, length, get_or, drop, replicate, Option, Some, None, refl, ap, ◌∙◌, arith, inl, inr, option_map, position, slice_get, unwrap_or, eq-eqb}
use Rattle.std.proofs.lemmas.Bool.{lt-ltb}
use Rattle.std.proofs.lemmas.List.{nil_from_length, get_or-drop, length-drop, length-append, length-replicate, drop-drop}
use Rattle.std.proofs.lemmas.List.Quantifiers.{position-Some}
use Rattle.std.proofs.lemmas.List.Sums.{position_or_len_is}
use Rattle.std.specs.List.{position_or_len}
use Rattle.corr_text.specs.First.{first_of}
use Rattle.fin_fields.specs.declared.field.Field.{Field}
use Rattle.fin_layout.specs.declared.place.Place.{Place}
use Rattle.fin_layout.specs.Order.{fits, free_after, missing_from, place_from, places_from}
use Rattle.fin_layout.specs.Segments.{joined}
use Rattle.fin_layout.specs.inner.Segments.{IsFirst, Segment, Segments, places_of}
use Rattle.fin_layout.specs.Tests.{structure_tests}

-- ---- the first place that passes

position-at : {X : Type 0} (p : X → Bool) (xs : List X) (i : ℕ) (d : X) → i < length xs → ((k : ℕ) → k < i → p (get_or xs k d) ≡ false) → p (get_or xs i d) ≡ true → position p xs ≡ Some i
position-at p xs i d lt below here =
    let at : position_or_len p xs ≡ i = position_or_len_is p xs i d (omega arith) below (λ _. here) in
    rw (at, lt-ltb i (length xs) lt) refl

position-drop : {X : Type 0} (p : X → Bool) (xs : List X) (j free : ℕ) (d : X) → position p xs ≡ Some j → free ≤ j → position p (drop free xs) ≡ Some (j - free)
position-drop p xs j free d e le =
    let s = position-Some p xs j d e in
    position-at p (drop free xs) (j - free) d (omega (arith, s.0, length-drop free xs))
    (λ k lt. rw get_or-drop (s.2 (free + k) (omega arith)))
    (let there : free + (j - free) ≡ j = omega arith in rw (get_or-drop, there) s.1)

some-mapped : (low j : ℕ) (o : Option ℕ) → option_map (λ k. low + k) o ≡ Some j → (i : ℕ) × (o ≡ Some i) × (low + i ≡ j)
some-mapped low j None e = absurd (cc e)
some-mapped low j (Some i) e = (i, refl, cc e)

-- the first place from a lower bound on is the first from any place up to it
placed-from : (order : List Place) (low j free : ℕ) (f : Field) (d : Place) → IsFirst order low j f → low ≤ free → free ≤ j → place_from order free f ≡ Some j
placed-from order low j free f d e from le =
    let first = some-mapped low j (position (λ p. fits p f) (drop low order)) e in
    let sum : low + first.0 ≡ j = first.2 in
    let total : (free - low) + low ≡ free = omega arith in
    let moved : drop (free - low) (drop low order) ≡ drop free order = drop-drop (free - low) low order ∙ ap (λ n. drop n order) (omega arith) in
    let found : position (λ p. fits p f) (drop free order) ≡ Some (first.0 - (free - low)) =
    rw (← moved) (position-drop (λ p. fits p f) (drop low order) first.0 (free - low) d first.1 (omega (arith, sum))) in
    let there : free + (first.0 - (free - low)) ≡ j = omega (arith, sum) in
    rw found (ap Some there)

-- ---- placing

-- after a field the next place is free, or the same
pub free_after-bounds : (order : List Place) (k : ℕ) → (k ≤ free_after order k) × (free_after order k ≤ k + 1)
free_after-bounds order k = go (slice_get order k)
  where
    next : (many : Bool) → (k ≤ cond many k (k + 1)) × (cond many k (k + 1) ≤ k + 1)
    next true = (omega arith, omega arith)
    next false = (omega arith, omega arith)

    go : (o : Option Place) → (k ≤ unwrap_or (option_map (λ p. cond p.many k (k + 1)) o) (k + 1)) × (unwrap_or (option_map (λ p. cond p.many k (k + 1)) o) (k + 1) ≤ k + 1)
    go None = (omega arith, omega arith)
    go (Some p) = next p.many

-- what the fields of one place leave free
record SegmentPlaced (order : List Place) (j free : ℕ) (seg rest : List Field) (after : ℕ) : Type 0 where
  low : free ≤ after
  high : after ≤ j + 1
  taken : 1 ≤ length seg → free_after order j ≤ after
  places : places_from order free (seg ++ rest) ≡ replicate (length seg) j ++ places_from order after rest

seg-places : (order : List Place) (d : Place) (low j free : ℕ) (seg rest : List Field) → low ≤ free → free ≤ j → Segment order low j seg → (after : ℕ) × SegmentPlaced order j free seg rest after
unfolding places_from
seg-places order d low j free [] rest from le s = (free, record { low = omega arith; high = omega arith; taken = λ some. absurd (omega (arith, some)); places = refl })
seg-places order d low j free (f ∷ more) rest from le s =
    let bounds = free_after-bounds order j in
    let placed = placed-from order low j free f d s.each.0 from le in
    elim s.single [
      | inl stays ↦
          let above : low ≤ free_after order j = omega (arith, stays) in
          let below : free_after order j ≤ j = omega (arith, stays) in
          let later = seg-places order d low j (free_after order j) more rest above below (record { each = s.each.1; single = inl stays }) in (
            later.0,
            record {
              low = omega (arith, later.1.low, stays);
              high = later.1.high;
              taken = λ some. later.1.low;
              places = rw placed (ap (λ (t : List ℕ). j ∷ t) later.1.places);
            },
          )
      | inr one ↦
          let none : more ≡ [] = nil_from_length more (omega (arith, one)) in (
            free_after order j,
            record {
              low = omega (arith, bounds.0);
              high = bounds.1;
              taken = λ some. omega arith;
              places = rw (placed, none) refl;
            },
          )
    ]

-- fields that are written place by place stand at those places
pub grouped-places : (order : List Place) (d : Place) (low j free : ℕ) (segs : List (List Field)) → low ≤ free → free ≤ j → Segments order low j segs → places_from order free (joined segs) ≡ places_of j segs
unfolding places_from
grouped-places order d low j free [] from le h = refl
grouped-places order d low j free (s ∷ ss) from le h =
    let here = seg-places order d low j free s (joined ss) from le h.0 in
    let (next, beyond, more) = h.1 in
    let reached : next ≤ here.0 =
    elim beyond [
      | inl was ↦ omega (arith, was, from, here.1.low)
      | inr taken ↦ omega (arith, taken.1, here.1.taken taken.0)
    ] in
    here.1.places ∙ ap (λ (t : List ℕ). replicate (length s) j ++ t) (grouped-places order d next (j + 1) here.0 ss reached here.1.high more)

-- each field has one place
pub length-places_of : (j : ℕ) (segs : List (List Field)) → length (places_of j segs) ≡ length (joined segs)
length-places_of j [] = refl
length-places_of j (s ∷ ss) = simp (length-append, length-replicate) (ap (λ n. length s + n) (length-places_of (j + 1) ss))

-- fields that are grouped so, with each mandatory place taken, have no fault of structure
pub grouped-structure : (order : List Place) (d : Place) (segs : List (List Field)) → Segments order 0 0 segs → missing_from 0 order (places_of 0 segs) ≡ None → first_of (structure_tests order (joined segs)) ≡ None
grouped-structure order d segs h none =
    let placed = grouped-places order d 0 0 0 segs (omega arith) (omega arith) h in
    let same : (length (places_of 0 segs) == length (joined segs)) ≡ true = rw (length-places_of 0 segs) (eq-eqb (length (joined segs)) (length (joined segs)) refl) in
    rw (placed, same, none) refl
