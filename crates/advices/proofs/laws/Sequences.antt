-- Fields in two parts: their places are those of the front part, and then those of the back part.
use Rattle.std.proofs.Common.{◌≡◌, ℕ, zero, suc, ◌+◌, ◌<◌, ◌≤◌, ◌==◌, ◌||◌, Bool, true, false, cond, List, [], ◌∷◌, ◌++◌, length, take, drop, position, replicate, option_map, Option, Some, None, refl, sym, ap, ◌∙◌, arith, subst, inl, inr}
use Rattle.std.specs.Prelude.{find, unwrap_or}
use Rattle.std.specs.List.{AllByRecursion, list_any}
use Rattle.std.proofs.lemmas.Bool.{cases_Bool, eqb-true}
use Rattle.std.proofs.lemmas.Bool.Decides.{nat_tests}
use Rattle.std.proofs.lemmas.List.Folds.{list_any-append}
use Rattle.corr_text.specs.First.{first_of}
use Rattle.corr_text.specs.declared.fault.Code.{Code}
use Rattle.fin_fields.specs.declared.field.Field.{Field}
use Rattle.fin_fields.proofs.laws.Positions.{position-here, position-later}
use Rattle.fin_layout.specs.declared.place.Place.{Place}
use Rattle.fin_layout.specs.Naming.{fault_at}
use Rattle.fin_layout.specs.Order.{field_in, fits, free_after, place_from, places_from}
use Rattle.fin_layout.specs.inner.Segments.{places_of}
use Rattle.fin_layout.specs.Tests.{contents_from}
use Rattle.fin_layout.proofs.laws.Fine.{field-nil, first-none, map-none}
use Rattle.fin_layout.proofs.laws.FoundField.{field-here, field-later}
use Rattle.fin_layout.proofs.laws.Grouped.{free_after-bounds}
use Rattle.fin_contents.proofs.laws.Said.{HoldsInPlaces}
use Rattle.advices.proofs.laws.Finding.{field_of, same-field}
use Rattle.advices.proofs.laws.Said.{at_place}

-- ---- places

-- the first place that is free after fields that took these
abbrev pub free_past : List Place → ℕ → List ℕ → ℕ
free_past order free [] = free
free_past order free (k ∷ ks) = free_past order (free_after order k) ks

-- what these leave free of `free`, where they stand one after the other
abbrev left_free : List Place → ℕ → List Field → ℕ
left_free order free xs = free_past order free (places_from order free xs)

-- the places of a field and of those after it
abbrev pub from_place : (ℕ → List ℕ) → Option ℕ → List ℕ
from_place more o = unwrap_or (option_map (λ k. k ∷ more k) o) []

-- the places of fields that stand after place k
abbrev after_place : List Place → List Field → ℕ → List ℕ
after_place order xs k = places_from order (free_after order k) xs

-- what places from `low` on leave free is after each of them
abbrev IsPast : List Place → ℕ → List ℕ → Type 0
IsPast order low ks = AllByRecursion (λ q. free_after order q ≤ free_past order low ks) ks

pub places-append : (order : List Place) (free : ℕ) (xs ys : List Field) → length (places_from order free xs) ≡ length xs
    → places_from order free (xs ++ ys) ≡ places_from order free xs ++ places_from order (free_past order free (places_from order free xs)) ys
unfolding places_from
places-append order free [] ys e = refl
places-append order free (x ∷ xs) ys e = go (λ k h. places-append order (free_after order k) xs ys h) (place_from order free x) e
  where
    go : ((k : ℕ) → length (after_place order xs k) ≡ length xs
        → after_place order (xs ++ ys) k
        ≡ after_place order xs k ++ places_from order (free_past order (free_after order k) (after_place order xs k)) ys)
        → (o : Option ℕ) → length (from_place (after_place order xs) o) ≡ length (x ∷ xs)
        → from_place (after_place order (xs ++ ys)) o
        ≡ from_place (after_place order xs) o ++ places_from order (free_past order free (from_place (after_place order xs) o)) ys
    go later None e = absurd (omega (arith, e))
    go later (Some k) e = ap (λ (ps : List ℕ). k ∷ ps) (later k (omega (arith, e)))

-- where each field takes a place, so does each of the front part
pub full-front : (order : List Place) (free : ℕ) (xs ys : List Field) → length (places_from order free (xs ++ ys)) ≡ length (xs ++ ys)
    → length (places_from order free xs) ≡ length xs
unfolding places_from
full-front order free [] ys e = refl
full-front order free (x ∷ xs) ys e = go (λ k h. full-front order (free_after order k) xs ys h) (place_from order free x) e
  where
    go : ((k : ℕ) → length (after_place order (xs ++ ys) k) ≡ length (xs ++ ys) → length (after_place order xs k) ≡ length xs) → (o : Option ℕ)
        → length (from_place (after_place order (xs ++ ys)) o) ≡ length (x ∷ (xs ++ ys))
        → length (from_place (after_place order xs) o) ≡ length (x ∷ xs)
    go later None e = absurd (omega (arith, e))
    go later (Some k) e = let front = later k (omega (arith, e)) in omega (arith, front)

pub each-more : (P Q : ℕ → Type 0) (ks : List ℕ) → ((k : ℕ) → P k → Q k) → AllByRecursion P ks → AllByRecursion Q ks
each-more P Q [] more h = tt
each-more P Q (k ∷ ks) more h = (more k h.0, each-more P Q ks more h.1)

pub place-above : (free k : ℕ) (o : Option ℕ) → option_map (λ j. free + j) o ≡ Some k → free ≤ k
place-above free k None e = absurd (cc e)
place-above free k (Some j) e = let same : free + j ≡ k = cc e in omega (arith, same)

-- fields stand at the places that are free
pub places-above : (order : List Place) (free : ℕ) (xs : List Field) → AllByRecursion (λ k. free ≤ k) (places_from order free xs)
unfolding places_from
places-above order free [] = tt
places-above order free (x ∷ xs) = go (λ k. places-above order (free_after order k) xs) (place_from order free x) refl
  where
    go : ((k : ℕ) → AllByRecursion (λ q. free_after order k ≤ q) (after_place order xs k)) → (o : Option ℕ) → place_from order free x ≡ o
        → AllByRecursion (λ k. free ≤ k) (from_place (after_place order xs) o)
    go later None e = tt
    go later (Some k) e =
        let above : free ≤ k = place-above free k (position (λ p. fits p x) (drop free order)) e in
        let bounds = free_after-bounds order k in
        (above, each-more (λ q. free_after order k ≤ q) (λ q. free ≤ q) (after_place order xs k) (λ q h. omega (arith, h, bounds.0, above)) (later k))

past-above : (order : List Place) (free : ℕ) (xs : List Field) → free ≤ left_free order free xs
unfolding places_from
past-above order free [] = omega arith
past-above order free (x ∷ xs) = go (λ k. past-above order (free_after order k) xs) (place_from order free x) refl
  where
    go : ((k : ℕ) → free_after order k ≤ left_free order (free_after order k) xs) → (o : Option ℕ) → place_from order free x ≡ o
        → free ≤ free_past order free (from_place (after_place order xs) o)
    go later None e = omega arith
    go later (Some k) e =
        let above : free ≤ k = place-above free k (position (λ p. fits p x) (drop free order)) e in
        let bounds = free_after-bounds order k in
        let after = later k in
        omega (arith, above, bounds.0, after)

-- and what they leave free is after each of their places
pub places-after : (order : List Place) (free : ℕ) (xs : List Field)
    → AllByRecursion (λ k. free_after order k ≤ free_past order free (places_from order free xs)) (places_from order free xs)
unfolding places_from
places-after order free [] = tt
places-after order free (x ∷ xs) = go (λ k. places-after order (free_after order k) xs) (place_from order free x)
  where
    go : ((k : ℕ) → IsPast order (free_after order k) (after_place order xs k)) → (o : Option ℕ)
        → IsPast order free (from_place (after_place order xs) o)
    go later None = tt
    go later (Some k) = (past-above order (free_after order k) xs, later k)

-- the places of so many groups
repeated-below : (j n most : ℕ) (ks : List ℕ) → j < most → AllByRecursion (λ k. k < most) ks → AllByRecursion (λ k. k < most) (replicate n j ++ ks)
repeated-below j zero most ks lt h = h
repeated-below j (suc n) most ks lt h = (lt, repeated-below j n most ks lt h)

pub groups-below : (j most : ℕ) (segs : List (List Field)) → j + length segs ≤ most → AllByRecursion (λ k. k < most) (places_of j segs)
groups-below j most [] le = tt
groups-below j most (s ∷ segs) le =
    repeated-below j (length s) most (places_of (j + 1) segs) (omega (arith, le)) (groups-below (j + 1) most segs (omega (arith, le)))

-- leave free what is after them
pub past-below : (order : List Place) (free most : ℕ) (ks : List ℕ) → free ≤ most → AllByRecursion (λ k. k < most) ks → free_past order free ks ≤ most
past-below order free most [] le h = le
past-below order free most (k ∷ ks) le h =
    let bounds = free_after-bounds order k in
    past-below order (free_after order k) most ks (omega (arith, bounds.1, h.0)) h.1

-- ---- apart from a place

-- none of these is place k
abbrev pub Apart : ℕ → List ℕ → Type 0
Apart k ks = AllByRecursion (λ q. (q == k) ≡ false) ks

below-one : (q k : ℕ) → q < k → (q == k) ≡ false
below-one q k lt = grind (arith, nat_tests)

above-one : (q k : ℕ) → k < q → (q == k) ≡ false
above-one q k lt = grind (arith, nat_tests)

pub below-apart : (k most : ℕ) (ks : List ℕ) → most ≤ k → AllByRecursion (λ q. q < most) ks → Apart k ks
below-apart k most ks le h = each-more (λ q. q < most) (λ q. (q == k) ≡ false) ks (λ q lt. below-one q k (omega (arith, lt, le))) h

pub above-apart : (k least : ℕ) (ks : List ℕ) → k < least → AllByRecursion (λ q. least ≤ q) ks → Apart k ks
above-apart k least ks lt h = each-more (λ q. least ≤ q) (λ q. (q == k) ≡ false) ks (λ q le. above-one q k (omega (arith, lt, le))) h

pub none-apart : (k : ℕ) (ks : List ℕ) → Apart k ks → list_any (λ q. q == k) ks ≡ false
none-apart k [] h = refl
none-apart k (q ∷ ks) h = rw h.0 (none-apart k ks h.1)

-- ---- the field at a place

at-later : (f : Field) (fs : List Field) (q k : ℕ) (found : List ℕ) → (q == k) ≡ false → at_place (f ∷ fs) (q ∷ found) k ≡ at_place fs found k
at-later f fs q k found h = ap (option_map field_of) (field-later f fs q k found h) ∙ sym (same-field (field_in fs found k))

at-here : (f : Field) (fs : List Field) (q k : ℕ) (found : List ℕ) → (q == k) ≡ true → at_place (f ∷ fs) (q ∷ found) k ≡ Some f
at-here f fs q k found h = ap (option_map field_of) (field-here f fs q k found h)

pub at-none : (k : ℕ) (fs : List Field) (found : List ℕ) → Apart k found → at_place fs found k ≡ None
at-none k fs [] h = refl
at-none k [] (q ∷ found) h = ap (option_map field_of) (field-nil (q ∷ found) k)
at-none k (f ∷ fs) (q ∷ found) h = at-later f fs q k found h.0 ∙ at-none k fs found h.1

-- it stands in the front part, or in the back part
pub at-front : (k : ℕ) (xs ys : List Field) (px py : List ℕ) → length px ≡ length xs → Apart k py → at_place (xs ++ ys) (px ++ py) k ≡ at_place xs px k
at-front k [] ys [] py e h = at-none k ys py h
at-front k [] ys (q ∷ px) py e h = absurd (omega (arith, e))
at-front k (x ∷ xs) ys [] py e h = absurd (omega (arith, e))
at-front k (x ∷ xs) ys (q ∷ px) py e h =
    elim (cases_Bool (q == k)) [
      | inl here ↦ at-here x (xs ++ ys) q k (px ++ py) here ∙ sym (at-here x xs q k px here)
      | inr other ↦ at-later x (xs ++ ys) q k (px ++ py) other ∙ at-front k xs ys px py (omega (arith, e)) h ∙ sym (at-later x xs q k px other)
    ]

pub at-back : (k : ℕ) (xs ys : List Field) (px py : List ℕ) → length px ≡ length xs → Apart k px → at_place (xs ++ ys) (px ++ py) k ≡ at_place ys py k
at-back k [] ys [] py e h = refl
at-back k [] ys (q ∷ px) py e h = absurd (omega (arith, e))
at-back k (x ∷ xs) ys [] py e h = absurd (omega (arith, e))
at-back k (x ∷ xs) ys (q ∷ px) py e h = at-later x (xs ++ ys) q k (px ++ py) h.0 ∙ at-back k xs ys px py (omega (arith, e)) h.1

-- what holds of each field at its place
pub hold-at : (Q : ℕ → Field → Type 0) (k : ℕ) (found : List ℕ) (fs : List Field) (f : Field) → HoldsInPlaces Q found fs → at_place fs found k ≡ Some f → Q k f
hold-at Q k [] fs f h at = absurd (cc at)
hold-at Q k (q ∷ found) [] f h at = absurd (cc (sym (ap (option_map field_of) (field-nil (q ∷ found) k)) ∙ at))
hold-at Q k (q ∷ found) (g ∷ fs) f h at =
    elim (cases_Bool (q == k)) [
      | inl here ↦
          let place : q ≡ k = eqb-true q k here in
          let both : Some g ≡ Some f = sym (at-here g fs q k found here) ∙ at in
          let same : g ≡ f = cc both in
          subst (λ (j : ℕ). Q j f) place (subst (Q q) same h.0)
      | inr other ↦ hold-at Q k found fs f h.1 (sym (at-later g fs q k found other) ∙ at)
    ]

pub holds-both : (Q : ℕ → Field → Type 0) (xs ys : List Field) (px py : List ℕ) → length px ≡ length xs → HoldsInPlaces Q px xs → HoldsInPlaces Q py ys
    → HoldsInPlaces Q (px ++ py) (xs ++ ys)
holds-both Q [] ys [] py e a b = b
holds-both Q [] ys (q ∷ px) py e a b = absurd (omega (arith, e))
holds-both Q (x ∷ xs) ys [] py e a b = absurd (omega (arith, e))
holds-both Q (x ∷ xs) ys (q ∷ px) py e a b = (a.0, holds-both Q xs ys px py (omega (arith, e)) a.1 b)

pub holds-parts : (Q : ℕ → Field → Type 0) (xs ys : List Field) (px py : List ℕ) → length px ≡ length xs → HoldsInPlaces Q (px ++ py) (xs ++ ys)
    → HoldsInPlaces Q px xs × HoldsInPlaces Q py ys
holds-parts Q [] ys [] py e h = (tt, h)
holds-parts Q [] ys (q ∷ px) py e h = absurd (omega (arith, e))
holds-parts Q (x ∷ xs) ys [] py e h = absurd (omega (arith, e))
holds-parts Q (x ∷ xs) ys (q ∷ px) py e h = let later = holds-parts Q xs ys px py (omega (arith, e)) h.1 in ((h.0, later.0), later.1)

-- ---- contents

-- a field at a place passes its test
abbrev pub Passing : (ℕ → Field → Option Code) → ℕ → Field → Type 0
Passing test k f = test k f ≡ None

pub contents-hold : (test : ℕ → Field → Option Code) (whole : List Field) (i : ℕ) (found : List ℕ) (fs : List Field)
    → first_of (contents_from test whole i found fs) ≡ None → HoldsInPlaces (Passing test) found fs
unfolding contents_from
contents-hold test whole i [] fs e = tt
contents-hold test whole i (q ∷ found) [] e = tt
contents-hold test whole i (q ∷ found) (f ∷ fs) e =
    let both = first-none (option_map (fault_at whole i) (test q f)) (contents_from test whole (i + 1) found fs) e in
    (map-none (fault_at whole i) (test q f) both.0, contents-hold test whole (i + 1) found fs both.1)

pub hold-contents : (test : ℕ → Field → Option Code) (whole : List Field) (i : ℕ) (found : List ℕ) (fs : List Field) → HoldsInPlaces (Passing test) found fs
    → first_of (contents_from test whole i found fs) ≡ None
unfolding contents_from
hold-contents test whole i [] fs h = refl
hold-contents test whole i (q ∷ found) [] h = refl
hold-contents test whole i (q ∷ found) (f ∷ fs) h = rw h.0 (hold-contents test whole (i + 1) found fs h.1)

-- ---- which places are taken

or-left : (a b : Bool) → a ≡ true → (a || b) ≡ true
or-left a b e = rw e refl

or-right : (a b : Bool) → b ≡ true → (a || b) ≡ true
or-right true b e = refl
or-right false b e = e

pub taken-front : (k : ℕ) (px py : List ℕ) → list_any (λ q. q == k) px ≡ true → list_any (λ q. q == k) (px ++ py) ≡ true
taken-front k px py e = list_any-append (λ q. q == k) px py ∙ or-left (list_any (λ q. q == k) px) (list_any (λ q. q == k) py) e

pub taken-back : (k : ℕ) (px py : List ℕ) → list_any (λ q. q == k) py ≡ true → list_any (λ q. q == k) (px ++ py) ≡ true
taken-back k px py e = list_any-append (λ q. q == k) px py ∙ or-right (list_any (λ q. q == k) px) (list_any (λ q. q == k) py) e

or-true : (a b : Bool) → a ≡ false → (a || b) ≡ true → b ≡ true
or-true true b e h = absurd (cc e)
or-true false b e h = h

or-other : (a b : Bool) → b ≡ false → (a || b) ≡ true → a ≡ true
or-other true b e h = refl
or-other false b e h = absurd (cc (sym h ∙ e))

pub taken-in-back : (k : ℕ) (px py : List ℕ) → Apart k px → list_any (λ q. q == k) (px ++ py) ≡ true → list_any (λ q. q == k) py ≡ true
taken-in-back k px py h e =
    or-true (list_any (λ q. q == k) px) (list_any (λ q. q == k) py) (none-apart k px h) (sym (list_any-append (λ q. q == k) px py) ∙ e)

pub taken-in-front : (k : ℕ) (px py : List ℕ) → Apart k py → list_any (λ q. q == k) (px ++ py) ≡ true → list_any (λ q. q == k) px ≡ true
taken-in-front k px py h e =
    or-other (list_any (λ q. q == k) px) (list_any (λ q. q == k) py) (none-apart k py h) (sym (list_any-append (λ q. q == k) px py) ∙ e)

-- ---- where the first of a kind stands

-- the fields before it, and those after it
pub record IsSplit (test : Field → Bool) (fs : List Field) (f : Field) : Type 0 where
  pub front : List Field
  pub back : List Field
  pub whole : fs ≡ front ++ f ∷ back
  pub place : ℕ
  pub at : position test fs ≡ Some place
  pub before : take place fs ≡ front
  pub after : drop place fs ≡ f ∷ back

pub split-at : (test : Field → Bool) (fs : List Field) (f : Field) → find test fs ≡ Some f → IsSplit test fs f
split-at test [] f e = absurd (cc e)
split-at test (g ∷ fs) f e = go (test g) (split-at test fs f) refl e
  where
    go : (b : Bool) → (find test fs ≡ Some f → IsSplit test fs f) → test g ≡ b → cond b (Some g) (find test fs) ≡ Some f → IsSplit test (g ∷ fs) f
    go true later h e =
        let same : g ≡ f = cc e in
        subst (IsSplit test (g ∷ fs)) same
        (record { front = []; back = fs; whole = refl; place = 0; at = position-here test g fs h; before = refl; after = refl })
    go false later h e =
        let s = later e in
        record {
          front = g ∷ s.front;
          back = s.back;
          whole = ap (λ (xs : List Field). g ∷ xs) s.whole;
          place = suc s.place;
          at = position-later test g fs h ∙ ap (option_map (λ i. i + 1)) s.at ∙ ap (λ (n : ℕ). Some n) (omega arith);
          before = ap (λ (xs : List Field). g ∷ xs) s.before;
          after = s.after;
        }
