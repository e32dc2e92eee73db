-- Fields that are sent, place by place, fail no test: each stands first at its place, no place is missing, and each content
-- passes.
use Rattle.std.proofs.Common.{◌≡◌, ℕ, zero, suc, ◌+◌, ◌==◌, ◌&&◌, ◌||◌, not, Bool, true, false, cond, List, [], ◌∷◌, ◌++◌, length, drop, position, replicate, slice_get, Option, Some, None, refl, sym, ap, ◌∙◌, arith, eq-eqb, inr}
use Rattle.std.specs.List.{AllByRecursion, list_all, list_any}
use Rattle.std.proofs.lemmas.Bool.{eqb-true}
use Rattle.corr_text.specs.First.{first_of}
use Rattle.corr_text.specs.declared.fault.Code.{Code}
use Rattle.fin_fields.specs.Faults.{letter_of}
use Rattle.fin_fields.specs.declared.field.Field.{Field}
use Rattle.fin_fields.proofs.laws.Positions.{position-here, position-later}
use Rattle.fin_layout.specs.declared.place.Place.{Place}
use Rattle.fin_layout.specs.Order.{fits, missing_from, places_from}
use Rattle.fin_layout.specs.Places.{bare, may}
use Rattle.fin_layout.specs.Segments.{joined}
use Rattle.fin_layout.specs.inner.Segments.{IsFirst, Segment, Segments, places_of}
use Rattle.fin_layout.specs.Tests.{contents_from, tests}
use Rattle.fin_layout.proofs.laws.FoundField.{grouped-taken}
use Rattle.fin_layout.proofs.laws.Grouped.{grouped-places, length-places_of}
use Rattle.fin_contents.proofs.laws.Bytes.{and-both}
use Rattle.advices.specs.Fields.{is_named}
use Rattle.advices.specs.Transfer.{is_there}
use Rattle.advices.proofs.laws.Finding.{has_letters, is_apart, not-true, picked}

-- ---- tests that all hold

-- no test fails where every field takes a place, no place is missing, and no content is wrong
pub all-pass : (order : List Place) (test : ℕ → Field → Option Code) (fs : List Field) (found : List ℕ) → places_from order 0 fs ≡ found
    → length found ≡ length fs → missing_from 0 order found ≡ None
    → first_of (contents_from test fs 0 found fs) ≡ None → first_of (tests order test fs) ≡ None
all-pass order test fs found at long whole contents = rw (at, eq-eqb (length found) (length fs) long, whole) contents

-- ---- contents

-- each field of the places from number j on passes the test of its place
abbrev pub Fine : (ℕ → Field → Option Code) → ℕ → List (List Field) → Type 0
Fine test j [] = Unit {0}
Fine test j (s ∷ ss) = AllByRecursion (λ f. test j f ≡ None) s × Fine test (j + 1) ss

place-fine : (test : ℕ → Field → Option Code) (whole : List Field) (j i : ℕ) (s rest : List Field) (found : List ℕ)
    → AllByRecursion (λ f. test j f ≡ None) s
    → ((n : ℕ) → first_of (contents_from test whole n found rest) ≡ None)
    → first_of (contents_from test whole i (replicate (length s) j ++ found) (s ++ rest)) ≡ None
unfolding contents_from
place-fine test whole j i [] rest found all later = later i
place-fine test whole j i (f ∷ s) rest found all later = rw (all.0) (place-fine test whole j (i + 1) s rest found all.1 later)

pub contents-fine : (test : ℕ → Field → Option Code) (whole : List Field) (j i : ℕ) (segs : List (List Field)) → Fine test j segs
    → first_of (contents_from test whole i (places_of j segs) (joined segs)) ≡ None
unfolding contents_from
contents-fine test whole j i [] h = refl
contents-fine test whole j i (s ∷ ss) h =
    place-fine test whole j i s (joined ss) (places_of (j + 1) ss) h.0 (λ n. contents-fine test whole (j + 1) n ss h.1)

-- ---- no place is missing

-- there is a field at each place where one must be
abbrev pub covers : List Place → List (List Field) → Bool
covers [] segs = true
covers (p ∷ order) [] = not p.must && covers order []
covers (p ∷ order) (s ∷ segs) = (not p.must || is_there s) && covers order segs

not-missing : (must taken : Bool) (n : ℕ) (later : Option ℕ) → (not must || taken) ≡ true → later ≡ None → cond (must && not taken) (Some n) later ≡ None
not-missing true true n later h e = e
not-missing true false n later h e = absurd (cc h)
not-missing false taken n later h e = e

may-lack : (must : Bool) → not must ≡ true → (taken : Bool) → (not must || taken) ≡ true
may-lack true h taken = absurd (cc h)
may-lack false h taken = refl

-- where there is a field, its place is taken
abbrev Taken : List ℕ → ℕ → List (List Field) → Type 0
Taken found n segs = (i : ℕ) (f : Field) (more : List Field) → slice_get segs i ≡ Some (f ∷ more) → list_any (λ q. q == n + i) found ≡ true

later-taken : (found : List ℕ) (n : ℕ) (s : List Field) (segs : List (List Field)) → Taken found n (s ∷ segs) → Taken found (n + 1) segs
later-taken found n s segs at =
    λ i f more e. let same : n + 1 + i ≡ n + suc i = omega arith in ap (λ (m : ℕ). list_any (λ q. q == m) found) same ∙ at (suc i) f more e

or-lacks : (must : Bool) (s : List Field) (taken : Bool) → (not must || is_there s) ≡ true
    → ((f : Field) (more : List Field) → s ≡ f ∷ more → taken ≡ true) → (not must || taken) ≡ true
or-lacks false s taken h at = refl
or-lacks true [] taken h at = absurd (cc h)
or-lacks true (f ∷ s) taken h at = at f s refl

none-missing : (found : List ℕ) (n : ℕ) (order : List Place) (segs : List (List Field)) → Taken found n segs → covers order segs ≡ true
    → missing_from n order found ≡ None
unfolding missing_from
none-missing found n [] segs at c = refl
none-missing found n (p ∷ order) [] at c =
    let both = and-both (not p.must) (covers order []) c in
    not-missing p.must (list_any (λ q. q == n) found) n (missing_from (n + 1) order found) (may-lack p.must both.0 (list_any (λ q. q == n) found))
    (none-missing found (n + 1) order [] (λ i f more e. absurd (cc e)) both.1)
none-missing found n (p ∷ order) (s ∷ segs) at c =
    let both = and-both (not p.must || is_there s) (covers order segs) c in
    let here : n ≡ n + 0 = omega arith in
    not-missing p.must (list_any (λ q. q == n) found) n (missing_from (n + 1) order found)
    (or-lacks p.must s (list_any (λ q. q == n) found) both.0 (λ f more e. ap (λ (m : ℕ). list_any (λ q. q == m) found) here ∙ at 0 f more (ap Some e)))
    (none-missing found (n + 1) order segs (later-taken found n s segs at) both.1)

-- ---- all together

pub fitted : (order : List Place) (d : Place) (test : ℕ → Field → Option Code) (segs : List (List Field)) → Segments order 0 0 segs
    → covers order segs ≡ true → Fine test 0 segs → first_of (tests order test (joined segs)) ≡ None
fitted order d test segs placed whole fine =
    all-pass order test (joined segs) (places_of 0 segs) (grouped-places order d 0 0 0 segs (omega arith) (omega arith) placed) (length-places_of 0 segs)
    (none-missing (places_of 0 segs) 0 order segs (λ i f more e. grouped-taken segs 0 i f more e) whole)
    (contents-fine test (joined segs) 0 0 segs fine)

-- a place, where one must be given
abbrev pub row : Place
row = may 72 bare

-- fields that are sent, by their places: those of each place stand there, and each content passes
pub record IsPartedInto (order : List Place) (test : ℕ → Field → Option Code) (sent : List Field) (segs : List (List Field)) : Type 0 where
  pub same : sent ≡ joined segs
  pub placed : Segments order 0 0 segs
  pub fine : Fine test 0 segs

pub parted-pass : (order : List Place) (d : Place) (test : ℕ → Field → Option Code) (sent : List Field) (segs : List (List Field))
    → IsPartedInto order test sent segs → covers order segs ≡ true → first_of (tests order test sent) ≡ None
parted-pass order d test sent segs p whole = rw (p.same) (fitted order d test segs p.placed whole p.fine)

-- ---- the place of a field by its name

-- a field of this name may stand at a place of this tag that has all these letters
named-fits : (tag : ℕ) (letters : List ℕ) (p : Place) (f : Field) → (p.tag == tag) ≡ true → has_letters p.options letters ≡ true
    → is_named tag letters f ≡ true → fits p f ≡ true
named-fits tag letters p f same all named =
    let field = and-both (f.tag == tag) (list_any (λ letter. letter == letter_of f) letters) named in
    let two : f.tag ≡ tag = eqb-true f.tag tag field.0 in
    let tags : (p.tag == f.tag) ≡ true = ap (λ (n : ℕ). p.tag == n) two ∙ same in
    let some : list_any (λ o. o == letter_of f) p.options ≡ true =
    picked (λ o. list_any (λ letter. letter == o) p.options) (letter_of f) letters all field.1 in
    rw (tags, some) refl

-- and at none that is apart from it
named-apart : (tag : ℕ) (letters : List ℕ) (p : Place) (f : Field) → is_apart tag letters p ≡ true → is_named tag letters f ≡ true → fits p f ≡ false
named-apart tag letters p f is named =
    let field = and-both (f.tag == tag) (list_any (λ letter. letter == letter_of f) letters) named in
    let two : f.tag ≡ tag = eqb-true f.tag tag field.0 in
    let tags : (p.tag == f.tag) ≡ (p.tag == tag) = ap (λ (n : ℕ). p.tag == n) two in
    rw tags (go (p.tag == tag) is)
  where
    none : (x : Bool) → list_any (λ o. o == letter_of f) p.options ≡ x
        → list_all (λ o. not (list_any (λ letter. letter == o) letters)) p.options ≡ true → list_any (λ letter. letter == letter_of f) letters ≡ true
        → x ≡ false
    none false e lacks some = refl
    none true e lacks some =
        let other : not (list_any (λ letter. letter == letter_of f) letters) ≡ true =
        picked (λ o. not (list_any (λ letter. letter == o) letters)) (letter_of f) p.options lacks e in
        absurd (cc (sym (not-true (list_any (λ letter. letter == letter_of f) letters) other) ∙ some))

    go : (b : Bool) → (not b || list_all (λ o. not (list_any (λ letter. letter == o) letters)) p.options) ≡ true
        → (b && list_any (λ o. o == letter_of f) p.options) ≡ false
    go false h = refl
    go true h =
        none (list_any (λ o. o == letter_of f) p.options) refl h (and-both (f.tag == tag) (list_any (λ letter. letter == letter_of f) letters) named).1

-- the place number n of these is for the name, and those before it are apart from it
abbrev pub first_for : ℕ → List ℕ → List Place → ℕ → Bool
first_for tag letters [] n = false
first_for tag letters (p ∷ order) zero = (p.tag == tag) && has_letters p.options letters
first_for tag letters (p ∷ order) (suc n) = is_apart tag letters p && first_for tag letters order n

first-at : (tag : ℕ) (letters : List ℕ) (order : List Place) (n : ℕ) (f : Field) → first_for tag letters order n ≡ true → is_named tag letters f ≡ true
    → position (λ q. fits q f) order ≡ Some n
first-at tag letters [] n f is named = absurd (cc is)
first-at tag letters (p ∷ order) zero f is named =
    let both = and-both (p.tag == tag) (has_letters p.options letters) is in
    position-here (λ q. fits q f) p order (named-fits tag letters p f both.0 both.1 named)
first-at tag letters (p ∷ order) (suc n) f is named =
    let both = and-both (is_apart tag letters p) (first_for tag letters order n) is in
    position-later (λ q. fits q f) p order (named-apart tag letters p f both.0 named)
    ∙ rw (first-at tag letters order n f both.1 named) (ap Some (omega arith))

-- a field of a name stands first at the place of its tag and letters, where all places between are apart from it
pub first-named : (order : List Place) (low n tag : ℕ) (letters : List ℕ) (f : Field) → first_for tag letters (drop low order) n ≡ true
    → is_named tag letters f ≡ true → IsFirst order low (low + n) f
first-named order low n tag letters f is named = rw (first-at tag letters (drop low order) n f is named) refl

-- ---- the fields of a place

-- one field of a name
pub one-named : (order : List Place) (low n tag : ℕ) (letters : List ℕ) (f : Field) → first_for tag letters (drop low order) n ≡ true
    → is_named tag letters f ≡ true → Segment order low (low + n) (f ∷ [])
one-named order low n tag letters f is named = record { each = (first-named order low n tag letters f is named, tt); single = inr (omega arith) }

-- none
pub no-field : (order : List Place) (low j : ℕ) → Segment order low j []
no-field order low j = record { each = tt; single = inr (omega arith) }
