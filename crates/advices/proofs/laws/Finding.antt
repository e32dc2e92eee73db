-- The first field of a name is the one that stands at the name's place.
use Rattle.std.proofs.Common.{◌≡◌, ℕ, zero, suc, ◌+◌, ◌==◌, ◌&&◌, ◌||◌, not, Bool, true, false, cond, List, [], ◌∷◌, length, get_or, slice_get, option_map, Option, Some, None, Result, Ok, refl, sym, ap, ◌∙◌, arith, inl, inr}
use Rattle.std.specs.Prelude.{find, IfSome, if◌then◌else◌}
use Rattle.std.specs.List.{All, list_all, list_any}
use Rattle.std.proofs.lemmas.Bool.{cases_Bool, eqb-true}
use Rattle.corr_text.specs.First.{first_of}
use Rattle.corr_text.specs.declared.fault.Code.{Code}
use Rattle.fin_fields.specs.Faults.{letter_of}
use Rattle.fin_fields.specs.declared.field.Field.{Field}
use Rattle.fin_layout.specs.declared.place.Place.{Place}
use Rattle.fin_layout.specs.Order.{field_in, fits, places_from}
use Rattle.fin_layout.specs.Tests.{tests}
use Rattle.fin_layout.proofs.laws.Fine.{IsTestOf, all-hold, field-nil, present, read-none, taken-from, tested}
use Rattle.fin_layout.proofs.laws.FoundField.{field-here, field-later, shifted}
use Rattle.fin_contents.proofs.laws.Bytes.{and-both}
use Rattle.fin_contents.proofs.laws.Said.{HoldsInPlaces, Stands, stand}
use Rattle.advices.specs.Fields.{is_named}

-- ---- names and places

-- each letter of a place is one of these
abbrev pub has_letters : List ℕ → List ℕ → Bool
has_letters letters options = list_all (λ o. list_any (λ letter. letter == o) letters) options

-- none is
abbrev pub lacks_letters : List ℕ → List ℕ → Bool
lacks_letters letters options = list_all (λ o. not (list_any (λ letter. letter == o) letters)) options

-- every field that may stand at a place has this name; or none has
abbrev pub is_for : ℕ → List ℕ → Place → Bool
is_for tag letters p = (p.tag == tag) && has_letters letters p.options

abbrev pub is_apart : ℕ → List ℕ → Place → Bool
is_apart tag letters p = not (p.tag == tag) || lacks_letters letters p.options

-- of the places from number j on, those with this number are for the name, and the others apart from it
abbrev pub tells_from : ℕ → List ℕ → ℕ → ℕ → List Place → Bool
tells_from tag letters k j [] = true
tells_from tag letters k j (p ∷ order) = (if j == k then is_for tag letters p else is_apart tag letters p) && tells_from tag letters k (j + 1) order

pub picked : (test : ℕ → Bool) (x : ℕ) (options : List ℕ) → list_all test options ≡ true → list_any (λ o. o == x) options ≡ true → test x ≡ true
picked test x [] all some = absurd (cc some)
picked test x (o ∷ options) all some =
    let both = and-both (test o) (list_all test options) all in
    go (o == x) refl some both.0 (λ h. picked test x options both.1 h)
  where
    go : (b : Bool) → (o == x) ≡ b → (b || list_any (λ o. o == x) options) ≡ true → test o ≡ true
        → (list_any (λ o. o == x) options ≡ true → test x ≡ true) → test x ≡ true
    go true at h here later = let same : o ≡ x = eqb-true o x at in rw (← same) here
    go false at h here later = later h

named-for : (tag : ℕ) (letters : List ℕ) (p : Place) (f : Field) → is_for tag letters p ≡ true → fits p f ≡ true → is_named tag letters f ≡ true
named-for tag letters p f is fit =
    let place = and-both (p.tag == tag) (has_letters letters p.options) is in
    let field = and-both (p.tag == f.tag) (list_any (λ o. o == letter_of f) p.options) fit in
    let one : p.tag ≡ tag = eqb-true p.tag tag place.0 in
    let two : p.tag ≡ f.tag = eqb-true p.tag f.tag field.0 in
    let same : (f.tag == tag) ≡ true = ap (λ (n : ℕ). n == tag) (sym two) ∙ place.0 in
    let some : list_any (λ letter. letter == letter_of f) letters ≡ true =
    picked (λ o. list_any (λ letter. letter == o) letters) (letter_of f) p.options place.1 field.1 in
    rw (same, some) refl

pub not-true : (b : Bool) → not b ≡ true → b ≡ false
not-true true e = absurd (cc e)
not-true false e = refl

pub apart-named : (tag : ℕ) (letters : List ℕ) (p : Place) (f : Field) → is_apart tag letters p ≡ true → fits p f ≡ true → is_named tag letters f ≡ false
apart-named tag letters p f is fit =
    let field = and-both (p.tag == f.tag) (list_any (λ o. o == letter_of f) p.options) fit in
    let two : p.tag ≡ f.tag = eqb-true p.tag f.tag field.0 in
    let same : (f.tag == tag) ≡ (p.tag == tag) = ap (λ (n : ℕ). n == tag) (sym two) in
    rw same (go (p.tag == tag) is field.1)
  where
    go : (b : Bool) → (not b || lacks_letters letters p.options) ≡ true → list_any (λ o. o == letter_of f) p.options ≡ true
        → (b && list_any (λ letter. letter == letter_of f) letters) ≡ false
    go false h some = refl
    go true h some =
        let none : not (list_any (λ letter. letter == letter_of f) letters) ≡ true =
        picked (λ o. not (list_any (λ letter. letter == o) letters)) (letter_of f) p.options h some in
        not-true (list_any (λ letter. letter == letter_of f) letters) none

-- a field at a place of the order has the name just where the place is that of the name
pub told-at : (tag : ℕ) (letters : List ℕ) (k j q : ℕ) (order : List Place) (f : Field) → tells_from tag letters k j order ≡ true
    → ((d : Place) → fits (get_or order q d) f ≡ true)
    → is_named tag letters f ≡ (j + q == k)
told-at tag letters k j q [] f tells fit =
    absurd (cc (and-both (f.tag == f.tag) false (fit (record { tag = f.tag; options = []; many = false; must = false }))).1)
told-at tag letters k j zero (p ∷ order) f tells fit =
    let here = (and-both (if j == k then is_for tag letters p else is_apart tag letters p) (tells_from tag letters k (j + 1) order) tells).0 in
    let same : j + 0 ≡ j = omega arith in
    go (j == k) here ∙ ap (λ (n : ℕ). n == k) (sym same)
  where
    go : (b : Bool) → cond b (is_for tag letters p) (is_apart tag letters p) ≡ true → is_named tag letters f ≡ b
    go true h = named-for tag letters p f h (fit p)
    go false h = apart-named tag letters p f h (fit p)
told-at tag letters k j (suc q) (p ∷ order) f tells fit =
    let later = (and-both (if j == k then is_for tag letters p else is_apart tag letters p) (tells_from tag letters k (j + 1) order) tells).1 in
    let same : j + 1 + q ≡ j + suc q = omega arith in
    told-at tag letters k (j + 1) q order f later fit ∙ ap (λ (n : ℕ). n == k) same

-- each field passes a test just where it stands at place k
abbrev pub Agrees : (Field → Bool) → ℕ → ℕ → Field → Type 0
Agrees test k q f = test f ≡ (q == k)

holds-more : (Q R : ℕ → Field → Type 0) (found : List ℕ) (fs : List Field) → ((q : ℕ) (f : Field) → Q q f → R q f) → HoldsInPlaces Q found fs → HoldsInPlaces R found fs
holds-more Q R [] fs more h = tt
holds-more Q R (q ∷ found) [] more h = tt
holds-more Q R (q ∷ found) (f ∷ fs) more h = (more q f h.0, holds-more Q R found fs more h.1)

pub agree : (tag : ℕ) (letters : List ℕ) (k : ℕ) (order : List Place) (found : List ℕ) (fs : List Field) → tells_from tag letters k 0 order ≡ true
    → HoldsInPlaces (Stands order (λ _. Unit {0})) found fs
    → HoldsInPlaces (Agrees (is_named tag letters) k) found fs
agree tag letters k order found fs tells h =
    holds-more (Stands order (λ _. Unit {0})) (Agrees (is_named tag letters) k) found fs
    (λ q f s. let same : 0 + q ≡ q = omega arith in told-at tag letters k 0 q order f tells s.fitting ∙ ap (λ (n : ℕ). n == k) same) h

-- ---- the first that passes a test

-- the field of a field and its number
abbrev pub field_of : ℕ × Field → Field
field_of x = x.1

pub same-field : (o : Option (ℕ × Field)) → option_map field_of o ≡ option_map field_of (option_map (shifted 1) o)
same-field None = refl
same-field (Some x) = refl

pub find-at : (test : Field → Bool) (k : ℕ) (found : List ℕ) (fs : List Field) → HoldsInPlaces (Agrees test k) found fs → length found ≡ length fs
    → find test fs ≡ option_map field_of (field_in fs found k)
find-at test k found [] h long = rw (field-nil found k) refl
find-at test k [] (f ∷ fs) h long = absurd (omega (arith, long))
find-at test k (q ∷ found) (f ∷ fs) h long =
    elim (cases_Bool (q == k)) [
      | inl here ↦
          let pass : test f ≡ true = h.0 ∙ here in
          rw (pass, field-here f fs q k found here) refl
      | inr other ↦
          let fail : test f ≡ false = h.0 ∙ other in
          rw (fail, field-later f fs q k found other) (find-at test k found fs h.1 (omega (arith, long)) ∙ same-field (field_in fs found k))
    ]

-- the first that passes a test passes it
pub found-passes : (test : Field → Bool) (fs : List Field) (f : Field) → find test fs ≡ Some f → test f ≡ true
found-passes test [] f e = absurd (cc e)
found-passes test (g ∷ fs) f e = go (test g) refl e (λ h. found-passes test fs f h)
  where
    go : (b : Bool) → test g ≡ b → cond b (Some g) (find test fs) ≡ Some f → (find test fs ≡ Some f → test f ≡ true) → test f ≡ true
    go true at h later = let same : g ≡ f = cc h in rw (← same) at
    go false at h later = later h

-- ---- in a message whose fields pass their tests

pub any-field : (fs : List Field) → All (λ _. Unit {0}) fs
any-field fs = λ k d lt. tt

module _ (order : List Place) (test : ℕ → Field → Option Code) (fs : List Field) (none : first_of (tests order test fs) ≡ None) (tag : ℕ)
    (letters : List ℕ) (k : ℕ) (tells : tells_from tag letters k 0 order ≡ true) where
  pub copied-at : find (is_named tag letters) fs ≡ option_map field_of (field_in fs (places_from order 0 fs) k)
  copied-at =
      let found = places_from order 0 fs in
      let hold = all-hold order test fs none in
      find-at (is_named tag letters) k found fs (agree tag letters k order found fs tells (stand order (λ _. Unit {0}) 0 fs (any-field fs))) hold.whole

  -- a field of a mandatory place is found, and says what is wanted of it
  pub must-copy : {A : Type 0} (read : Field → Result A Code) (p : Place) → IsTestOf test k read → slice_get order k ≡ Some p → p.must ≡ true
      → (f : Field) × (x : A) × (find (is_named tag letters) fs ≡ Some f) × (read f ≡ Ok x)
  must-copy read p of at must =
      let found = places_from order 0 fs in
      let hold = all-hold order test fs none in
      let there = present k found fs (taken-from order 0 k k p found (omega arith) hold.complete at must) hold.whole in
      let fine = read-none (read there.1) (sym (of there.1) ∙ tested test fs k 0 found fs there.0 there.1 hold.contents there.2) in
      (there.1, fine.0, copied-at ∙ ap (option_map field_of) there.2, fine.1)

  may-say : {A : Type 0} (read : Field → Result A Code) (o : Option (ℕ × Field)) → IsTestOf test k read → field_in fs (places_from order 0 fs) k ≡ o
      → IfSome (option_map field_of o) (λ f. (x : A) × (read f ≡ Ok x))
  may-say read None of at = tt
  may-say read (Some (n, f)) of at =
      let hold = all-hold order test fs none in
      read-none (read f) (sym (of f) ∙ tested test fs k 0 (places_from order 0 fs) fs n f hold.contents at)

  -- one of an optional place says it where it is found
  pub may-copy : {A : Type 0} (read : Field → Result A Code) → IsTestOf test k read
      → IfSome (find (is_named tag letters) fs) (λ f. (x : A) × (read f ≡ Ok x))
  may-copy read of = rw copied-at (may-say read (field_in fs (places_from order 0 fs) k) of refl)
