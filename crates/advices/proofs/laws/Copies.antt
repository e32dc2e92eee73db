-- What fields that are taken over say: in a message whose fields pass their tests, each field of a name says what is wanted of
-- the places that it may stand at.
use Rattle.std.proofs.Common.{◌≡◌, ℕ, zero, suc, ◌+◌, ◌==◌, ◌&&◌, ◌||◌, Bool, true, false, cond, List, [], ◌∷◌, ◌++◌, length, get_or, take, drop, option_map, Option, Some, None, Result, Ok, refl, sym, ap, ◌∙◌, arith}
use Rattle.std.specs.Prelude.{find, IfSome}
use Rattle.std.specs.List.{AllByRecursion, list_any}
use Rattle.std.proofs.lemmas.Bool.{eqb-true}
use Rattle.std.proofs.lemmas.List.{take-append-drop}
use Rattle.corr_text.specs.First.{fault_of, first_of}
use Rattle.corr_text.specs.declared.fault.Code.{Code}
use Rattle.fin_fields.specs.declared.field.Field.{Field}
use Rattle.fin_layout.specs.declared.place.Place.{Place}
use Rattle.fin_layout.specs.Naming.{fault_at}
use Rattle.fin_layout.specs.Order.{fits, places_from}
use Rattle.fin_layout.specs.Tests.{contents_from, tests}
use Rattle.fin_layout.proofs.laws.Fine.{IsTestOf, all-hold, first-none, map-none, read-none}
use Rattle.fin_contents.proofs.laws.Bytes.{and-both}
use Rattle.fin_contents.proofs.laws.Said.{HoldsInPlaces, Stands, stand}
use Rattle.advices.specs.Fields.{is_named}
use Rattle.advices.proofs.laws.Finding.{any-field, apart-named, is_apart}

-- ---- each field stands somewhere and passes the test of its place

record PassesAt (order : List Place) (test : ℕ → Field → Option Code) (f : Field) : Type 0 where
  place : ℕ
  fitting : (d : Place) → fits (get_or order place d) f ≡ true
  passes : test place f ≡ None

each-at : (order : List Place) (test : ℕ → Field → Option Code) (whole : List Field) (i : ℕ) (found : List ℕ) (fs : List Field)
    → HoldsInPlaces (Stands order (λ _. Unit {0})) found fs
    → first_of (contents_from test whole i found fs) ≡ None → length found ≡ length fs → AllByRecursion (PassesAt order test) fs
unfolding contents_from
each-at order test whole i found [] h none long = tt
each-at order test whole i [] (f ∷ fs) h none long = absurd (omega (arith, long))
each-at order test whole i (q ∷ found) (f ∷ fs) h none long =
    let parts = first-none (option_map (fault_at whole i) (test q f)) (contents_from test whole (i + 1) found fs) none in (
      record { place = q; fitting = h.0.fitting; passes = map-none (fault_at whole i) (test q f) parts.0 },
      each-at order test whole (i + 1) found fs h.1 parts.1 (omega (arith, long)),
    )

-- ---- the places of a name

-- all places but those of these numbers are apart from the name
abbrev pub only_from : ℕ → List ℕ → List ℕ → ℕ → List Place → Bool
only_from tag letters ks j [] = true
only_from tag letters ks j (p ∷ order) = (list_any (λ k. k == j) ks || is_apart tag letters p) && only_from tag letters ks (j + 1) order

among : (tag : ℕ) (letters ks : List ℕ) (j q : ℕ) (order : List Place) (f : Field) → only_from tag letters ks j order ≡ true
    → ((d : Place) → fits (get_or order q d) f ≡ true) → is_named tag letters f ≡ true
    → list_any (λ k. k == j + q) ks ≡ true
among tag letters ks j q [] f only fit named =
    absurd (cc (and-both (f.tag == f.tag) false (fit (record { tag = f.tag; options = []; many = false; must = false }))).1)
among tag letters ks j zero (p ∷ order) f only fit named =
    let here = (and-both (list_any (λ k. k == j) ks || is_apart tag letters p) (only_from tag letters ks (j + 1) order) only).0 in
    let same : j + 0 ≡ j = omega arith in
    ap (λ (n : ℕ). list_any (λ k. k == n) ks) same ∙ go (list_any (λ k. k == j) ks) (is_apart tag letters p) refl here
  where
    go : (b apart : Bool) → is_apart tag letters p ≡ apart → (b || apart) ≡ true → b ≡ true
    go true apart e h = refl
    go false true e h = absurd (cc (sym (apart-named tag letters p f e (fit p)) ∙ named))
    go false false e h = absurd (cc h)
among tag letters ks j (suc q) (p ∷ order) f only fit named =
    let later = (and-both (list_any (λ k. k == j) ks || is_apart tag letters p) (only_from tag letters ks (j + 1) order) only).1 in
    let same : j + suc q ≡ j + 1 + q = omega arith in
    ap (λ (n : ℕ). list_any (λ k. k == n) ks) same ∙ among tag letters ks (j + 1) q order f later fit named

placed : (tag : ℕ) (letters ks : List ℕ) (order : List Place) (f : Field) (q : ℕ) → only_from tag letters ks 0 order ≡ true
    → ((d : Place) → fits (get_or order q d) f ≡ true) → is_named tag letters f ≡ true
    → list_any (λ k. k == q) ks ≡ true
placed tag letters ks order f q only fit named =
    let same : q ≡ 0 + q = omega arith in
    ap (λ (n : ℕ). list_any (λ k. k == n) ks) same ∙ among tag letters ks 0 q order f only fit named

-- a test of each of these places is that of a reading
test-of : {A : Type 0} (test : ℕ → Field → Option Code) (read : Field → Result A Code) (ks : List ℕ) (q : ℕ) (f : Field)
    → AllByRecursion (λ k. IsTestOf test k read) ks → list_any (λ k. k == q) ks ≡ true → test q f ≡ fault_of (read f)
test-of test read [] q f of some = absurd (cc some)
test-of test read (k ∷ ks) q f of some = go (k == q) refl some (λ h. test-of test read ks q f of.1 h)
  where
    go : (b : Bool) → (k == q) ≡ b → (b || list_any (λ k. k == q) ks) ≡ true → (list_any (λ k. k == q) ks ≡ true → test q f ≡ fault_of (read f))
        → test q f ≡ fault_of (read f)
    go true e h later = let same : k ≡ q = eqb-true k q e in rw (← same) (of.0 f)
    go false e h later = later h

-- a field that has the name says something
abbrev pub SaysNamed : {A : Type 0} → ℕ → List ℕ → (Field → Result A Code) → Field → Type 0
SaysNamed {A} tag letters read f = is_named tag letters f ≡ true → (x : A) × (read f ≡ Ok x)

each-weaker : (P R : Field → Type 0) (fs : List Field) → ((f : Field) → P f → R f) → AllByRecursion P fs → AllByRecursion R fs
each-weaker P R [] more h = tt
each-weaker P R (f ∷ fs) more h = (more f h.0, each-weaker P R fs more h.1)

pub each-says : {A : Type 0} (order : List Place) (test : ℕ → Field → Option Code) (fs : List Field) → first_of (tests order test fs) ≡ None
    → (tag : ℕ) (letters ks : List ℕ) (read : Field → Result A Code)
    → only_from tag letters ks 0 order ≡ true → AllByRecursion (λ k. IsTestOf test k read) ks → AllByRecursion (SaysNamed tag letters read) fs
each-says order test fs none tag letters ks read only of =
    let hold = all-hold order test fs none in
    let each = each-at order test fs 0 (places_from order 0 fs) fs (stand order (λ _. Unit {0}) 0 fs (any-field fs)) hold.contents hold.whole in
    each-weaker (PassesAt order test) (SaysNamed tag letters read) fs
    (λ f p named. read-none (read f) (sym (test-of test read ks p.place f of (placed tag letters ks order f p.place only p.fitting named)) ∙ p.passes)) each

-- ---- the first of a name

front-each : (P : Field → Type 0) (front back : List Field) → AllByRecursion P (front ++ back) → AllByRecursion P front
front-each P [] back h = tt
front-each P (f ∷ front) back h = (h.0, front-each P front back h.1)

pub taken-each : (P : Field → Type 0) (n : ℕ) (fs : List Field) → AllByRecursion P fs → AllByRecursion P (take n fs)
taken-each P n fs all = front-each P (take n fs) (drop n fs) (rw (take-append-drop n fs) all)

-- it has the name, and what holds of each
pub found-each : (P : Field → Type 0) (test : Field → Bool) (fs : List Field) → AllByRecursion P fs → IfSome (find test fs) (λ f. (test f ≡ true) × P f)
found-each P test [] all = tt
found-each P test (f ∷ fs) all = go (test f) refl (found-each P test fs all.1)
  where
    go : (b : Bool) → test f ≡ b → IfSome (find test fs) (λ g. (test g ≡ true) × P g)
        → IfSome (cond b (Some f) (find test fs)) (λ g. (test g ≡ true) × P g)
    go true e later = (e, all.0)
    go false e later = later
