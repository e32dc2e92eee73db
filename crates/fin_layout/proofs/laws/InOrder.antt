-- The contents of a message's fields, read place by place: the first that is refused is the first in the text.
--
-- A message type reads its contents by `in_place`, `in_option` and `all_from` over the places of its order, from 0 on and
-- each after the one before by `>>=`. For these contents it says that a fault that lies somewhere is met, one line a place:
--
--     refused : (t : Tables) (fs : List Field) (fault : Fault) → LiesFrom ORDER (content_test t) fs (places_from ORDER 0 fs) fault 0 → contents_of t fs (places_from ORDER 0 fs) ≡ Err fault
--     unfolding contents_of
--     refused t fs fault l0 =
--         one-met l0 reference_of (λ f. refl) refl _ refl refl _ (λ _ l1.
--         all-met l1 time_of (λ f. refl) _ (λ _ l2.
--         option-met l2 kind_of (λ f. refl) refl _ (λ _ l3.
--         .. none-left l22)))
--
-- A part of the contents that has steps of its own and is a step of the whole, as 20 to 36, is met in the same way:
--
--     terms-refused : LiesFrom .. 0 → (next : Terms → Result B Fault) → ((x : Terms) → LiesFrom .. 8 → next x ≡ Err fault) → (terms_of t fs found >>= next) ≡ Err fault
--     unfolding terms_of
--     terms-refused l0 next on =
--         one-in l0 reference_of (λ f. refl) refl _ refl refl _ next (λ _ l1.
--         all-in l1 time_of (λ f. refl) _ next (λ _ l2.
--         option-in l2 kind_of (λ f. refl) refl _ next (λ _ l3.
--         .. on _ l8)))
--
-- Its reader calls `check_structure`. Where that fails, `structure-fails` says that the message is refused with its fault;
-- else `in-turn` says that the message is what its contents tell: the tests of the contents are those of the reading.
use Rattle.std.proofs.Common.{◌≡◌, ℕ, ◌+◌, ◌<◌, ◌≤◌, ◌==◌, ◌⊎◌, true, false, List, [], ◌∷◌, length, drop, option_map, position, slice_get, Option, Some, None, Result, Ok, Err, refl, sym, ap, ◌∙◌, arith, inl, inr}
use Rattle.std.proofs.lemmas.Bool.{cases_Bool, cases_lt, eqb-true}
use Rattle.std.proofs.lemmas.Bool.Decides.{nat_tests}
use Rattle.std.proofs.lemmas.List.{length-drop}
use Rattle.std.proofs.lemmas.List.Quantifiers.{position-Some}
use Rattle.std.specs.Prelude.{unwrap_or}
use Rattle.corr_text.specs.First.{first_of, fault_of, ◌>>=◌}
use Rattle.corr_text.specs.declared.fault.Code.{Code}
use Rattle.corr_text.specs.declared.fault.Fault.{Fault}
use Rattle.fin_fields.specs.declared.field.Field.{Field}
use Rattle.fin_layout.specs.declared.place.Place.{Place}
use Rattle.fin_layout.specs.Naming.{absent, fault_at}
use Rattle.fin_layout.specs.Order.{field_in, fits, free_after, missing_from, place_from, places_from}
use Rattle.fin_layout.specs.inner.Order.{Rising}
use Rattle.fin_layout.specs.Contents.{all_from, in_option, in_place}
use Rattle.fin_layout.specs.Reading.{Tells}
use Rattle.fin_layout.specs.inner.Reading.{Fails}
use Rattle.fin_layout.specs.declared.fault.MtFault.{MtFault}
use Rattle.fin_layout.specs.declared.fault.MtFault.TheVariants as faults
use Rattle.fin_layout.specs.Tests.{contents_from, misplaced, lacking, passed, structure_tests, tests}
use Rattle.fin_layout.proofs.laws.FoundField.{field-here, field-later}
use Rattle.fin_layout.proofs.laws.Grouped.{free_after-bounds}
use Rattle.fin_layout.proofs.laws.Fine.{IsTestOf, field-nil, first-none, holds-none, map-none, passed-fails, passed-on, present, read-none, second, taken-from, unshifted}

-- ---- places never fall

place-within : (order : List Place) (free k : ℕ) (f : Field) → place_from order free f ≡ Some k → (free ≤ k) × (k < length order)
place-within order free k f e = go (drop free order) refl (position (λ p. fits p f) (drop free order)) refl e
  where
    go : (rest : List Place) → rest ≡ drop free order → (o : Option ℕ) → o ≡ position (λ p. fits p f) rest → option_map (λ j. free + j) o ≡ Some k → (free ≤ k) × (k < length order)
    go rest at None same e = absurd (cc e)
    go [] at (Some j) same e = absurd (cc same)
    go (p ∷ rest) at (Some j) same e =
        let within = position-Some (λ p. fits p f) (p ∷ rest) j p (sym same) in
        let sum : free + j ≡ k = cc e in
        let long : length (p ∷ rest) ≡ length (drop free order) = ap (λ (ps : List Place). length ps) at in
        (omega (arith, sum), omega (arith, sum, within.0, long, length-drop free order))

rising-on : (order : List Place) (free : ℕ) (f : Field) (more : ℕ → List ℕ) (o : Option ℕ) → place_from order free f ≡ o → ((k : ℕ) → Rising order (free_after order k) (more k)) → Rising order free (unwrap_or (option_map (λ k. k ∷ more k) o) [])
rising-on order free f more None e later = tt
rising-on order free f more (Some k) e later = let within = place-within order free k f e in (within.0, within.1, later k)

pub places-rise : (order : List Place) (free : ℕ) (fs : List Field) → Rising order free (places_from order free fs)
unfolding places_from
places-rise order free [] = tt
places-rise order free (f ∷ fs) = rising-on order free f (λ k. places_from order (free_after order k) fs) (place_from order free f) refl (λ k. places-rise order (free_after order k) fs)

-- ---- a fault that lies at a place or after it

-- each field before place k passes its test
abbrev pub FineBelow : (ℕ → Field → Option Code) → ℕ → List ℕ → List Field → Type 0
FineBelow test k [] fs = Unit {0}
FineBelow test k (q ∷ found) [] = Unit {0}
FineBelow test k (q ∷ found) (f ∷ fs) = (q < k → test q f ≡ None) × FineBelow test k found fs

-- the first fault of the contents in the text's order, where none is at a place before k
pub record LiesFrom (order : List Place) (test : ℕ → Field → Option Code) (fs : List Field) (found : List ℕ) (fault : Fault) (k : ℕ) : Type 0 where
  pub rising : Rising order 0 found
  pub whole : length found ≡ length fs
  pub complete : missing_from 0 order found ≡ None
  pub first : first_of (contents_from test fs 0 found fs) ≡ Some fault
  pub fine : FineBelow test k found fs

none-below : (test : ℕ → Field → Option Code) (found : List ℕ) (fs : List Field) → FineBelow test 0 found fs
none-below test [] fs = tt
none-below test (q ∷ found) [] = tt
none-below test (q ∷ found) (f ∷ fs) = (λ lt. absurd (omega (arith, lt)), none-below test found fs)

pub lies-somewhere : (order : List Place) (test : ℕ → Field → Option Code) (fs : List Field) (fault : Fault) → first_of (structure_tests order fs) ≡ None → first_of (tests order test fs) ≡ Some fault → LiesFrom order test fs (places_from order 0 fs) fault 0
lies-somewhere order test fs fault sound some =
    let found = places_from order 0 fs in
    let one = first-none (misplaced order fs) _ sound in
    let two = first-none (lacking order fs) _ one.1 in
    record {
      rising = places-rise order 0 fs;
      whole = eqb-true _ _ (holds-none (length found == length fs) _ one.0);
      complete = map-none (absent order) (missing_from 0 order found) two.0;
      first = rw (one.0, two.0) at some;
      fine = none-below test found fs;
    }

-- ---- the fields after a place

module _ (order : List Place) (test : ℕ → Field → Option Code) (k : ℕ) where
  -- fields after a place are at no place up to it
  fine-after : (low : ℕ) (found : List ℕ) (fs : List Field) → Rising order low found → k ≤ low → FineBelow test k found fs
  fine-after low [] fs up le = tt
  fine-after low (q ∷ found) [] up le = tt
  fine-after low (q ∷ found) (f ∷ fs) up le =
      let next = (free_after-bounds order q).0 in
      (λ lt. absurd (omega (arith, lt, up.0)), fine-after (free_after order q) found fs up.2 (omega (arith, next, up.0)))

  none-after : (low : ℕ) (found : List ℕ) (fs : List Field) → Rising order low found → k < low → field_in fs found k ≡ None
  none-after low [] fs up lt = refl
  none-after low (q ∷ found) [] up lt = field-nil (q ∷ found) k
  none-after low (q ∷ found) (f ∷ fs) up lt =
      let next = (free_after-bounds order q).0 in
      let from = up.0 in
      let apart : (q == k) ≡ false = grind (arith, nat_tests) in
      field-later f fs q k found apart ∙ rw (none-after (free_after order q) found fs up.2 (omega (arith, next, from))) refl

  nothing-after : {A : Type 0} (whole : List Field) (read : Field → Result A Code) (low i : ℕ) (found : List ℕ) (fs : List Field) → Rising order low found → k < low → all_from whole k read i found fs ≡ Ok []
  unfolding all_from
  nothing-after whole read low i [] fs up lt = refl
  nothing-after whole read low i (q ∷ found) [] up lt = refl
  nothing-after whole read low i (q ∷ found) (f ∷ fs) up lt =
      let next = (free_after-bounds order q).0 in
      let from = up.0 in
      let apart : (q == k) ≡ false = grind (arith, nat_tests) in
      rw apart (nothing-after whole read (free_after order q) (i + 1) found fs up.2 (omega (arith, next, from)))

-- ---- the fields at a place

-- the first of these faults is that of the first field, or of a later one
first-cases : (o : Option Code) (at : Code → Fault) (more : List (Option Fault)) (fault : Fault) → first_of (option_map at o ∷ more) ≡ Some fault
    → ((code : Code) × (o ≡ Some code) × (at code ≡ fault)) ⊎ ((o ≡ None) × (first_of more ≡ Some fault))
first-cases None at more fault h = inr (refl, h)
first-cases (Some code) at more fault h = inl (code, refl, cc h)

-- a place that is not before k is k, or a later one
not-before : (test : ℕ → Field → Option Code) (q k : ℕ) (f : Field) (code : Code) → (q < k → test q f ≡ None) → test q f ≡ Some code → k ≤ q
not-before test q k f code fine bad =
    elim (cases_lt q k) [
      | inl lt ↦ absurd (cc (sym (fine lt) ∙ bad))
      | inr le ↦ le
    ]

fault-err : {A : Type 0} (r : Result A Code) (code : Code) → fault_of r ≡ Some code → r ≡ Err code
fault-err (Ok x) code e = absurd (cc e)
fault-err (Err c) code e = ap Err (cc e)

module _ {A : Type 0} (order : List Place) (test : ℕ → Field → Option Code) (whole : List Field) (fault : Fault) (k : ℕ) (read : Field → Result A Code) (of : IsTestOf test k read) where
  -- several fields may stand there: the fault is met, or all are read and it lies after them
  abbrev AllOutcome : ℕ → List ℕ → List Field → Type 0
  AllOutcome i found fs = (all_from whole k read i found fs ≡ Err fault) ⊎ ((xs : List A) × (all_from whole k read i found fs ≡ Ok xs) × FineBelow test (k + 1) found fs)

  read-bad : (f : Field) (code : Code) → test k f ≡ Some code → read f ≡ Err code
  read-bad f code bad = fault-err (read f) code (sym (of f) ∙ bad)

  read-fine : (f : Field) → test k f ≡ None → (x : A) × (read f ≡ Ok x)
  read-fine f fine = read-none (read f) (sym (of f) ∙ fine)

  all-refused : (i q : ℕ) (found : List ℕ) (f : Field) (fs : List Field) (code : Code) → (q == k) ≡ true → read f ≡ Err code → fault_at whole i code ≡ fault → all_from whole k read i (q ∷ found) (f ∷ fs) ≡ Err fault
  unfolding all_from
  all-refused i q found f fs code here bad same = rw (here, bad) (ap Err same)

  all-here : (i q : ℕ) (found : List ℕ) (f : Field) (fs : List Field) (x : A) → (q == k) ≡ true → read f ≡ Ok x → FineBelow test (k + 1) (q ∷ []) (f ∷ []) → AllOutcome (i + 1) found fs → AllOutcome i (q ∷ found) (f ∷ fs)
  unfolding all_from
  all-here i q found f fs x here ok fine later =
      elim later [
        | inl met ↦ inl (rw (here, ok, met) refl)
        | inr on ↦ let (xs, all, after) = on in inr (x ∷ xs, rw (here, ok, all) refl, (fine.0, after))
      ]

  all-other : (i q : ℕ) (found : List ℕ) (f : Field) (fs : List Field) → (q == k) ≡ false → FineBelow test (k + 1) (q ∷ []) (f ∷ []) → AllOutcome (i + 1) found fs → AllOutcome i (q ∷ found) (f ∷ fs)
  unfolding all_from
  all-other i q found f fs other fine later =
      elim later [
        | inl met ↦ inl (rw other met)
        | inr on ↦ let (xs, all, after) = on in inr (xs, rw other all, (fine.0, after))
      ]

  all-outcome : (low i : ℕ) (found : List ℕ) (fs : List Field) → Rising order low found → FineBelow test k found fs → first_of (contents_from test whole i found fs) ≡ Some fault → AllOutcome i found fs
  unfolding contents_from
  all-outcome low i [] fs up fine some = absurd (cc some)
  all-outcome low i (q ∷ found) [] up fine some = absurd (cc some)
  all-outcome low i (q ∷ found) (f ∷ fs) up fine some =
      elim (first-cases (test q f) (fault_at whole i) (contents_from test whole (i + 1) found fs) fault some) [
        | inl refused ↦
            let (code, bad, same) = refused in
            let from = not-before test q k f code fine.0 bad in
            elim (cases_Bool (q == k)) [
              | inl here ↦
                  let place : q ≡ k = eqb-true q k here in
                  inl (all-refused i q found f fs code here (read-bad f code (rw place at bad)) same)
              | inr other ↦
                  let after : k < q = grind (arith, nat_tests) in
                  let rest : Rising order q (q ∷ found) = (omega arith, up.1, up.2) in
                  inr ([], nothing-after order test k whole read q i (q ∷ found) (f ∷ fs) rest after, fine-after order test (k + 1) q (q ∷ found) (f ∷ fs) rest (omega (arith, after)))
            ]
        | inr passed ↦
            let later = all-outcome (free_after order q) (i + 1) found fs up.2 fine.1 passed.1 in
            elim (cases_Bool (q == k)) [
              | inl here ↦
                  let place : q ≡ k = eqb-true q k here in
                  let ok = read-fine f (rw place at passed.0) in
                  all-here i q found f fs ok.0 here ok.1 (λ _. passed.0, tt) later
              | inr other ↦ all-other i q found f fs other (λ _. passed.0, tt) later
            ]
      ]

  -- the first field that is found there is refused with the fault
  record Refused (i : ℕ) (found : List ℕ) (fs : List Field) : Type 0 where
    n : ℕ
    f : Field
    code : Code
    at : field_in fs found k ≡ Some (n, f)
    bad : test k f ≡ Some code
    same : fault_at whole (i + n) code ≡ fault

  -- the field that is found there passes, and the fault lies after it
  record Passed (found : List ℕ) (fs : List Field) : Type 0 where
    here : (n : ℕ) (f : Field) → field_in fs found k ≡ Some (n, f) → test k f ≡ None
    after : FineBelow test (k + 1) found fs

  one-later : (i q : ℕ) (found : List ℕ) (f : Field) (fs : List Field) → (q == k) ≡ false → FineBelow test (k + 1) (q ∷ []) (f ∷ []) → Refused (i + 1) found fs ⊎ Passed found fs → Refused i (q ∷ found) (f ∷ fs) ⊎ Passed (q ∷ found) (f ∷ fs)
  one-later i q found f fs other fine later =
      elim later [
        | inl r ↦
            let number : i + 1 + r.n ≡ i + (r.n + 1) = omega arith in
            inl (record {
              n = r.n + 1;
              f = r.f;
              code = r.code;
              at = field-later f fs q k found other ∙ rw (r.at) refl;
              bad = r.bad;
              same = rw (← number) (r.same);
            })
        | inr p ↦
            inr (record {
              here = λ n g at. let u = unshifted (field_in fs found k) n g (sym (field-later f fs q k found other) ∙ at) in p.here u.0 g u.1;
              after = (fine.0, p.after);
            })
      ]

  one-outcome : free_after order k ≡ k + 1 → (low i : ℕ) (found : List ℕ) (fs : List Field) → Rising order low found → FineBelow test k found fs → first_of (contents_from test whole i found fs) ≡ Some fault → Refused i found fs ⊎ Passed found fs
  unfolding contents_from
  one-outcome single low i [] fs up fine some = absurd (cc some)
  one-outcome single low i (q ∷ found) [] up fine some = absurd (cc some)
  one-outcome single low i (q ∷ found) (f ∷ fs) up fine some =
      elim (first-cases (test q f) (fault_at whole i) (contents_from test whole (i + 1) found fs) fault some) [
        | inl refused ↦
            let (code, bad, same) = refused in
            let from = not-before test q k f code fine.0 bad in
            elim (cases_Bool (q == k)) [
              | inl here ↦
                  let place : q ≡ k = eqb-true q k here in
                  let number : i ≡ i + 0 = omega arith in
                  inl (record { n = 0; f = f; code = code; at = field-here f fs q k found here; bad = rw place at bad; same = rw (← number) same })
              | inr other ↦
                  let after : k < q = grind (arith, nat_tests) in
                  let rest : Rising order q (q ∷ found) = (omega arith, up.1, up.2) in
                  let none = none-after order test k q (q ∷ found) (f ∷ fs) rest after in
                  inr (record { here = λ n g at. absurd (cc (sym none ∙ at)); after = fine-after order test (k + 1) q (q ∷ found) (f ∷ fs) rest (omega (arith, after)) })
            ]
        | inr passed ↦
            elim (cases_Bool (q == k)) [
              | inl here ↦
                  let place : q ≡ k = eqb-true q k here in
                  let pass : test k f ≡ None = rw place at passed.0 in
                  let above : k + 1 ≤ free_after order q = rw (place, single) (omega arith) in
                  inr (record {
                    here = λ n g at. let same = second 0 n f g (sym (field-here f fs q k found here) ∙ at) in rw (← same) pass;
                    after = (λ _. passed.0, fine-after order test (k + 1) (free_after order q) found fs up.2 above);
                  })
              | inr other ↦ one-later i q found f fs other (λ _. passed.0, tt) (one-outcome single (free_after order q) (i + 1) found fs up.2 fine.1 passed.1)
            ]
      ]

-- ---- reading on, place by place

-- what is read at a place is this fault, or is there and the fault lies after it
abbrev pub Meets : {A : Type 0} → Result A Fault → Fault → Type 0 → Type 0
Meets {A} read fault after = (read ≡ Err fault) ⊎ ((x : A) × (read ≡ Ok x) × after)

-- the steps after a reading are taken only where it is read
bind-fails : {A B : Type 0} (fault : Fault) (after : Type 0) (read : Result A Fault) (next : A → Result B Fault) → Meets read fault after → ((x : A) → after → next x ≡ Err fault) → (read >>= next) ≡ Err fault
bind-fails fault after read next met on =
    elim met [
      | inl here ↦ rw here refl
      | inr later ↦ let (x, ok, lies) = later in rw ok (on x lies)
    ]

all-after : (order : List Place) (test : ℕ → Field → Option Code) (whole : List Field) (fault : Fault) (low i : ℕ) (found : List ℕ) (fs : List Field) → Rising order low found → FineBelow test (length order) found fs → first_of (contents_from test whole i found fs) ≡ Some fault → ⊥
unfolding contents_from
all-after order test whole fault low i [] fs up fine some = absurd (cc some)
all-after order test whole fault low i (q ∷ found) [] up fine some = absurd (cc some)
all-after order test whole fault low i (q ∷ found) (f ∷ fs) up fine some =
    let pass : test q f ≡ None = fine.0 up.1 in
    all-after order test whole fault (free_after order q) (i + 1) found fs up.2 fine.1 (rw pass at some)

-- no fault lies after the last place
pub none-left : {A : Type 0} {order : List Place} {test : ℕ → Field → Option Code} {fs : List Field} {found : List ℕ} {fault : Fault} → LiesFrom order test fs found fault (length order) → A
none-left {A} {order} {test} {fs} {found} {fault} l = absurd (all-after order test fs fault 0 0 found fs l.rising l.fine l.first)

-- steps within a step are steps in a row
inner : {A B C F : Type 0} (read : Result A F) (next : A → Result B F) (further : B → Result C F) → (read >>= next >>= further) ≡ (read >>= λ x. next x >>= further)
inner (Ok x) next further = refl
inner (Err e) next further = refl

module _ {order : List Place} {test : ℕ → Field → Option Code} {fs : List Field} {found : List ℕ} {fault : Fault} {k : ℕ} (l : LiesFrom order test fs found fault k) where
  after-next : FineBelow test (k + 1) found fs → LiesFrom order test fs found fault (k + 1)
  after-next fine = record { rising = l.rising; whole = l.whole; complete = l.complete; first = l.first; fine = fine }

  module _ {A : Type 0} (read : Field → Result A Code) (of : IsTestOf test k read) where
    one-ok : (n : ℕ) (f : Field) → field_in fs found k ≡ Some (n, f) → (x : A) × (read f ≡ Ok x) → FineBelow test (k + 1) found fs → Meets (in_place order fs found k read) fault (LiesFrom order test fs found fault (k + 1))
    one-ok n f at (x, ok) fine = inr (x, rw (at, ok) refl, after-next fine)

    option-ok : (n : ℕ) (f : Field) → field_in fs found k ≡ Some (n, f) → (x : A) × (read f ≡ Ok x) → FineBelow test (k + 1) found fs → Meets (in_option fs found k read) fault (LiesFrom order test fs found fault (k + 1))
    option-ok n f at (x, ok) fine = inr (Some x, rw (at, ok) refl, after-next fine)

    all-meets : Meets (all_from fs k read 0 found fs) fault (LiesFrom order test fs found fault (k + 1))
    all-meets =
        elim (all-outcome order test fs fault k read of 0 0 found fs l.rising l.fine l.first) [
          | inl met ↦ inl met
          | inr on ↦ let (xs, ok, fine) = on in inr (xs, ok, after-next fine)
        ]

    module _ (single : free_after order k ≡ k + 1) where
      one-meets : (p : Place) → slice_get order k ≡ Some p → p.must ≡ true → Meets (in_place order fs found k read) fault (LiesFrom order test fs found fault (k + 1))
      one-meets p e must =
          let there = present k found fs (taken-from order 0 k k p found (omega arith) l.complete e must) l.whole in
          elim (one-outcome order test fs fault k read of single 0 0 found fs l.rising l.fine l.first) [
            | inl r ↦ let number : 0 + r.n ≡ r.n = omega arith in inl (rw (r.at, fault-err (read r.f) r.code (sym (of r.f) ∙ r.bad)) (ap Err (rw number at r.same)))
            | inr passed ↦ one-ok there.0 there.1 there.2 (read-none (read there.1) (sym (of there.1) ∙ passed.here there.0 there.1 there.2)) passed.after
          ]

      option-meets : Meets (in_option fs found k read) fault (LiesFrom order test fs found fault (k + 1))
      option-meets =
          elim (one-outcome order test fs fault k read of single 0 0 found fs l.rising l.fine l.first) [
            | inl r ↦ let number : 0 + r.n ≡ r.n = omega arith in inl (rw (r.at, fault-err (read r.f) r.code (sym (of r.f) ∙ r.bad)) (ap Err (rw number at r.same)))
            | inr p ↦ by (field_in fs found k) refl p
          ]
        where
          by : (o : Option (ℕ × Field)) → field_in fs found k ≡ o → Passed order test fs fault k read of found fs → Meets (in_option fs found k read) fault (LiesFrom order test fs found fault (k + 1))
          by None at p = inr (None, rw at refl, after-next p.after)
          by (Some (n, f)) at p = option-ok n f at (read-none (read f) (sym (of f) ∙ p.here n f at)) p.after

    pub all-met : {B : Type 0} (next : List A → Result B Fault) → ((xs : List A) → LiesFrom order test fs found fault (k + 1) → next xs ≡ Err fault) → (all_from fs k read 0 found fs >>= next) ≡ Err fault
    all-met next on = bind-fails fault (LiesFrom order test fs found fault (k + 1)) (all_from fs k read 0 found fs) next all-meets on

    pub option-met : {B : Type 0} → free_after order k ≡ k + 1 → (next : Option A → Result B Fault) → ((x : Option A) → LiesFrom order test fs found fault (k + 1) → next x ≡ Err fault) → (in_option fs found k read >>= next) ≡ Err fault
    option-met single next on = bind-fails fault (LiesFrom order test fs found fault (k + 1)) (in_option fs found k read) next (option-meets single) on

    pub one-met : {B : Type 0} → free_after order k ≡ k + 1 → (p : Place) → slice_get order k ≡ Some p → p.must ≡ true → (next : A → Result B Fault) → ((x : A) → LiesFrom order test fs found fault (k + 1) → next x ≡ Err fault) → (in_place order fs found k read >>= next) ≡ Err fault
    one-met single p e must next on = bind-fails fault (LiesFrom order test fs found fault (k + 1)) (in_place order fs found k read) next (one-meets single p e must) on

    -- the same within a part of the contents, whose steps are a step of the whole
    pub all-in : {B C : Type 0} (next : List A → Result B Fault) (further : B → Result C Fault) → ((xs : List A) → LiesFrom order test fs found fault (k + 1) → (next xs >>= further) ≡ Err fault) → (all_from fs k read 0 found fs >>= next >>= further) ≡ Err fault
    all-in next further on = inner (all_from fs k read 0 found fs) next further ∙ all-met (λ xs. next xs >>= further) on

    pub option-in : {B C : Type 0} → free_after order k ≡ k + 1 → (next : Option A → Result B Fault) (further : B → Result C Fault) → ((x : Option A) → LiesFrom order test fs found fault (k + 1) → (next x >>= further) ≡ Err fault)
        → (in_option fs found k read >>= next >>= further) ≡ Err fault
    option-in single next further on = inner (in_option fs found k read) next further ∙ option-met single (λ x. next x >>= further) on

    pub one-in : {B C : Type 0} → free_after order k ≡ k + 1 → (p : Place) → slice_get order k ≡ Some p → p.must ≡ true → (next : A → Result B Fault) (further : B → Result C Fault) → ((x : A) → LiesFrom order test fs found fault (k + 1) → (next x >>= further) ≡ Err fault)
        → (in_place order fs found k read >>= next >>= further) ≡ Err fault
    one-in single p e must next further on = inner (in_place order fs found k read) next further ∙ one-met single p e must (λ x. next x >>= further) on

-- ---- the verdict of a message's fields

-- steps after a refused reading are not taken
pub fails-before : {A B : Type 0} (read : Result A Fault) (further : A → Result B Fault) (fault : Fault) → read ≡ Err fault → (read >>= further) ≡ Err fault
fails-before read further fault e = rw e refl

-- where the structure has no fault, what the contents tell place by place is what the tests and then the contents tell
pub in-turn : {A : Type 0} (order : List Place) (test : ℕ → Field → Option Code) (fs : List Field) (read : Result A Fault) → first_of (structure_tests order fs) ≡ None
    → ((fault : Fault) → LiesFrom order test fs (places_from order 0 fs) fault 0 → read ≡ Err fault)
    → (passed (tests order test fs) >>= λ _. read) ≡ read
in-turn order test fs read sound refused = go (first_of (tests order test fs)) refl
  where
    go : (o : Option Fault) → first_of (tests order test fs) ≡ o → (passed (tests order test fs) >>= λ _. read) ≡ read
    go None none = passed-on (first_of (tests order test fs)) read none
    go (Some fault) some = rw (some, refused fault (lies-somewhere order test fs fault sound some)) refl

-- a fault of the structure is the first of all
pub structure-fails : {A : Type 0} (order : List Place) (test : ℕ → Field → Option Code) (fs : List Field) (read : Result A Fault) (e : MtFault) → Tells (first_of (structure_tests order fs)) e → Fails e (passed (tests order test fs) >>= λ _. read)
structure-fails order test fs read faults.Memory h = tt
structure-fails order test fs read (faults.Bad fault) h =
    passed-fails (first_of (tests order test fs)) read (faults.Bad fault) (first-of-all (misplaced order fs) (lacking order fs) (contents_from test fs 0 (places_from order 0 fs) fs) fault h)
  where
    first-of-all : (one two : Option Fault) (more : List (Option Fault)) (fault : Fault) → first_of (one ∷ two ∷ []) ≡ Some fault → first_of (one ∷ two ∷ more) ≡ Some fault
    first-of-all (Some x) two more fault h = h
    first-of-all None (Some x) more fault h = h
    first-of-all None None more fault h = absurd (cc h)
