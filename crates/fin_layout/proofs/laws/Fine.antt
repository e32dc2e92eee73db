-- Where no test of a message's fields fails, the fields at each place are read.
use Rattle.std.proofs.Common.{◌≡◌, ℕ, zero, suc, ◌+◌, ◌==◌, ◌&&◌, not, Bool, true, false, cond, List, [], ◌∷◌, length, option_map, option_and_then, position, slice_get, Option, Some, None, Result, Ok, Err, refl, sym, ap, ◌∙◌, arith, inl, inr}
use Rattle.std.specs.List.{list_any}
use Rattle.std.proofs.lemmas.Bool.{cases_Bool, eqb-true}
use Rattle.corr_text.specs.First.{first_of, fault_of, unless, unless_fault, ◌>>=◌}
use Rattle.corr_text.specs.declared.fault.Code.{Code}
use Rattle.corr_text.specs.declared.fault.Fault.{Fault}
use Rattle.fin_fields.specs.declared.field.Field.{Field}
use Rattle.fin_layout.specs.declared.place.Place.{Place}
use Rattle.fin_layout.specs.Naming.{fault_at, absent}
use Rattle.fin_layout.specs.Order.{field_in, is_missing, missing_from, places_from}
use Rattle.fin_layout.specs.Contents.{all_from, in_option, in_place}
use Rattle.fin_layout.specs.Reading.{Tells}
use Rattle.fin_layout.specs.inner.Reading.{Fails}
use Rattle.fin_layout.specs.Tests.{contents_from, tests}
use Rattle.fin_layout.specs.declared.fault.MtFault.{MtFault}
use Rattle.fin_layout.specs.declared.fault.MtFault.TheVariants as faults
use Rattle.fin_layout.proofs.laws.FoundField.{field-here, field-later, shifted}

-- where no test fails neither the first does nor one of the rest
pub first-none : {A : Type 0} (o : Option A) (more : List (Option A)) → first_of (o ∷ more) ≡ None → (o ≡ None) × (first_of more ≡ None)
first-none None more h = (refl, h)
first-none (Some x) more h = absurd (cc h)

-- what is changed and missing was missing
pub map-none : {A B : Type 0} (g : A → B) (o : Option A) → option_map g o ≡ None → o ≡ None
map-none g None h = refl
map-none g (Some x) h = absurd (cc h)

-- a test without a fault holds
pub holds-none : {F : Type 0} (b : Bool) (fault : F) → unless b fault ≡ None → b ≡ true
holds-none true fault h = refl
holds-none false fault h = absurd (cc h)

-- ---- structure

-- what the tests tell where none fails
pub record AllHold (order : List Place) (test : ℕ → Field → Option Code) (fs : List Field) (found : List ℕ) : Type 0 where
  pub whole : length found ≡ length fs
  pub complete : missing_from 0 order found ≡ None
  pub contents : first_of (contents_from test fs 0 found fs) ≡ None

-- fields without a fault stand in their places with contents that pass
pub all-hold : (order : List Place) (test : ℕ → Field → Option Code) (fs : List Field) → first_of (tests order test fs) ≡ None → AllHold order test fs (places_from order 0 fs)
all-hold order test fs none =
    let found = places_from order 0 fs in
    let one = first-none (unless (length found == length fs) (fault_at fs (length found) _)) _ none in
    let two = first-none (option_map (absent order) (missing_from 0 order found)) _ one.1 in
    record {
      whole = eqb-true _ _ (holds-none (length found == length fs) _ one.0);
      complete = map-none (absent order) (missing_from 0 order found) two.0;
      contents = two.1;
    }

not-missing : (must any : Bool) (k : ℕ) (o : Option ℕ) → cond (must && not any) (Some k) o ≡ None → must ≡ true → any ≡ true
not-missing true true k o h m = refl
not-missing true false k o h m = absurd (cc h)
not-missing false any k o h m = absurd (cc m)

none-later : (b : Bool) (k : ℕ) (o : Option ℕ) → cond b (Some k) o ≡ None → o ≡ None
none-later true k o h = absurd (cc h)
none-later false k o h = h

-- where nothing is missing each place that must be taken is
pub taken-from : (order : List Place) (j n k : ℕ) (p : Place) (found : List ℕ) → k ≡ j + n → missing_from j order found ≡ None → slice_get order n ≡ Some p → p.must ≡ true → list_any (λ q. q == k) found ≡ true
unfolding missing_from
taken-from [] j n k p found at h e m = absurd (cc e)
taken-from (x ∷ order) j zero k p found at h e m =
    let same : x ≡ p = cc e in
    let place : j ≡ k = omega (arith, at) in
    rw (← place) (not-missing x.must (list_any (λ q. q == j) found) j (missing_from (j + 1) order found) h (rw same m))
taken-from (x ∷ order) j (suc n) k p found at h e m =
    taken-from order (j + 1) n k p found (omega (arith, at)) (none-later (is_missing x j found) j (missing_from (j + 1) order found) h) e m

-- ---- the field that is found passed its test

-- a field that is found one item later was found
pub unshifted : (o : Option (ℕ × Field)) (n : ℕ) (f : Field) → option_map (shifted 1) o ≡ Some (n, f) → (m : ℕ) × (o ≡ Some (m, f))
unshifted None n f h = absurd (cc h)
unshifted (Some (m, g)) n f h =
    let pair : shifted 1 (m, g) ≡ (n, f) = cc h in
    (m, ap (λ (x : Field). Some (m, x)) (ap (λ (x : ℕ × Field). x.1) pair))

abbrev pub numbered_field : ℕ → Field → ℕ × Field
numbered_field n f = (n, f)

abbrev pub found_at : ℕ → Field → Option (ℕ × Field)
found_at n f = Some (n, f)

-- fields that are found alike are the same
pub second : (m n : ℕ) (g f : Field) → found_at m g ≡ found_at n f → g ≡ f
second m n g f h =
    let pair : numbered_field m g ≡ numbered_field n f = cc h in
    ap (λ (x : ℕ × Field). x.1) pair

nil-get : (o : Option ℕ) → option_and_then {U = ℕ × Field} (λ i. option_map (λ (f : Field). numbered_field i f) (slice_get [] i)) o ≡ None
nil-get None = refl
nil-get (Some i) = refl

-- without fields none stands at a place
pub field-nil : (found : List ℕ) (k : ℕ) → field_in [] found k ≡ None
field-nil found k = nil-get (position (λ p. p == k) found)

module _ (test : ℕ → Field → Option Code) (whole : List Field) where
  -- where no content fails, the field of a place has passed its test
  pub tested : (k i : ℕ) (found : List ℕ) (fs : List Field) (n : ℕ) (f : Field) → first_of (contents_from test whole i found fs) ≡ None → field_in fs found k ≡ Some (n, f) → test k f ≡ None
  unfolding contents_from
  tested k i [] fs n f none at = absurd (cc at)
  tested k i (q ∷ found) [] n f none at = absurd (cc (sym (field-nil (q ∷ found) k) ∙ at))
  tested k i (q ∷ found) (g ∷ fs) n f none at =
      let h = first-none (option_map (fault_at whole i) (test q g)) (contents_from test whole (i + 1) found fs) none in
      let fine : test q g ≡ None = map-none (fault_at whole i) (test q g) h.0 in
      elim (cases_Bool (q == k)) [
        | inl here ↦
            let place : q ≡ k = eqb-true q k here in
            let both : Some (0, g) ≡ Some (n, f) = sym (field-here g fs q k found here) ∙ at in
            let same : g ≡ f = second 0 n g f both in
            rw (← place, ← same) fine
        | inr other ↦
            let u = unshifted (field_in fs found k) n f (sym (field-later g fs q k found other) ∙ at) in
            tested k (i + 1) found fs u.0 f h.1 u.1
      ]

-- a place that is taken has a field
pub present : (k : ℕ) (found : List ℕ) (fs : List Field) → list_any (λ q. q == k) found ≡ true → length found ≡ length fs → (n : ℕ) × (f : Field) × (field_in fs found k ≡ Some (n, f))
present k [] fs h len = absurd (cc h)
present k (q ∷ found) [] h len = absurd (omega (arith, len))
present k (q ∷ found) (g ∷ fs) h len =
    elim (cases_Bool (q == k)) [
      | inl here ↦ (0, g, field-here g fs q k found here)
      | inr other ↦
          let later = present k found fs (rw other at h) (omega (arith, len)) in
          (later.0 + 1, later.1, field-later g fs q k found other ∙ rw later.2 refl)
    ]

-- ---- what the fields at a place say

-- the test of a place is that of its kind of content
abbrev pub IsTestOf : {A : Type 0} → (ℕ → Field → Option Code) → ℕ → (Field → Result A Code) → Type 0
IsTestOf test k read = (f : Field) → test k f ≡ fault_of (read f)

-- a content without a fault is read
pub read-none : {A : Type 0} (r : Result A Code) → fault_of r ≡ None → (x : A) × (r ≡ Ok x)
read-none (Ok x) h = (x, refl)
read-none (Err c) h = absurd (cc h)

module _ {A : Type 0} (test : ℕ → Field → Option Code) (whole : List Field) (k : ℕ) (read : Field → Result A Code) (of : IsTestOf test k read) where
  goes-on : (i q : ℕ) (found : List ℕ) (g : Field) (fs : List Field) → (q == k) ≡ true → (xs : List A) × (all_from whole k read (i + 1) found fs ≡ Ok xs) → (x : A) × (read g ≡ Ok x)
      → (xs : List A) × (all_from whole k read i (q ∷ found) (g ∷ fs) ≡ Ok xs)
  unfolding all_from
  goes-on i q found g fs here (xs, later) (x, e) = (x ∷ xs, rw (here, e, later) refl)

  passes-by : (i q : ℕ) (found : List ℕ) (g : Field) (fs : List Field) → (q == k) ≡ false → (xs : List A) × (all_from whole k read (i + 1) found fs ≡ Ok xs)
      → (xs : List A) × (all_from whole k read i (q ∷ found) (g ∷ fs) ≡ Ok xs)
  unfolding all_from
  passes-by i q found g fs other (xs, later) = (xs, rw other later)

  all-fine : (i : ℕ) (found : List ℕ) (fs : List Field) → first_of (contents_from test whole i found fs) ≡ None → (xs : List A) × (all_from whole k read i found fs ≡ Ok xs)
  unfolding contents_from all_from
  all-fine i [] fs none = ([], refl)
  all-fine i (q ∷ found) [] none = ([], refl)
  all-fine i (q ∷ found) (g ∷ fs) none =
      let h = first-none (option_map (fault_at whole i) (test q g)) (contents_from test whole (i + 1) found fs) none in
      let fine : test q g ≡ None = map-none (fault_at whole i) (test q g) h.0 in
      let later = all-fine (i + 1) found fs h.1 in
      elim (cases_Bool (q == k)) [
        | inl here ↦
            let place : q ≡ k = eqb-true q k here in
            goes-on i q found g fs here later (read-none (read g) (sym (of g) ∙ rw place at fine))
        | inr other ↦ passes-by i q found g fs other later
      ]

module _ {A : Type 0} {order : List Place} {test : ℕ → Field → Option Code} {fs : List Field} {found : List ℕ} (hold : AllHold order test fs found) (k : ℕ) (read : Field → Result A Code) (of : IsTestOf test k read) where
  found-fine : (n : ℕ) (f : Field) → field_in fs found k ≡ Some (n, f) → (x : A) × (read f ≡ Ok x)
  found-fine n f at = read-none (read f) (sym (of f) ∙ tested test fs k 0 found fs n f hold.contents at)

  must-go : (n : ℕ) (f : Field) → field_in fs found k ≡ Some (n, f) → (x : A) × (read f ≡ Ok x) → (x : A) × (in_place order fs found k read ≡ Ok x)
  must-go n f at (x, ok) = (x, rw (at, ok) refl)

  -- a mandatory place
  pub must-fine : (p : Place) → slice_get order k ≡ Some p → p.must ≡ true → (x : A) × (in_place order fs found k read ≡ Ok x)
  must-fine p e m =
      let there = present k found fs (taken-from order 0 k k p found (omega arith) hold.complete e m) hold.whole in
      must-go there.0 there.1 there.2 (found-fine there.0 there.1 there.2)

  may-go : (n : ℕ) (f : Field) → field_in fs found k ≡ Some (n, f) → (x : A) × (read f ≡ Ok x) → (x : Option A) × (in_option fs found k read ≡ Ok x)
  may-go n f at (x, ok) = (Some x, rw (at, ok) refl)

  may-by : (o : Option (ℕ × Field)) → field_in fs found k ≡ o → (x : Option A) × (in_option fs found k read ≡ Ok x)
  may-by None e = (None, rw e refl)
  may-by (Some (n, f)) e = may-go n f e (found-fine n f e)

  -- an optional place
  pub may-fine : (x : Option A) × (in_option fs found k read ≡ Ok x)
  may-fine = may-by (field_in fs found k) refl

  -- a place of several fields
  pub many-fine : (xs : List A) × (all_from fs k read 0 found fs ≡ Ok xs)
  many-fine = all-fine test fs k read of 0 found fs hold.contents

-- ---- the verdict of tests in a row of steps

-- an error that tells the first test that fails is that of the message
pub passed-fails : {A : Type 0} (first : Option Fault) (next : Result A Fault) (e : MtFault) → Tells first e → Fails e (unless_fault first >>= λ _. next)
passed-fails first next faults.Memory h = tt
passed-fails first next (faults.Bad fault) h = rw h refl

-- where no test fails the message is what comes after the tests
pub passed-on : {A : Type 0} (first : Option Fault) (next : Result A Fault) → first ≡ None → (unless_fault first >>= λ _. next) ≡ next
passed-on first next h = rw h refl
