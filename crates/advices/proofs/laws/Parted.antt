-- What stands at the places of fields that are sent, and what they say.
use Rattle.std.proofs.Common.{◌≡◌, ℕ, zero, suc, ◌+◌, List, [], ◌∷◌, slice_get, Option, Some, None, Result, Ok, sym, ◌∙◌, arith, subst}
use Rattle.std.specs.List.{AllByRecursion}
use Rattle.corr_text.specs.declared.fault.Code.{Code}
use Rattle.fin_fields.specs.declared.field.Field.{Field}
use Rattle.fin_layout.specs.declared.place.Place.{Place}
use Rattle.fin_layout.specs.Contents.{all_from}
use Rattle.fin_layout.specs.Order.{places_from}
use Rattle.fin_layout.specs.Segments.{joined}
use Rattle.fin_layout.specs.inner.Segments.{places_of}
use Rattle.fin_layout.proofs.laws.Fine.{IsTestOf, read-none}
use Rattle.fin_layout.proofs.laws.Grouped.{grouped-places}
use Rattle.advices.proofs.laws.Fitted.{Fine, IsPartedInto}
use Rattle.advices.proofs.laws.Said.{SaysSome, all_said, at-group, at_place, first, group-said}

-- each content passes its test
fine-at : (test : ℕ → Field → Option Code) (j n : ℕ) (segs : List (List Field)) (s : List Field) → Fine test j segs → slice_get segs n ≡ Some s
    → AllByRecursion (λ f. test (j + n) f ≡ None) s
fine-at test j n [] s h e = absurd (cc e)
fine-at test j zero (x ∷ segs) s h e =
    let same : x ≡ s = cc e in
    let here : j ≡ j + 0 = omega arith in
    subst (λ (m : ℕ). AllByRecursion (λ f. test m f ≡ None) s) here (subst (AllByRecursion (λ f. test j f ≡ None)) same h.0)
fine-at test j (suc n) (x ∷ segs) s h e =
    let later : j + 1 + n ≡ j + suc n = omega arith in
    subst (λ (m : ℕ). AllByRecursion (λ f. test m f ≡ None) s) later (fine-at test (j + 1) n segs s h.1 e)

says-each : {A : Type 0} (test : ℕ → Field → Option Code) (n : ℕ) (read : Field → Result A Code) (of : IsTestOf test n read) (s : List Field)
    → AllByRecursion (λ f. test (0 + n) f ≡ None) s → AllByRecursion (SaysSome read) s
says-each test n read of [] h = tt
says-each test n read of (f ∷ s) h =
    let same : 0 + n ≡ n = omega arith in
    (read-none (read f) (sym (of f) ∙ subst (λ (m : ℕ). test m f ≡ None) same h.0), says-each test n read of s h.1)

module _ (order : List Place) (d : Place) (test : ℕ → Field → Option Code) (sent : List Field) (segs : List (List Field))
    (p : IsPartedInto order test sent segs) where
  places : places_from order 0 (joined segs) ≡ places_of 0 segs
  places = grouped-places order d 0 0 0 segs (omega arith) (omega arith) p.placed

  -- the first of the group of each place
  pub parted-at : (n : ℕ) (s : List Field) → slice_get segs n ≡ Some s → at_place sent (places_from order 0 sent) n ≡ first s
  parted-at n s e = rw (p.same, places) (at-group segs n s e)

  -- all of it
  pub parted-said : {A : Type 0} (n : ℕ) (s : List Field) (read : Field → Result A Code) (xs : List A) → IsTestOf test n read
      → slice_get segs n ≡ Some s → all_from sent n read 0 (places_from order 0 sent) sent ≡ Ok xs → xs ≡ all_said read s
  parted-said n s read xs of e says =
      group-said read segs n s xs e (says-each test n read of s (fine-at test 0 n segs s p.fine e))
      (subst (λ (held : List ℕ). all_from (joined segs) n read 0 held (joined segs) ≡ Ok xs) places
      (subst (λ (fs : List Field). all_from fs n read 0 (places_from order 0 fs) fs ≡ Ok xs) p.same says))
