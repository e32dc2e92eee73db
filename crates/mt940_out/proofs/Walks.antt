-- Where a field stands among all that has so many ahead of it beside each 86.
use Rattle.std.proofs.Common.{◌≡◌, ℕ, zero, suc, ◌<◌, ◌==◌, ◌&&◌, ◌⊎◌, Bool, true, false, List, [], ◌∷◌, length, Option, Some, None, refl, sym, ap, ◌∙◌, subst, arith, inl, inr}
use Rattle.std.proofs.lemmas.Bool.{cases_Bool, eq-eqb}
use Rattle.std.proofs.lemmas.Bool.Decides.{nat_tests}
use Rattle.corr_text.specs.Codes.{code}
use Rattle.corr_text.specs.First.{first_of}
use Rattle.corr_text.specs.declared.fault.Fault.{Fault}
use Rattle.fin_fields.specs.declared.field.Field.{Field}
use Rattle.fin_layout.specs.Naming.{absent, fault_at}
use Rattle.fin_layout.specs.Order.{free_after, missing_from, places_from}
use Rattle.fin_layout.specs.Tests.{lacking}
use Rattle.mt950.specs.Order.{order_950}
use Rattle.mt940_out.specs.inner.Faults.{place_beside, place_past, structure_940}
use Rattle.mt940_out.specs.Order.{fields_beside, is_line, is_note, places_940, without_notes}
use Rattle.mt940_out.specs.Page.{misplaced_940}
use Rattle.mt940_out.proofs.Steps.{Step, next-place, no-place, places-note, places-placed, places-unplaced, step-of, without-field, without-note}

module _ (behind : Bool) (f : Field) (fs : List Field) (n : ℕ) where
  pub beside-note : (behind && is_note f) ≡ true → place_beside behind (f ∷ fs) n ≡ suc (place_beside false fs n)
  beside-note e = rw e refl

  pub beside-field : (behind && is_note f) ≡ false → place_beside behind (f ∷ fs) n ≡ place_past (place_beside (is_line f) fs) n
  beside-field e = rw e refl

-- ---- the walk along the places of an MT940 ends where that along those beside does

abbrev SameEnd : List Field → Type 0
SameEnd fs = (free : ℕ) (behind : Bool) → length (places_940 free behind fs) ≡ place_beside behind fs (length (places_from order_950 free (without_notes behind fs)))

module _ (f : Field) (fs : List Field) (later : SameEnd fs) (free : ℕ) (behind : Bool) where
  abbrev Ends : List Field → Type 0
  Ends gs = length (places_940 free behind (f ∷ fs)) ≡ place_beside behind (f ∷ fs) (length (places_from order_950 free gs))

  end-step : Step free behind f fs → Ends (without_notes behind (f ∷ fs))
  end-step (inl met) =
      subst Ends (sym (without-note free behind f fs met))
      (ap length (places-note free behind f fs met) ∙ ap suc (later free false) ∙ sym (beside-note behind f fs _ met))
  end-step (inr (unmet, inl none)) =
      let others : List Field = without_notes (is_line f) fs in
      subst Ends (sym (without-field free behind f fs unmet))
      (ap length (places-unplaced free behind f fs unmet none) ∙ sym (beside-field behind f fs (length (places_from order_950 free (f ∷ others))) unmet
      ∙ ap (λ (found : List ℕ). place_past (place_beside (is_line f) fs) (length found)) (no-place free f others none)))
  end-step (inr (unmet, inr (k, takes))) =
      let others : List Field = without_notes (is_line f) fs in
      subst Ends (sym (without-field free behind f fs unmet))
      (ap length (places-placed free behind f fs unmet k takes) ∙ ap suc (later (free_after order_950 k) (is_line f))
      ∙ sym (beside-field behind f fs (length (places_from order_950 free (f ∷ others))) unmet
      ∙ ap (λ (found : List ℕ). place_past (place_beside (is_line f) fs) (length found)) (next-place free f others k takes)))

end-none : (free : ℕ) (behind : Bool) → length (places_940 free behind []) ≡ 0
unfolding places_940
end-none free behind = refl

pub same-end : (fs : List Field) → SameEnd fs
same-end [] = λ free behind. end-none free behind
same-end (f ∷ fs) = λ free behind. end-step f fs (same-end fs) free behind (step-of free behind f fs)

-- ---- all fields, or not all

abbrev EndsWithin : List Field → Type 0
EndsWithin fs = (behind : Bool) (n : ℕ) → n < length (without_notes behind fs) → place_beside behind fs n < length fs

module _ (f : Field) (fs : List Field) (later : EndsWithin fs) (behind : Bool) where
  within-past : (n : ℕ) → n < suc (length (without_notes (is_line f) fs)) → place_past (place_beside (is_line f) fs) n < suc (length fs)
  within-past zero lt = omega arith
  within-past (suc n) lt = let more = later (is_line f) n (omega (arith, lt)) in omega (arith, more)

  within-by : (n : ℕ) → n < length (without_notes behind (f ∷ fs)) → ((behind && is_note f) ≡ true) ⊎ ((behind && is_note f) ≡ false)
      → place_beside behind (f ∷ fs) n < length (f ∷ fs)
  within-by n lt (inl met) =
      let more = later false n (subst (λ (gs : List Field). n < length gs) (without-note 0 behind f fs met) lt) in
      subst (λ (m : ℕ). m < suc (length fs)) (sym (beside-note behind f fs n met)) (omega (arith, more))
  within-by n lt (inr unmet) =
      let here = within-past n (subst (λ (gs : List Field). n < length gs) (without-field 0 behind f fs unmet) lt) in
      subst (λ (m : ℕ). m < suc (length fs)) (sym (beside-field behind f fs n unmet)) here

pub ends-within : (fs : List Field) → EndsWithin fs
ends-within [] = λ behind n lt. absurd (omega (arith, lt))
ends-within (f ∷ fs) = λ behind n lt. within-by f fs (ends-within fs) behind n lt (cases_Bool (behind && is_note f))

abbrev EndsAll : List Field → Type 0
EndsAll fs = (behind : Bool) → place_beside behind fs (length (without_notes behind fs)) ≡ length fs

module _ (f : Field) (fs : List Field) (later : EndsAll fs) (behind : Bool) where
  all-by : ((behind && is_note f) ≡ true) ⊎ ((behind && is_note f) ≡ false) → place_beside behind (f ∷ fs) (length (without_notes behind (f ∷ fs))) ≡ length (f ∷ fs)
  all-by (inl met) =
      ap (λ (gs : List Field). place_beside behind (f ∷ fs) (length gs)) (without-note 0 behind f fs met)
      ∙ beside-note behind f fs (length (without_notes false fs)) met ∙ ap suc (later false)
  all-by (inr unmet) =
      ap (λ (gs : List Field). place_beside behind (f ∷ fs) (length gs)) (without-field 0 behind f fs unmet)
      ∙ beside-field behind f fs (length (f ∷ without_notes (is_line f) fs)) unmet ∙ ap suc (later (is_line f))

pub ends-all : (fs : List Field) → EndsAll fs
ends-all [] = λ behind. refl
ends-all (f ∷ fs) = λ behind. all-by f fs (ends-all fs) behind (cases_Bool (behind && is_note f))

-- ---- the structure

apart : (m n : ℕ) → m < n → (m == n) ≡ false
apart m n lt = grind (arith, nat_tests)

first-told : (a b : Option Fault) (fault : Fault) → a ≡ Some fault → first_of (a ∷ b ∷ []) ≡ Some fault
first-told a b fault e = rw e refl

second-told : (a b : Option Fault) → a ≡ None → first_of (a ∷ b ∷ []) ≡ b
second-told a None e = rw e refl
second-told a (Some fault) e = rw e refl

module _ (fs : List Field) where
  abbrev pub found_beside : List ℕ
  found_beside = places_from order_950 0 (fields_beside fs)

  pub stops-within : length found_beside < length (fields_beside fs) → place_beside false fs (length found_beside) < length fs
  stops-within lt = ends-within fs false (length found_beside) lt

  -- a field beside takes no place
  pub misplaced-told : length found_beside < length (fields_beside fs)
      → first_of (structure_940 fs) ≡ Some (fault_at fs (place_beside false fs (length found_beside)) (code "P22"))
  misplaced-told lt =
      let end : length (places_940 0 false fs) ≡ place_beside false fs (length found_beside) = same-end fs 0 false in
      let here : (length (places_940 0 false fs) == length fs) ≡ false = apart _ _ (omega (arith, end, stops-within lt)) in
      first-told (misplaced_940 fs) (lacking order_950 (fields_beside fs)) _ (rw (here, end) refl)

  all-there : length found_beside ≡ length (fields_beside fs) → misplaced_940 fs ≡ None
  all-there all =
      let whole : length (places_940 0 false fs) ≡ length fs = same-end fs 0 false ∙ ap (place_beside false fs) all ∙ ends-all fs false in
      let here : (length (places_940 0 false fs) == length fs) ≡ true = eq-eqb _ _ whole in
      rw here refl

  -- all do, and one is missing
  pub lacking-told : (at : ℕ) → length found_beside ≡ length (fields_beside fs) → missing_from 0 order_950 found_beside ≡ Some at
      → first_of (structure_940 fs) ≡ Some (absent order_950 at)
  lacking-told at all missing = second-told (misplaced_940 fs) (lacking order_950 (fields_beside fs)) (all-there all) ∙ rw missing refl

  -- all do, and none is missing
  pub none-told : length found_beside ≡ length (fields_beside fs) → missing_from 0 order_950 found_beside ≡ None → first_of (structure_940 fs) ≡ None
  none-told all missing = second-told (misplaced_940 fs) (lacking order_950 (fields_beside fs)) (all-there all) ∙ rw missing refl
