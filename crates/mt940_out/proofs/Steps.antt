-- One field more of an MT940: an 86 behind a 61, a field that takes a place of an MT950, or one that takes none.
use Rattle.std.proofs.Common.{◌≡◌, ℕ, zero, suc, ◌+◌, ◌<◌, ◌≤◌, ◌==◌, ◌&&◌, ◌⊎◌, Bool, true, false, List, [], ◌∷◌, get_or, drop, position, Option, Some, None, refl, sym, ap, ◌∙◌, subst, arith, inl, inr, option_map}
use Rattle.std.proofs.lemmas.Bool.{cases_Bool, eqb-true}
use Rattle.std.proofs.lemmas.Bool.Decides.{nat_tests}
use Rattle.std.proofs.lemmas.List.{get_or-drop, length-drop}
use Rattle.std.proofs.lemmas.List.Quantifiers.{position-Some}
use Rattle.fin_fields.specs.declared.field.Field.{Field}
use Rattle.fin_layout.specs.declared.place.Place.{Place}
use Rattle.fin_layout.specs.Order.{fits, free_after, place_from, places_from}
use Rattle.fin_contents.proofs.laws.Bytes.{and-both}
use Rattle.mt950.specs.Order.{order_950}
use Rattle.mt940_out.specs.Order.{is_line, is_note, places_940, without_notes}
use Rattle.mt940_out.specs.inner.Faults.{first_bad_note}
use Rattle.mt940_out.specs.Page.{is_note_text}

pub option-cases : (o : Option ℕ) → (o ≡ None) ⊎ ((k : ℕ) × (o ≡ Some k))
option-cases None = inl refl
option-cases (Some k) = inr (k, refl)

-- a field that takes a place of an MT950
abbrev pub Takes : ℕ → Field → ℕ → Type 0
Takes free f k = place_from order_950 free f ≡ Some k

module _ (free : ℕ) (behind : Bool) (f : Field) (fs : List Field) where
  abbrev pub IsNoteHere : Bool → Type 0
  IsNoteHere b = (behind && is_note f) ≡ b

  -- the three kinds
  abbrev pub Step : Type 0
  Step = IsNoteHere true ⊎ (IsNoteHere false × ((place_from order_950 free f ≡ None) ⊎ ((k : ℕ) × Takes free f k)))

  pub step-of : Step
  step-of = by-test (cases_Bool (behind && is_note f))
    where
      by-test : IsNoteHere true ⊎ IsNoteHere false → Step
      by-test (inl met) = inl met
      by-test (inr unmet) = inr (unmet, option-cases (place_from order_950 free f))

  pub places-note : IsNoteHere true → places_940 free behind (f ∷ fs) ≡ 7 ∷ places_940 free false fs
  unfolding places_940
  places-note e = rw e refl

  pub places-placed : IsNoteHere false → (k : ℕ) → Takes free f k
      → places_940 free behind (f ∷ fs) ≡ k ∷ places_940 (free_after order_950 k) (is_line f) fs
  unfolding places_940
  places-placed e k at = rw (e, at) refl

  pub places-unplaced : IsNoteHere false → place_from order_950 free f ≡ None → places_940 free behind (f ∷ fs) ≡ []
  unfolding places_940
  places-unplaced e at = rw (e, at) refl

  pub without-note : IsNoteHere true → without_notes behind (f ∷ fs) ≡ without_notes false fs
  without-note e = rw e refl

  pub without-field : IsNoteHere false → without_notes behind (f ∷ fs) ≡ f ∷ without_notes (is_line f) fs
  without-field e = rw e refl

  pub good-note : (i : ℕ) → IsNoteHere true → is_note_text f.lines ≡ true → first_bad_note i behind (f ∷ fs) ≡ first_bad_note (i + 1) false fs
  good-note i e text = rw (e, text) refl

  pub bad-note : (i : ℕ) → IsNoteHere true → is_note_text f.lines ≡ false → first_bad_note i behind (f ∷ fs) ≡ Some i
  bad-note i e text = rw (e, text) refl

  pub no-note : (i : ℕ) → IsNoteHere false → first_bad_note i behind (f ∷ fs) ≡ first_bad_note (i + 1) (is_line f) fs
  no-note i e = rw e refl

-- an MT950's field
pub next-place : (free : ℕ) (f : Field) (fs : List Field) (k : ℕ) → Takes free f k
    → places_from order_950 free (f ∷ fs) ≡ k ∷ places_from order_950 (free_after order_950 k) fs
unfolding places_from
next-place free f fs k at = rw at refl

pub no-place : (free : ℕ) (f : Field) (fs : List Field) → place_from order_950 free f ≡ None → places_from order_950 free (f ∷ fs) ≡ []
unfolding places_from
no-place free f fs at = rw at refl

-- ---- the tag of a field that takes a place

-- the numbers of the places' fields
abbrev pub tags : List ℕ
tags = 20 ∷ 25 ∷ 28 ∷ 60 ∷ 61 ∷ 62 ∷ 64 ∷ []

-- where it stands, and its number
pub record Placed (free : ℕ) (f : Field) (k : ℕ) : Type 0 where
  pub from : free ≤ k
  pub within : k < 7
  pub tag : f.tag ≡ get_or tags k 0

fitting-tag : (p : Place) (f : Field) → fits p f ≡ true → f.tag ≡ p.tag
fitting-tag p f e = sym (eqb-true p.tag f.tag (and-both (p.tag == f.tag) _ e).0)

tag-at : (k : ℕ) (f : Field) (d : Place) → k < 7 → fits (get_or order_950 k d) f ≡ true → f.tag ≡ get_or tags k 0
tag-at zero f d lt e = fitting-tag (get_or order_950 0 d) f e
tag-at (suc zero) f d lt e = fitting-tag (get_or order_950 1 d) f e
tag-at (suc (suc zero)) f d lt e = fitting-tag (get_or order_950 2 d) f e
tag-at (suc (suc (suc zero))) f d lt e = fitting-tag (get_or order_950 3 d) f e
tag-at (suc (suc (suc (suc zero)))) f d lt e = fitting-tag (get_or order_950 4 d) f e
tag-at (suc (suc (suc (suc (suc zero))))) f d lt e = fitting-tag (get_or order_950 5 d) f e
tag-at (suc (suc (suc (suc (suc (suc zero)))))) f d lt e = fitting-tag (get_or order_950 6 d) f e
tag-at (suc (suc (suc (suc (suc (suc (suc k))))))) f d lt e = absurd (omega (arith, lt))

any-place : Place
any-place = record { tag = 0; options = []; many = false; must = false }

placed-from : (free k : ℕ) (f : Field) (o : Option ℕ) → o ≡ position (λ p. fits p f) (drop free order_950) → option_map (λ j. free + j) o ≡ Some k → Placed free f k
placed-from free k f None at e = absurd (cc e)
placed-from free k f (Some j) at e =
    let first = position-Some (λ p. fits p f) (drop free order_950) j any-place (sym at) in
    let place : free + j ≡ k = cc e in
    let within : k < 7 = omega (arith, place, first.0, length-drop free order_950) in
    let same = get_or-drop free order_950 j any-place ∙ ap (λ (m : ℕ). get_or order_950 m any-place) place in
    let here : fits (get_or order_950 k any-place) f ≡ true = subst (λ (p : Place). fits p f ≡ true) same first.1 in
    record { from = omega (arith, place); within = within; tag = tag-at k f any-place within here }

pub takes-placed : (free k : ℕ) (f : Field) → Takes free f k → Placed free f k
takes-placed free k f e = placed-from free k f (position (λ p. fits p f) (drop free order_950)) refl e

-- it is no 86
pub tag-no-note : (k : ℕ) (f : Field) → k < 7 → f.tag ≡ get_or tags k 0 → is_note f ≡ false
tag-no-note zero f lt e = rw e refl
tag-no-note (suc zero) f lt e = rw e refl
tag-no-note (suc (suc zero)) f lt e = rw e refl
tag-no-note (suc (suc (suc zero))) f lt e = rw e refl
tag-no-note (suc (suc (suc (suc zero)))) f lt e = rw e refl
tag-no-note (suc (suc (suc (suc (suc zero))))) f lt e = rw e refl
tag-no-note (suc (suc (suc (suc (suc (suc zero)))))) f lt e = rw e refl
tag-no-note (suc (suc (suc (suc (suc (suc (suc k))))))) f lt e = absurd (omega (arith, lt))

pub takes-no-note : (free k : ℕ) (f : Field) → Takes free f k → is_note f ≡ false
takes-no-note free k f at = let p = takes-placed free k f at in tag-no-note k f p.within p.tag

-- and behind 60a and 61 no 61
pub tag-no-line : (k : ℕ) (f : Field) → 5 ≤ k → k < 7 → f.tag ≡ get_or tags k 0 → is_line f ≡ false
tag-no-line zero f low lt e = absurd (omega (arith, low))
tag-no-line (suc zero) f low lt e = absurd (omega (arith, low))
tag-no-line (suc (suc zero)) f low lt e = absurd (omega (arith, low))
tag-no-line (suc (suc (suc zero))) f low lt e = absurd (omega (arith, low))
tag-no-line (suc (suc (suc (suc zero)))) f low lt e = absurd (omega (arith, low))
tag-no-line (suc (suc (suc (suc (suc zero))))) f low lt e = rw e refl
tag-no-line (suc (suc (suc (suc (suc (suc zero)))))) f low lt e = rw e refl
tag-no-line (suc (suc (suc (suc (suc (suc (suc k))))))) f low lt e = absurd (omega (arith, lt))

-- the place of a field of an MT950 isn't that of an 86
pub other-place : (k : ℕ) → k < 7 → (k == 7) ≡ false
other-place k lt = grind (arith, nat_tests)
