-- Fields that are cut line by line are those of all lines.
use Rattle.std.proofs.Common.{◌≡◌, ◌≢◌, ℕ, ◌+◌, ◌≤◌, ◌||◌, Bool, true, false, List, [], ◌∷◌, ◌++◌, length, option_map, position, Option, Some, None, refl, sym, ap, ◌∙◌, arith, append_assoc}
use Rattle.std.specs.List.{list_any}
use Rattle.std.proofs.lemmas.List.{append-nil}
use Rattle.fin_fields.specs.declared.field.Field.{Field}
use Rattle.fin_fields.specs.Fields.{Grouped, Heading, field_begun, grouped, heading_of, with_line}
use Rattle.fin_fields.specs.inner.Fields.{so_far}
use Rattle.fin_fields.specs.Faults.{has_other_byte, is_misplaced}
use Rattle.fin_fields.proofs.laws.Positions.{position-here, position-later}

-- ---- the last field is the open one

so-far-last : (fs : List Field) (f : Field) (g : Grouped) → so_far (fs ++ f ∷ []) g ≡ fs ++ record f { lines = f.lines ++ g.continued } ∷ g.fields
so-far-last [] f g = refl
so-far-last (first ∷ []) f g = refl
so-far-last (first ∷ next ∷ fs) f g = ap (λ (later : List Field). first ∷ later) (so-far-last (next ∷ fs) f g)

nothing-continued : (fs more : List Field) → fs ≢ [] → so_far fs (record { continued = []; fields = more }) ≡ fs ++ more
nothing-continued [] more some = absurd (some refl)
nothing-continued (f ∷ []) more some = ap (λ (lines : List (List ℕ)). record f { lines = lines } ∷ more) (append-nil f.lines)
nothing-continued (f ∷ next ∷ fs) more some = ap (λ (later : List Field). f ∷ later) (nothing-continued (next ∷ fs) more (λ none. absurd (cc none)))

-- a line that begins a field is put after the others
pub one-begun : (old new : List Field) (line : List ℕ) (h : Heading) → old ≢ [] → heading_of line ≡ Some h → new ≡ old ++ field_begun h [] ∷ []
    → (g : Grouped) → so_far new g ≡ so_far old (with_line line (heading_of line) g)
one-begun old new line h some is now g =
    ap (λ (fs : List Field). so_far fs g) now
    ∙ (so-far-last old (field_begun h []) g
    ∙ sym (ap (λ (o : Option Heading). so_far old (with_line line o g)) is ∙ nothing-continued old (field_begun h g.continued ∷ g.fields) some))

-- a line that begins none is added to the last field
pub last-continued : (front old new : List Field) (last : Field) (line : List ℕ) → old ≡ front ++ last ∷ [] → new ≡ front ++ record last { lines = last.lines ++ line ∷ [] } ∷ []
    → (g : Grouped) → so_far new g ≡ so_far old (with_line line None g)
last-continued front old new last line before now g =
    ap (λ (fs : List Field). so_far fs g) now
    ∙ (so-far-last front (record last { lines = last.lines ++ line ∷ [] }) g
    ∙ (ap (λ (lines : List (List ℕ)). front ++ record last { lines = lines } ∷ g.fields) (append_assoc last.lines (line ∷ []) g.continued)
    ∙ sym (ap (λ (fs : List Field). so_far fs (with_line line None g)) before ∙ so-far-last front last (with_line line None g))))

-- ---- line by line

-- what was cut of lines, with those ahead, gives the fields of all of them, and the lines ahead hold their first fault
pub record CutSoFar (lines ahead : List (List ℕ)) (first : Field) (fs : List Field) (number : ℕ) (so_plain at_first : Bool) : Type 0 where
  pub some : fs ≢ []
  pub fields : so_far fs (grouped ahead) ≡ so_far (first ∷ []) (grouped lines)
  pub fault : option_map (λ i. i + (number + 1)) (position is_misplaced ahead) ≡ option_map (λ i. i + 2) (position is_misplaced lines)
  pub few : length ahead + number ≤ 65535
  pub plain : so_plain ≡ true → (at_first ≡ true) × (list_any has_other_byte ahead ≡ list_any has_other_byte lines)

next-number : (o : Option ℕ) (n : ℕ) → option_map (λ i. i + (n + 1)) (option_map (λ i. i + 1) o) ≡ option_map (λ i. i + ((n + 1) + 1)) o
next-number None n = refl
next-number (Some i) n = ap Some (omega arith)

module _ {lines ahead : List (List ℕ)} {line : List ℕ} {first : Field} {fs : List Field} {number : ℕ} {so_plain at_first : Bool} (cut : CutSoFar lines (line ∷ ahead) first fs number so_plain at_first) where
  pub cut-more : (new : List Field) (still : Bool) → is_misplaced line ≡ false → new ≢ [] → ((g : Grouped) → so_far new g ≡ so_far fs (with_line line (heading_of line) g))
      → (still ≡ true → (so_plain ≡ true) × (has_other_byte line ≡ false)) → CutSoFar lines ahead first new (number + 1) still at_first
  cut-more new still fine more same known = record {
    some = more;
    fields = same (grouped ahead) ∙ cut.fields;
    fault = sym (next-number (position is_misplaced ahead) number) ∙ (sym (ap (option_map (λ i. i + (number + 1))) (position-later is_misplaced line ahead fine)) ∙ cut.fault);
    few = omega (arith, cut.few);
    plain = λ now.
        let h = known now in
        let before = cut.plain h.0 in
        (before.0, ap (λ b. b || list_any has_other_byte ahead) (sym h.1) ∙ before.1);
  }

  pub cut-stops : is_misplaced line ≡ true → option_map (λ i. i + 2) (position is_misplaced lines) ≡ Some (number + 1)
  cut-stops bad = sym cut.fault ∙ (ap (option_map (λ i. i + (number + 1))) (position-here is_misplaced line ahead bad) ∙ ap Some (omega arith))

none-from-map : {A B : Type 0} (f : A → B) (o : Option A) → None ≡ option_map f o → o ≡ None
none-from-map f None e = refl
none-from-map f (Some x) e = absurd (cc e)

module _ {lines : List (List ℕ)} {first : Field} {fs : List Field} {number : ℕ} {so_plain at_first : Bool} (cut : CutSoFar lines [] first fs number so_plain at_first) where
  pub cut-all : fs ≡ so_far (first ∷ []) (grouped lines)
  cut-all = sym (append-nil fs) ∙ (sym (nothing-continued fs [] cut.some) ∙ cut.fields)

  pub none-misplaced : position is_misplaced lines ≡ None
  none-misplaced = none-from-map (λ i. i + 2) (position is_misplaced lines) cut.fault

  pub all-plain : so_plain ≡ true → (at_first ≡ true) × (list_any has_other_byte lines ≡ false)
  all-plain known = let h = cut.plain known in (h.0, sym h.1)
