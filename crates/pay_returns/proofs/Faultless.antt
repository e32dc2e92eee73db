-- A text has a fault exactly where one of its lines has.
use Rattle.std.proofs.Common.{◌≡◌, ℕ, ◌+◌, ◌&&◌, ◌||◌, not, Bool, true, false, cond, List, [], ◌∷◌, Option, Some, None, refl, sym, ap, ◌∙◌}
use Rattle.std.specs.Prelude.{is_some, option_map, option_and_then}
use Rattle.std.specs.List.{list_all, list_any, position}
use Rattle.std.specs.Option.{option_map_or}
use Rattle.std.proofs.lemmas.List.Quantifiers.{position-Some}
use Rattle.std.proofs.lemmas.Option.{slice_get-get_or}
use Rattle.corr_text.specs.First.{first_of}
use Rattle.corr_text.specs.Lines.{lines_of}
use Rattle.fin_fields.specs.Faults.{faulty_line, field_fault, has_other_byte, is_misplaced, is_outside_x, outside_x, outside_x_at}
use Rattle.fin_fields.specs.Fields.{Grouped, Heading, fields_of, grouped, heading_of, with_line}
use Rattle.fin_fields.specs.declared.fault.FieldFault.{FieldFault}
use Rattle.fin_fields.specs.declared.fault.FieldFault.TheVariants.{P20}
use Rattle.fin_fields.specs.declared.field.Field.{Field}
use Rattle.pay_returns.specs.inner.Walking.{are_sound_lines, is_sound_line, part_with}
use Rattle.pay_returns.proofs.Choices.{some-position}

-- a byte of grouped lines is outside set X
abbrev pub is_out : Grouped → Bool
is_out g = list_any has_other_byte g.continued || list_any is_outside_x g.fields

begun-line : (x m c f : Bool) → (not x && not (m || (c || f))) ≡ not ((false || m) || (false || ((x || c) || f)))
begun-line true true c f = refl
begun-line true false c f = refl
begun-line false true c f = refl
begun-line false false c f = refl

further-line : (w x m c f : Bool) → ((not w && not x) && not (m || (c || f))) ≡ not ((w || m) || ((x || c) || f))
further-line true x m c f = refl
further-line false true true c f = refl
further-line false true false c f = refl
further-line false false true c f = refl
further-line false false false c f = refl

sound-further : (w : Bool) (line : List ℕ) → option_map_or (λ part. not (has_other_byte part)) (cond w None (Some line)) false ≡ (not w && not (has_other_byte line))
sound-further true line = refl
sound-further false line = refl

sound-step : (line : List ℕ) (lines : List (List ℕ)) (o : Option Heading) → heading_of line ≡ o
    → (option_map_or (λ part. not (has_other_byte part)) (part_with line o) false && not (list_any is_misplaced lines || is_out (grouped lines)))
    ≡ not ((is_misplaced line || list_any is_misplaced lines) || is_out (with_line line o (grouped lines)))
sound-step line lines (Some h) e =
    let g = grouped lines in
    rw e (begun-line (has_other_byte h.content) (list_any is_misplaced lines) (list_any has_other_byte g.continued) (list_any is_outside_x g.fields))
sound-step line lines None e =
    let g = grouped lines in
    ap (λ (b : Bool). b && not (list_any is_misplaced lines || is_out g)) (sound-further (is_misplaced line) line)
    ∙ further-line (is_misplaced line) (has_other_byte line) (list_any is_misplaced lines) (list_any has_other_byte g.continued) (list_any is_outside_x g.fields)

-- all lines are sound exactly where none is misplaced and no byte is outside set X
pub sound-lines : (lines : List (List ℕ)) → list_all is_sound_line lines ≡ not (list_any is_misplaced lines || is_out (grouped lines))
sound-lines [] = refl
sound-lines (line ∷ lines) = ap (λ (b : Bool). is_sound_line line && b) (sound-lines lines) ∙ sound-step line lines (heading_of line) refl

-- ---- the faults

some-mapped : {A B : Type 0} (f : A → B) (o : Option A) → is_some (option_map f o) ≡ is_some o
some-mapped f None = refl
some-mapped f (Some x) = refl

outside-at : (fields : List Field) (o : Option ℕ) → position is_outside_x fields ≡ o → is_some (option_and_then (outside_x_at fields) o) ≡ is_some o
outside-at fields None e = refl
outside-at [] (Some i) e = absurd (cc e)
outside-at (f ∷ fields) (Some i) e =
    let there = position-Some is_outside_x (f ∷ fields) i f e in
    rw (slice_get-get_or (f ∷ fields) i f there.0) refl

some-outside : (fields : List Field) → is_some (outside_x fields) ≡ list_any is_outside_x fields
some-outside fields = outside-at fields (position is_outside_x fields) refl ∙ some-position is_outside_x fields

either : (a b : Option FieldFault) → is_some (first_of (a ∷ b ∷ [])) ≡ (is_some a || is_some b)
either (Some x) b = refl
either None (Some y) = refl
either None None = refl

-- the fault of lines whose first begins a field
first-begun : (line : List ℕ) (lines : List (List ℕ)) (h : Heading) → heading_of line ≡ Some h
    → (is_some (option_map (λ n. P20 n) (faulty_line (line ∷ lines))) || is_some (outside_x (grouped (line ∷ lines)).fields))
    ≡ (list_any is_misplaced (line ∷ lines) || is_out (grouped (line ∷ lines)))
first-begun line lines h e =
    let misplaced : is_some (option_map (λ n. P20 n) (option_map (λ i. i + 2) (position is_misplaced lines))) ≡ list_any is_misplaced lines =
    some-mapped (λ n. P20 n) (option_map (λ i. i + 2) (position is_misplaced lines)) ∙ some-mapped (λ i. i + 2) (position is_misplaced lines) ∙ some-position is_misplaced lines in
    let outside = some-outside (with_line line (Some h) (grouped lines)).fields in
    rw (e, misplaced, outside) refl

faultless-step : (line : List ℕ) (lines : List (List ℕ)) (o : Option Heading) → heading_of line ≡ o
    → (is_some o && list_all is_sound_line (line ∷ lines))
    ≡ not (is_some (option_map (λ n. P20 n) (faulty_line (line ∷ lines))) || is_some (outside_x (grouped (line ∷ lines)).fields))
faultless-step line lines (Some h) e = sound-lines (line ∷ lines) ∙ ap not (sym (first-begun line lines h e))
faultless-step line lines None e = rw e refl

of-lines : (lines : List (List ℕ)) → are_sound_lines lines ≡ not (is_some (option_map (λ n. P20 n) (faulty_line lines)) || is_some (outside_x (grouped lines).fields))
of-lines [] = refl
of-lines (line ∷ lines) = faultless-step line lines (heading_of line) refl

-- a text has no fault exactly where its lines are sound
pub faultless : (text : List ℕ) → are_sound_lines (lines_of text) ≡ not (is_some (field_fault text))
faultless text =
    of-lines (lines_of text) ∙ ap not (sym (either (option_map (λ n. P20 n) (faulty_line (lines_of text))) (outside_x (fields_of text))))
