-- Fields that are cut of a text without a fault can be written.
use Rattle.std.proofs.Common.{◌≡◌, ◌≢◌, ℕ, ◌+◌, ◌≤◌, ◌&&◌, ◌||◌, not, Bool, true, false, cond, List, [], ◌∷◌, get_or, position, option_map, option_and_then, is_some, slice_get, Option, Some, None, refl, arith}
use Rattle.std.specs.Prelude.{IfSome}
use Rattle.std.specs.Char.{is_ascii_uppercase}
use Rattle.std.specs.List.{All, list_any}
use Rattle.std.proofs.lemmas.Bool.{or_parts}
use Rattle.std.proofs.lemmas.List.Elements.{All-cons, All-head, All-tail}
use Rattle.std.proofs.lemmas.List.Quantifiers.{position-Some}
use Rattle.std.proofs.lemmas.Option.{slice_get-get_or}
use Rattle.fin_fields.specs.declared.field.Field.{Field}
use Rattle.fin_fields.specs.declared.fault.FieldFault.{FieldFault}
use Rattle.corr_text.specs.Lines.{begins_with}
use Rattle.fin_fields.specs.Fields.{Grouped, Heading, field_begun, grouped, heading_of, with_line}
use Rattle.fin_fields.specs.Faults.{faulty_line, has_other_byte, is_empty, is_misplaced, is_outside_x, outside_x, outside_x_at}
use Rattle.fin_fields.specs.Writing.{Continues, ContinueAll, IsField}
use Rattle.fin_fields.proofs.laws.Bounds.{IsHeading, is-heading}
use Rattle.fin_fields.proofs.laws.Positions.{none-passes}

-- ---- no byte is at fault

all-fail : {X : Type 0} (p : X → Bool) (xs : List X) → list_any p xs ≡ false → All (λ x. p x ≡ false) xs
all-fail p [] e = λ k d lt. absurd (omega arith)
all-fail p (x ∷ xs) e =
    let parts = or_parts (p x) (list_any p xs) e in
    All-cons (λ x. p x ≡ false) x xs parts.0 (all-fail p xs parts.1)

no-place : (fs : List Field) (at : Option ℕ) → ((i : ℕ) → at ≡ Some i → outside_x_at fs i ≢ None) → option_and_then (outside_x_at fs) at ≡ None → at ≡ None
no-place fs None found e = refl
no-place fs (Some i) found e = absurd (found i refl e)

no-none : (f : Field → FieldFault) (o : Option Field) (g : Field) → o ≡ Some g → option_map f o ≢ None
no-none f o g e none = absurd (cc (rw e at none))

all-in_x : (fs : List Field) → outside_x fs ≡ None → All (λ f. is_outside_x f ≡ false) fs
all-in_x [] e = λ k d lt. absurd (omega arith)
all-in_x (f ∷ fs) e =
    none-passes is_outside_x (f ∷ fs)
    (no-place (f ∷ fs) (position is_outside_x (f ∷ fs))
    (λ i at. no-none _ (slice_get (f ∷ fs) i) (get_or (f ∷ fs) i f) (slice_get-get_or (f ∷ fs) i f (position-Some is_outside_x (f ∷ fs) i f at).0)) e)

-- ---- no line is at fault

-- a field that may be written, but for its bytes
record Shaped (f : Field) : Type 0 where
  tag : f.tag ≤ 99
  letter : IfSome f.letter (λ c. is_ascii_uppercase c ≡ true)
  lines : ContinueAll f.lines

record ShapedAll (g : Grouped) : Type 0 where
  continued : All Continues g.continued
  fields : All Shaped g.fields

continues : (line : List ℕ) → (is_empty line || begins_with 58 line || begins_with 45 line) ≡ false → Continues line
continues line e =
    let parts = or_parts (is_empty line || begins_with 58 line) (begins_with 45 line) e in
    let more = or_parts (is_empty line) (begins_with 58 line) parts.0 in
    (more.0, more.1, parts.1)

one-shaped : (line : List ℕ) (h : Option Heading) (g : Grouped) → IfSome h IsHeading
    → (not (is_some h) && (is_empty line || begins_with 58 line || begins_with 45 line)) ≡ false → ShapedAll g → ShapedAll (with_line line h g)
one-shaped line None g is placed s = record {
  continued = All-cons Continues line g.continued (continues line placed) s.continued;
  fields = s.fields;
}
one-shaped line (Some h) g is placed s = record {
  continued = λ k d lt. absurd (omega arith);
  fields = All-cons Shaped (field_begun h g.continued) g.fields (record { tag = is.tag; letter = is.letter; lines = s.continued }) s.fields;
}

all-shaped : (lines : List (List ℕ)) → All (λ line. is_misplaced line ≡ false) lines → ShapedAll (grouped lines)
all-shaped [] placed = record { continued = λ k d lt. absurd (omega arith); fields = λ k d lt. absurd (omega arith) }
all-shaped (line ∷ lines) placed =
    one-shaped line (heading_of line) (grouped lines) (is-heading line)
    (All-head (λ line. is_misplaced line ≡ false) line lines placed)
    (all-shaped lines (All-tail (λ line. is_misplaced line ≡ false) line lines placed))

begins : (h : Option Heading) (later : Option ℕ) → cond (is_some h) later (Some 1) ≡ None → (is_some h ≡ true) × (later ≡ None)
begins None later e = absurd (cc e)
begins (Some h) later e = (refl, e)

no-later : (o : Option ℕ) → option_map (λ i. i + 2) o ≡ None → o ≡ None
no-later None e = refl
no-later (Some i) e = absurd (cc e)

all-placed : (lines : List (List ℕ)) → faulty_line lines ≡ None → All (λ line. is_misplaced line ≡ false) lines
all-placed [] e = absurd (cc e)
all-placed (line ∷ lines) e =
    let parts = begins (heading_of line) (option_map (λ i. i + 2) (position is_misplaced lines)) e in
    All-cons (λ line. is_misplaced line ≡ false) line lines (rw parts.0 refl)
    (none-passes is_misplaced lines (no-later (position is_misplaced lines) parts.1))

some-field : (line : List ℕ) (h : Option Heading) (g : Grouped) → is_some h ≡ true → (with_line line h g).fields ≢ []
some-field line None g e = absurd (cc e)
some-field line (Some h) g e = λ none. absurd (cc none)

pub some-fields : (lines : List (List ℕ)) → faulty_line lines ≡ None → (grouped lines).fields ≢ []
some-fields [] e = absurd (cc e)
some-fields (line ∷ lines) e =
    some-field line (heading_of line) (grouped lines) ((begins (heading_of line) (option_map (λ i. i + 2) (position is_misplaced lines)) e).0)

pub all-fit : (lines : List (List ℕ)) → faulty_line lines ≡ None → outside_x (grouped lines).fields ≡ None → All IsField (grouped lines).fields
all-fit lines sound none = λ k d lt.
    let s = (all-shaped lines (all-placed lines sound)).fields k d lt in
    record {
      tag = s.tag;
      letter = s.letter;
      lines = s.lines;
      bytes = all-fail has_other_byte (get_or (grouped lines).fields k d).lines (all-in_x (grouped lines).fields none k d lt);
    }
