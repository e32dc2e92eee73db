-- The first fault of a text: its lines, then its bytes.
use Rattle.std.specs.Prelude.{ℕ, ◌+◌, ◌/◌, ◌%◌, ◌==◌, ◌&&◌, ◌||◌, not, Bool, true, false, List, [], ◌∷◌, take, position, slice_get, count_by, Option, Some, None, option_map, option_and_then, unwrap_or, if◌then◌else◌, is_some}
use Rattle.std.specs.List.{list_any}
use Rattle.corr_text.specs.Answers.{Tells}
use Rattle.corr_text.specs.Sets.{is_x_byte}
use Rattle.corr_text.specs.First.{first_of}
use Rattle.fin_fields.specs.declared.field.Field.{Field}
use Rattle.fin_fields.specs.declared.fault.FieldFault.{FieldFault}
use Rattle.fin_fields.specs.declared.fault.FieldFault.TheVariants.{P20, P21, Memory}
use Rattle.corr_text.specs.Lines.{lines_of, begins_with}
use Rattle.fin_fields.specs.Fields.{heading_of, fields_of}

-- a line without a byte
abbrev pub is_empty : List ℕ → Bool
is_empty [] = true
is_empty (b ∷ bs) = false

-- a line that neither begins a field nor may continue one
abbrev pub is_misplaced : List ℕ → Bool
is_misplaced line = not (is_some (heading_of line)) && (is_empty line || begins_with 58 line || begins_with 45 line)

-- the first faulty line, from 1, and 0 where there is no line
abbrev pub faulty_line : List (List ℕ) → Option ℕ
faulty_line [] = Some 0
faulty_line (line ∷ lines) =
    if is_some (heading_of line) then option_map (λ i. i + 2) (position is_misplaced lines) else Some 1

-- the letter, and a space where there is none
abbrev pub letter_of : Field → ℕ
letter_of f = unwrap_or f.letter 32

-- two digits and the letter
abbrev pub tag_of : Field → List ℕ
tag_of f = (48 + f.tag / 10) ∷ (48 + f.tag % 10) ∷ letter_of f ∷ []

-- of the same tag and letter
abbrev pub is_like : Field → Field → Bool
is_like f g = (g.tag == f.tag) && (letter_of g == letter_of f)

-- how many fields of its tag and letter there are up to a place, itself among them
abbrev pub nth_of : List Field → ℕ → ℕ
nth_of fields at = unwrap_or (option_map (λ f. count_by (is_like f) (take (at + 1) fields)) (slice_get fields at)) 0

-- a line with a byte outside X
abbrev pub has_other_byte : List ℕ → Bool
has_other_byte line = list_any (λ b. not (is_x_byte b)) line

-- a field with a byte outside X
abbrev pub is_outside_x : Field → Bool
is_outside_x f = list_any has_other_byte f.lines

-- that fault at a place
abbrev pub outside_x_at : List Field → ℕ → Option FieldFault
outside_x_at fields at = option_map (λ f. P21 (tag_of f) (nth_of fields at)) (slice_get fields at)

-- the fault of a field with a byte outside X, the first such field
abbrev pub outside_x : List Field → Option FieldFault
outside_x fields = option_and_then (outside_x_at fields) (position is_outside_x fields)

-- the first fault of a text
abbrev pub field_fault : List ℕ → Option FieldFault
field_fault text = first_of (
    option_map (λ line. P20 line) (faulty_line (lines_of text))
    ∷ outside_x (fields_of text)
    ∷ [])

-- the fault that an error tells, none where memory is out
abbrev pub told : FieldFault → Option FieldFault
told Memory = None
told (P20 line) = Some (P20 line)
told (P21 tag nth) = Some (P21 tag nth)

-- a fault that is told is the first of the text, or out of memory
abbrev pub TellsFieldFault : List ℕ → FieldFault → Type 0
TellsFieldFault text e = Tells told (field_fault text) e
