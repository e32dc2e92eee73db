-- Lines as fields.
use Rattle.std.specs.Prelude.{ℕ, ◌+◌, ◌-◌, ◌*◌, ◌==◌, ◌&&◌, List, [], ◌∷◌, Option, Some, None, if◌then◌else◌}
use Rattle.std.specs.Char.{is_ascii_digit, is_ascii_uppercase}
use Rattle.fin_fields.specs.declared.field.Field.{Field}
use Rattle.corr_text.specs.Lines.{lines_of}

-- a text that is cut has at most so many lines, and so many fields: a line's number and a field's occurrence fit 16 bits
abbrev pub most_text_lines : ℕ
most_text_lines = 65535

-- what a line says that begins a field: the tag, the letter, and the field's first line
pub record Heading : Type 0 where
  pub tag : ℕ
  pub letter : Option ℕ
  pub content : List ℕ

-- after a tag and a letter: the second colon, and the field's first line
abbrev pub after_letter : ℕ → ℕ → List ℕ → Option Heading
after_letter tag letter [] = None
after_letter tag letter (c ∷ content) = if c == 58 then Some (record { tag = tag; letter = Some letter; content = content }) else None

-- after a tag: the second colon, or a capital letter and it
abbrev pub after_tag : ℕ → List ℕ → Option Heading
after_tag tag [] = None
after_tag tag (c ∷ rest) =
    if c == 58 then Some (record { tag = tag; letter = None; content = rest })
    else if is_ascii_uppercase c then after_letter tag c rest
    else None

-- what a line says that begins `:20:` or `:50K:`; none of any other line
abbrev pub heading_of : List ℕ → Option Heading
heading_of (c ∷ tens ∷ ones ∷ rest) =
    if (c == 58) && is_ascii_digit tens && is_ascii_digit ones then after_tag (10 * (tens - 48) + (ones - 48)) rest else None
heading_of _ = None

-- the lines that continue a field which began before them, and the fields that begin after those
pub record Grouped : Type 0 where
  pub continued : List (List ℕ)
  pub fields : List Field

-- the field that a line begins, with the lines after it
abbrev pub field_begun : Heading → List (List ℕ) → Field
field_begun h lines = record { tag = h.tag; letter = h.letter; lines = h.content ∷ lines }

-- a line put before lines that are grouped
abbrev pub with_line : List ℕ → Option Heading → Grouped → Grouped
with_line line (Some h) g = record { continued = []; fields = field_begun h g.continued ∷ g.fields }
with_line line None g = record { continued = line ∷ g.continued; fields = g.fields }

-- lines in groups: each line that begins a field, with the lines after it that begin none
abbrev pub grouped : List (List ℕ) → Grouped
grouped [] = record { continued = []; fields = [] }
grouped (line ∷ lines) = with_line line (heading_of line) (grouped lines)

-- the fields of a text
abbrev pub fields_of : List ℕ → List Field
fields_of text = (grouped (lines_of text)).fields
