-- Fields written as lines.
use Rattle.std.specs.Prelude.{◌≡◌, ℕ, ◌+◌, ◌/◌, ◌%◌, ◌≤◌, false, List, [], ◌∷◌, ◌++◌, Option, Some, None, All, IfSome}
use Rattle.std.specs.Char.{is_ascii_uppercase}
use Rattle.std.specs.Prelude.{true}
use Rattle.fin_fields.specs.declared.field.Field.{Field}
use Rattle.corr_text.specs.Lines.{begins_with}
use Rattle.fin_fields.specs.Faults.{is_empty, has_other_byte}

-- a letter as text, nothing where there is none
abbrev pub letter_text : Option ℕ → List ℕ
letter_text None = []
letter_text (Some letter) = letter ∷ []

-- `:20:` or `:50K:`
abbrev pub heading_text : Field → List ℕ
heading_text f = 58 ∷ (48 + f.tag / 10) ∷ (48 + f.tag % 10) ∷ letter_text f.letter ++ 58 ∷ []

-- lines, each ended by CR LF
abbrev pub ended_lines : List (List ℕ) → List ℕ
ended_lines [] = []
ended_lines (line ∷ lines) = line ++ 13 ∷ 10 ∷ ended_lines lines

-- the text of a field
abbrev pub field_text : Field → List ℕ
field_text f = heading_text f ++ ended_lines f.lines

-- the text of fields
abbrev pub fields_text : List Field → List ℕ
fields_text [] = []
fields_text (f ∷ fs) = field_text f ++ fields_text fs

-- a line that may continue a field
abbrev pub Continues : List ℕ → Type 0
Continues line = (is_empty line ≡ false) × (begins_with 58 line ≡ false) × (begins_with 45 line ≡ false)

-- lines, the first of which may be anything
abbrev pub ContinueAll : List (List ℕ) → Type 0
ContinueAll [] = ⊥
ContinueAll (line ∷ lines) = All Continues lines

-- a field that a text may hold: its tag and letter are written in three characters, it has a line, all lines are of X,
-- and no line but the first is empty or begins with `:` or `-`
pub record IsField (f : Field) : Type 0 where
  pub tag : f.tag ≤ 99
  pub letter : IfSome f.letter (λ c. is_ascii_uppercase c ≡ true)
  pub lines : ContinueAll f.lines
  pub bytes : All (λ line. has_other_byte line ≡ false) f.lines
