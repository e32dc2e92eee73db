-- A page with its notes written as fields.
use Rattle.std.specs.Prelude.{ℕ, List, [], ◌∷◌, ◌++◌, None, if◌then◌else◌}
use Rattle.fin_fields.specs.declared.field.Field.{Field}
use Rattle.fin_contents.specs.Writing.{lines_fields}
use Rattle.mt950.specs.Writing.{fields_950}
use Rattle.mt940_out.specs.Order.{is_line}
use Rattle.mt940_out.specs.declared.page.Page940.{Page940}

-- the note of the next 61
abbrev pub first_note : List (List (List ℕ)) → List (List ℕ)
first_note [] = []
first_note (note ∷ notes) = note

-- the notes of the others
abbrev pub other_notes : List (List (List ℕ)) → List (List (List ℕ))
other_notes [] = []
other_notes (note ∷ notes) = notes

-- fields, each 61 with its note behind it: as an 86, or nothing where the note has no line
abbrev pub with_notes : List (List (List ℕ)) → List Field → List Field
with_notes notes [] = []
with_notes notes (f ∷ fs) =
    if is_line f then f ∷ lines_fields 86 None (first_note notes) ++ with_notes (other_notes notes) fs
    else f ∷ with_notes notes fs

-- the fields of a page: those of its MT950, each 61 with its note
abbrev pub fields_940 : Page940 → List Field
fields_940 p = with_notes p.notes (fields_950 p.page)
