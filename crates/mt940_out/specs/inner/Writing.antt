-- A page with its notes written as fields.
use Rattle.std.specs.Prelude.{ℕ, ◌⊎◌, ◌≡◌, List, [], None}
use Rattle.fin_fields.specs.Writing.{IsField}
use Rattle.fin_contents.specs.Writing.{lines_field}

-- lines that can be a note: none, or those of an 86 that a text may hold
abbrev pub IsNote : List (List ℕ) → Type 0
IsNote note = (note ≡ []) ⊎ IsField (lines_field 86 None note)
