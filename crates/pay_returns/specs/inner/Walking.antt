-- A text without fault, line by line, and its first field 20.
use Rattle.std.specs.Prelude.{ℕ, ◌==◌, ◌&&◌, Bool, true, false, not, List, [], ◌∷◌, is_some, Option, Some, None, option_and_then, unwrap_or, if◌then◌else◌}
use Rattle.std.specs.List.{list_all}
use Rattle.std.specs.Option.{option_map_or}
use Rattle.fin_fields.specs.Faults.{has_other_byte, is_misplaced}
use Rattle.fin_fields.specs.Fields.{Heading, heading_of}

-- what a line that says this gives to a field; none of a misplaced line
abbrev pub part_with : List ℕ → Option Heading → Option (List ℕ)
part_with line (Some h) = Some h.content
part_with line None = if is_misplaced line then None else Some line

-- what a line gives to a field: what stands behind its heading, or all of it
abbrev pub part_of : List ℕ → Option (List ℕ)
part_of line = part_with line (heading_of line)

-- a line that isn't misplaced and gives bytes of set X alone
abbrev pub is_sound_line : List ℕ → Bool
is_sound_line line = option_map_or (λ part. not (has_other_byte part)) (part_of line) false

-- the first line begins a field
abbrev pub begins_field : List (List ℕ) → Bool
begins_field [] = false
begins_field (line ∷ lines) = is_some (heading_of line)

-- lines without fault
abbrev pub are_sound_lines : List (List ℕ) → Bool
are_sound_lines lines = begins_field lines && list_all is_sound_line lines

-- a line begins field 20
abbrev pub begins_20 : Heading → Bool
begins_20 h = (h.tag == 20) && (32 == unwrap_or h.letter 32)

-- the content of a line that begins field 20
abbrev pub content_20 : Option Heading → Option (List ℕ)
content_20 (Some h) = if begins_20 h then Some h.content else None
content_20 None = None

-- the content of the line that begins the first field 20, and the lines after it
abbrev pub first_20 : List (List ℕ) → Option (List ℕ × List (List ℕ))
first_20 [] = None
first_20 (line ∷ lines) = option_map_or (λ content. Some (content, lines)) (content_20 (heading_of line)) (first_20 lines)

-- a field goes no further: there is no line, or one that begins another field
abbrev pub ends_there : List (List ℕ) → Bool
ends_there [] = true
ends_there (line ∷ lines) = is_some (heading_of line)

-- the only line of the first field 20
abbrev pub only_line_20 : List (List ℕ) → Option (List ℕ)
only_line_20 lines = option_and_then (λ begun. if ends_there begun.1 then Some begun.0 else None) (first_20 lines)
