-- The order of an MT940's fields: that of an MT950, and directly behind each 61 one 86 or none.
use Rattle.std.specs.Prelude.{ℕ, ◌==◌, ◌&&◌, Bool, false, List, [], ◌∷◌, option_map, unwrap_or, if◌then◌else◌}
use Rattle.fin_fields.specs.Faults.{letter_of}
use Rattle.fin_fields.specs.declared.field.Field.{Field}
use Rattle.fin_layout.specs.Order.{free_after, place_from}
use Rattle.mt950.specs.Order.{order_950}

-- 61
abbrev pub is_line : Field → Bool
is_line f = (f.tag == 61) && (letter_of f == 32)

-- 86
abbrev pub is_note : Field → Bool
is_note f = (f.tag == 86) && (letter_of f == 32)

-- the place of an 86, behind those of an MT950
abbrev pub at_note : ℕ
at_note = 7

-- the places that fields take from `free` on, up to the first field that takes none: an 86 directly behind a 61 takes its own, and
-- all others take those of an MT950. `behind` tells whether the field before was a 61
unfoldable pub places_940 : ℕ → Bool → List Field → List ℕ
places_940 free behind [] = []
places_940 free behind (f ∷ fs) =
    if behind && is_note f then at_note ∷ places_940 free false fs
    else unwrap_or (option_map (λ k. k ∷ places_940 (free_after order_950 k) (is_line f) fs) (place_from order_950 free f)) []

-- the fields without each 86 that stands directly behind a 61
abbrev pub without_notes : Bool → List Field → List Field
without_notes behind [] = []
without_notes behind (f ∷ fs) = if behind && is_note f then without_notes false fs else f ∷ without_notes (is_line f) fs

-- the fields of the MT950 that an MT940 is without its 86
abbrev pub fields_beside : List Field → List Field
fields_beside fs = without_notes false fs

-- the lines of the 86 that a 61 is followed by, none where another field follows
abbrev pub note_behind : List Field → List (List ℕ)
note_behind [] = []
note_behind (f ∷ fs) = if is_note f then f.lines else []

-- of each 61 the lines of its 86
abbrev pub notes_of : List Field → List (List (List ℕ))
notes_of [] = []
notes_of (f ∷ fs) = if is_line f then note_behind fs ∷ notes_of fs else notes_of fs
