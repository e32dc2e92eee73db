-- Which entry a line takes.
use Rattle.std.specs.Prelude.{ℕ, ◌+◌, ◌==◌, ◌&&◌, Bool, not, List, [], ◌∷◌, ◌++◌, length, map, slice_get, Option, Some, None, option_map, neg_ℤ}
use Rattle.std.specs.List.{filter, list_any, range_with_len}
use Rattle.std.specs.Option.{option_to_list}
use Rattle.std.specs.Ordering.{int_eq}
use Rattle.std.specs.Str.{bytes_eq}
use Rattle.mt950.specs.Entry.{effect_of}
use Rattle.mt950.specs.declared.entry.Line61.{Line61}
use Rattle.statement.specs.Lines.{Placed}

-- An entry of ours and a line of theirs tell of one payment: the one adds to our balance what the other takes from it in theirs, and
-- value date and reference are the same.
abbrev pub matches : Line61 → Placed → Bool
matches their ours =
    int_eq (neg_ℤ (effect_of their)) (effect_of ours.line) && (int_eq their.value.0 ours.line.value.0 && bytes_eq their.reference ours.line.reference)

-- two lines of theirs say the same, so that the same entries match them
abbrev pub says_same : Line61 → Line61 → Bool
says_same line other =
    int_eq (effect_of other) (effect_of line) && (int_eq other.value.0 line.value.0 && bytes_eq other.reference line.reference)

-- The place of the entry that a line takes after others: of those that match it the one that has as many ahead of it as there are lines
-- ahead of this one that say the same.
abbrev pub line_partner : List Placed → List Line61 → Line61 → Option Placed
line_partner ours ahead line = slice_get (filter (matches line) ours) (length (filter (says_same line) ahead))

-- a line with a number and its entry, where it has one
abbrev pub pair_with : ℕ → Option Placed → List (ℕ × ℕ)
pair_with k partner = option_to_list (option_map (λ placed. (placed.place, k)) partner)

-- the pairs of lines, of which the first has number k and stands after others
abbrev pub line_pairs_from : List Placed → List Line61 → ℕ → List Line61 → List (ℕ × ℕ)
line_pairs_from ours ahead k [] = []
line_pairs_from ours ahead k (line ∷ lines) = pair_with k (line_partner ours ahead line) ++ line_pairs_from ours (ahead ++ line ∷ []) (k + 1) lines

-- the pairs of all lines: places of entries and numbers of lines, in the order of the lines
abbrev pub pairs_of : List Placed → List Line61 → List (ℕ × ℕ)
pairs_of ours theirs = line_pairs_from ours [] 1 theirs

-- the numbers of lines, from 1
abbrev pub line_numbers : List Line61 → List ℕ
line_numbers lines = range_with_len 1 (length lines)

-- the places of entries
abbrev pub entry_places : List Placed → List ℕ
entry_places ours = map (λ placed. placed.place) ours

-- an entry is in a pair
abbrev pub is_paired : List (ℕ × ℕ) → ℕ → Bool
is_paired pairs place = list_any (λ pair. pair.0 == place) pairs

-- the places of those that are in no pair
abbrev pub ours_left : List (ℕ × ℕ) → List Placed → List ℕ
ours_left pairs ours = filter (λ place. not (is_paired pairs place)) (entry_places ours)

-- the number of a line without an entry
abbrev pub alone : ℕ → Option Placed → List ℕ
alone k None = k ∷ []
alone k (Some placed) = []

-- the numbers of lines without an entry, where the first line has number k and stands after others
abbrev pub alone_from : List Placed → List Line61 → ℕ → List Line61 → List ℕ
alone_from ours ahead k [] = []
alone_from ours ahead k (line ∷ lines) = alone k (line_partner ours ahead line) ++ alone_from ours (ahead ++ line ∷ []) (k + 1) lines

-- the numbers of all lines without an entry
abbrev pub theirs_left : List Placed → List Line61 → List ℕ
theirs_left ours theirs = alone_from ours [] 1 theirs
