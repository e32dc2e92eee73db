-- What stands on a disk before a journal is made on it.
use Rattle.std.specs.Prelude.{◌≡◌, ◌≢◌, ◌⊎◌, ℕ, ◌+◌, ◌-◌, ◌<◌, ◌≤◌, List, [], ◌∷◌, ◌++◌, length, take, drop, if◌then◌else◌, ◌==◌}
use Rattle.std.specs.Int.{div_ceil}
use Rattle.jrn_file.specs.Journal.{journal_bytes, StandsFor}

-- more than one byte, of which this is the first, and no closed gate
pub record IsOther (bytes : List ℕ) (first : ℕ) : Type 0 where
  pub more : 1 < length bytes
  pub first_is : take 1 bytes ≡ first ∷ []
  pub not_closed : first ≢ 0

-- at most one byte, or a closed gate in front: a journal may be made here
abbrev pub IsUnmade : List ℕ → Type 0
IsUnmade image = (length image ≤ 1) ⊎ (take 1 image ≡ 0 ∷ [])

-- nothing made yet, or the journal of this header and these records
abbrev pub IsUnmadeOrMadeWith : List ℕ → List (List ℕ) → List ℕ → Type 0
IsUnmadeOrMadeWith head records image = IsUnmade image ⊎ StandsFor image head records

-- nothing made yet, or the journal of this header
abbrev pub IsUnmadeOrMade : List ℕ → List ℕ → Type 0
IsUnmadeOrMade head image = IsUnmadeOrMadeWith head [] image

-- the bytes of a new journal of this header and these records over these: what stands after its closed gate stays
abbrev pub made_with_over : List ℕ → List (List ℕ) → List ℕ → List ℕ
made_with_over head records bytes = journal_bytes head records ++ drop (length (journal_bytes head records)) bytes

-- the same without records
abbrev pub made_over : List ℕ → List ℕ → List ℕ
made_over head bytes = made_with_over head [] bytes

-- The calls that make a journal on a disk of these bytes: those that show its front, a write and a sync of a closed gate where
-- there is at most one byte, and the four that enter the header. Where something else stands there, those that show it alone.
abbrev pub calls_to_make : List ℕ → ℕ
calls_to_make [] = 7
calls_to_make (first ∷ []) = 7
calls_to_make (first ∷ second ∷ more) = if first == 0 then 6 else 2

-- the most bytes of one write of records
abbrev pub most_piece_bytes : ℕ
most_piece_bytes = 1048576

-- The calls that make a journal of so many bytes on a disk of these, by pieces of so many: those that show its front, a write and a sync
-- of a closed gate where there is at most one byte, a write of each piece of what stands after the first gate, a sync, a write of that
-- gate, and a sync. Where something else stands there, those that show it alone.
abbrev pub calls_to_make_with : ℕ → ℕ → List ℕ → ℕ
calls_to_make_with piece size [] = 6 + div_ceil (size - 1) piece
calls_to_make_with piece size (first ∷ []) = 6 + div_ceil (size - 1) piece
calls_to_make_with piece size (first ∷ second ∷ more) = if first == 0 then 5 + div_ceil (size - 1) piece else 2
