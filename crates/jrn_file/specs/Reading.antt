-- What bytes hold, read as a journal.
use Rattle.std.specs.Prelude.{ℕ, zero, suc, ◌+◌, ◌==◌, ◌&&◌, ◌≡◌, Bool, not, List, [], ◌∷◌, ◌++◌, length, take, drop, slice_get, Some, nat_le, nat_lt, if◌then◌else◌}
use Rattle.std.specs.Int.{w32, to_be_bytes, from_be_bytes}
use Rattle.std.specs.Str.{bytes_eq}

-- a record has at most so many bytes
abbrev pub most_record_bytes : ℕ
most_record_bytes = 1048576

-- a record after the four bytes of its length
abbrev pub with_length : List ℕ → List ℕ
with_length r = to_be_bytes w32 (length r) ++ r

-- the record after an open gate: as many bytes as the four in front tell
abbrev pub record_at : List ℕ → List ℕ
record_at after = take (from_be_bytes w32 (take 4 after)) (drop 4 after)

-- These bytes begin with a record after its length, and a byte more, which is the next gate. A longer one than a record may be is none.
abbrev pub begins_with_record : List ℕ → List ℕ → Bool
begins_with_record after r = nat_le (length r) most_record_bytes && nat_lt (length (with_length r)) (length after) && bytes_eq (take (length (with_length r)) after) (with_length r)

-- a whole record stands after the gate
abbrev pub is_whole : List ℕ → Bool
is_whole after = begins_with_record after (record_at after)

-- The whole records in front, each after an open gate, which any byte but 0 is. They end at a closed gate, at an open one with
-- no whole record after it, or at the last byte. The first number bounds how many there are.
abbrev pub records_in : ℕ → List ℕ → List (List ℕ)
records_in zero bytes = []
records_in (suc n) [] = []
records_in (suc n) (gate ∷ after) =
    if not (gate == 0) && is_whole after then record_at after ∷ records_in n (drop (length (with_length (record_at after))) after) else []

-- how many bytes records take after their gates: the place of the gate after them
abbrev pub size_of : List (List ℕ) → ℕ
size_of [] = 0
size_of (r ∷ records) = 5 + length r + size_of records

-- what bytes are as a journal
pub data Reading : Type 0 where
  -- none: no whole record stands in front
  no_journal : Reading
  -- a header and records, up to a closed gate
  whole : (all : List (List ℕ)) → Reading
  -- a header and records, and then, at this place, an open gate with no whole record after it
  cut : (all : List (List ℕ)) (at : ℕ) → Reading

-- what bytes are that have these records in front, and the rest after them
abbrev pub reading_of : List (List ℕ) → List ℕ → Reading
reading_of [] rest = no_journal
reading_of (head ∷ records) rest = if bytes_eq (take 1 rest) (0 ∷ []) then whole (head ∷ records) else cut (head ∷ records) (size_of (head ∷ records))

-- the whole records in front of bytes
abbrev pub records_of : List ℕ → List (List ℕ)
records_of bytes = records_in (length bytes) bytes

-- what bytes hold: no journal, the header and the records up to the first closed gate, or those in front of damage
unfoldable pub opened_of : List ℕ → Reading
opened_of bytes = reading_of (records_of bytes) (drop (size_of (records_of bytes)) bytes)

-- the header and the records of a reading
abbrev pub all_of : Reading → List (List ℕ)
all_of no_journal = []
all_of (whole all) = all
all_of (cut all at) = all

-- each of these records stands in the bytes after its length and its gate, whose place is the size of those before it
abbrev pub AreAt : List ℕ → List (List ℕ) → Type 0
AreAt bytes all = (k : ℕ) (r : List ℕ) → slice_get all k ≡ Some r → take (length (with_length r)) (drop (size_of (take k all) + 1) bytes) ≡ with_length r
