-- The bytes of a journal, and what the bytes of a disk stand for.
use Rattle.std.specs.Prelude.{◌≡◌, ◌⊎◌, ℕ, ◌-◌, ◌≤◌, List, [], ◌∷◌, ◌++◌, length, map, take, drop, All}
use Rattle.jrn_file.specs.Reading.{most_record_bytes, with_length, opened_of, whole}

-- a record as it is appended: after its length, and a closed gate after it
abbrev pub frame_of : List ℕ → List ℕ
frame_of r = with_length r ++ 0 ∷ []

-- the record of a frame
abbrev pub record_in : List ℕ → List ℕ
record_in frame = take (length frame - 5) (drop 4 frame)

-- these bytes are a frame
pub record IsFrame (frame : List ℕ) : Type 0 where
  pub is : frame ≡ frame_of (record_in frame)
  pub fits : length (record_in frame) ≤ most_record_bytes

-- records, each after its gate
abbrev pub after_gates : List (ℕ × List ℕ) → List ℕ
after_gates [] = []
after_gates (entry ∷ more) = entry.0 ∷ (with_length entry.1 ++ after_gates more)

-- records as they are appended together: each after its length, an open gate in front of each but the first, and a closed gate after the last
abbrev pub frames_of : List ℕ → List (List ℕ) → List ℕ
frames_of first more = with_length first ++ (after_gates (map (λ r. (1, r)) more) ++ 0 ∷ [])

-- these bytes are the frames of these records
pub record AreFrames (frames first : List ℕ) (more : List (List ℕ)) : Type 0 where
  pub is : frames ≡ frames_of first more
  pub fits : All (λ r. length r ≤ most_record_bytes) (first ∷ more)

-- the journal of a header and records: each after the gate 1, and then a closed gate
abbrev pub journal_bytes : List ℕ → List (List ℕ) → List ℕ
journal_bytes head records = after_gates (map (λ r. (1, r)) (head ∷ records)) ++ 0 ∷ []

-- The bytes hold the journal of this header and these records: these are the whole records in front, after which a closed gate
-- stands. What follows it is anything.
abbrev pub StandsFor : List ℕ → List ℕ → List (List ℕ) → Type 0
StandsFor image head records = opened_of image ≡ whole (head ∷ records)

-- the bytes stand for these records, or for them with one more
abbrev pub IsBeforeOrAfter : List ℕ → List (List ℕ) → List ℕ → List ℕ → Type 0
IsBeforeOrAfter head records r image = StandsFor image head records ⊎ StandsFor image head (records ++ r ∷ [])

-- the bytes stand for these records, or for them with all of some more
abbrev pub IsBeforeOrAll : List ℕ → List (List ℕ) → List (List ℕ) → List ℕ → Type 0
IsBeforeOrAll head records more image = StandsFor image head records ⊎ StandsFor image head (records ++ more)
