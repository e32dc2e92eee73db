-- The bytes of a journal, and what the bytes of a disk stand for.
use Rattle.std.specs.Prelude.{◌≢◌, ℕ, ◌≤◌, List, [], ◌∷◌, length}
use Rattle.jrn_file.specs.Reading.{most_record_bytes}

-- each gate is open, which any byte but 0 is, and no record is longer than one may be
abbrev pub AreOpen : List (ℕ × List ℕ) → Type 0
AreOpen [] = Unit {0}
AreOpen (entry ∷ more) = (entry.0 ≢ 0) × (length entry.1 ≤ most_record_bytes) × AreOpen more
