-- The rows of the table by currency and bank: where a bank's rows stand, without a look at the others.
use Rattle.std.specs.Prelude.{◌≡◌, ℕ, Bool, false, List, int_le, slice_get, if◌then◌else◌}
use Rattle.std.specs.Global.{Vec}
use Rattle.std.specs.List.{insert}
use Rattle.std.specs.Option.{option_map_or}
use Rattle.std.specs.Str.{bytes_eq}
use Rattle.corr_ids.specs.declared.day.Day.{Day}
use Rattle.ssi_versions.specs.declared.row.SsiRow.{SsiRow}
use Rattle.ssi_versions.specs.Index.{places_under}

-- there is an item at this place, and it passes
abbrev pub holds_at : {A : Type 0} → (A → Bool) → List A → ℕ → Bool
holds_at test xs i = option_map_or test (slice_get xs i) false

-- one more place is noted for this key, before the one that stands at `at`
abbrev pub NotesPlace : List (List ℕ × Vec ℕ) → List (List ℕ × Vec ℕ) → List ℕ → ℕ → ℕ → Type 0
NotesPlace old new key at place = (other : List ℕ) → places_under new other ≡ (if bytes_eq key other then insert (places_under old key) at place else places_under old other)

-- the row begins on this day or before
abbrev pub has_begun : Day → SsiRow → Bool
has_begun day r = int_le r.from.0 day.0
