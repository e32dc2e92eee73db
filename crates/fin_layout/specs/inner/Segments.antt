-- Fields grouped by place: what a writer writes.
use Rattle.std.specs.Prelude.{◌≡◌, ℕ, ◌+◌, ◌≤◌, ◌⊎◌, List, [], ◌∷◌, ◌++◌, length, replicate, Some}
use Rattle.std.specs.List.{AllByRecursion}
use Rattle.fin_fields.specs.declared.field.Field.{Field}
use Rattle.fin_layout.specs.declared.place.Place.{Place}
use Rattle.fin_layout.specs.Order.{free_after, place_from}

-- the first place, from `low` on, where a field may stand
abbrev pub IsFirst : List Place → ℕ → ℕ → Field → Type 0
IsFirst order low j f = place_from order low f ≡ Some j

-- fields that take a place where all places below `low` are passed: one at most, or several where several may stand
pub record Segment (order : List Place) (low j : ℕ) (fs : List Field) : Type 0 where
  pub each : AllByRecursion (IsFirst order low j) fs
  pub single : (free_after order j ≡ j) ⊎ (length fs ≤ 1)

-- which places are surely passed after a segment: those that were, or with a field in it also its own
abbrev pub ArePassed : List Place → ℕ → ℕ → List Field → ℕ → Type 0
ArePassed order low j fs next = (next ≤ low) ⊎ ((1 ≤ length fs) × (next ≤ free_after order j))

-- the fields of each place from j on, in turn
abbrev pub Segments : List Place → ℕ → ℕ → List (List Field) → Type 0
Segments order low j [] = Unit {0}
Segments order low j (s ∷ ss) = Segment order low j s × ((next : ℕ) × ArePassed order low j s next × Segments order next (j + 1) ss)

-- the places of fields that are grouped so
abbrev pub places_of : ℕ → List (List Field) → List ℕ
places_of j [] = []
places_of j (s ∷ ss) = replicate (length s) j ++ places_of (j + 1) ss
