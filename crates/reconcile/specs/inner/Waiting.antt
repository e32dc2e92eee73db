-- Entries that wait for a line, as the code keeps them.
use Rattle.std.specs.Prelude.{◌≡◌, ℕ, Bool, List, [], drop, map, if◌then◌else◌}
use Rattle.std.specs.List.{filter}
use Rattle.std.specs.Map.{lookup}
use Rattle.std.specs.Option.{option_map_or}
use Rattle.statement.specs.Running.{placed_by}
use Rattle.statement.specs.declared.movement.Movement.{Movement}
use Rattle.reconcile.specs.inner.Keys.{is_key, key_of}
use Rattle.reconcile.specs.declared.key.Key.{Key}
use Rattle.reconcile.specs.declared.waiting.Waiting.{Waiting}

-- an entry has a key
abbrev pub has_key : Key → Movement → Bool
has_key key m = is_key key (key_of (placed_by m).line)

-- the places of the entries with a key
abbrev pub places_with : Key → List Movement → List ℕ
places_with key entries = map (λ m. m.place) (filter (has_key key) entries)

-- the places that wait under a key, the first to be taken first
abbrev pub waiting_for : Waiting → Key → List ℕ
waiting_for waiting key = option_map_or (λ group. group.items) (lookup (is_key key) waiting.groups.entries) []

-- these entries wait, and no others
abbrev pub AllWait : List Movement → Waiting → Type 0
AllWait entries waiting = (key : Key) → waiting_for waiting key ≡ places_with key entries

-- the first place of a key is no longer there, and those of other keys wait as they did
abbrev pub WithoutFirst : Key → Waiting → Waiting → Type 0
WithoutFirst key old new = (other : Key) → waiting_for new other ≡ drop (if is_key key other then 1 else 0) (waiting_for old other)
