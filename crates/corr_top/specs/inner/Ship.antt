-- The command `ship`: the records of the journal as packets.
use Rattle.std.specs.Prelude.{◌≡◌, ℕ, All, Bool, IsTrue, List, ◌++◌, map, nat_le}
use Rattle.std.specs.List.{list_all}
use Rattle.day_model.specs.declared.change.Change.{Change}
use Rattle.day_model.specs.declared.entry.Entry.{Entry}
use Rattle.day_model.specs.Changes.{are_in_order}
use Rattle.day_model.specs.Items.{items_from}
use Rattle.jrn_codec.specs.Change.{IsWhat}
use Rattle.jrn_codec.specs.Items.{item_bytes}

-- ---- the records, one after another

-- the records of the entries behind the first k, and of the changes that are left, in the order of the journal
abbrev pub records_from : ℕ → List Change → List Entry → List (List ℕ)
records_from k changes entries = map item_bytes (items_from k changes entries)

-- a change came after k entries or later
abbrev pub is_since : ℕ → Change → Bool
is_since k change = nat_le k change.after

-- changes that are left when the records of k entries are written: they are in order, none came earlier, and each has a record
pub record AreDue (k : ℕ) (changes : List Change) : Type 0 where
  pub order : IsTrue (are_in_order changes)
  pub since : IsTrue (list_all (is_since k) changes)
  pub written : All (λ change. IsWhat change.what) changes

-- records were added for changes that were left, and these changes no longer are: whatever entries come, all records stay the same
abbrev pub AddsDue : ℕ → List (List ℕ) → List Change → List (List ℕ) → List Change → Type 0
AddsDue k before changes records rest = (entries : List Entry) → records ++ records_from k rest entries ≡ before ++ records_from k changes entries
