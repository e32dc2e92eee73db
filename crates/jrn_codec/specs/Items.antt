-- The record of an item: of an entry or of a change.
use Rattle.std.specs.Prelude.{ℕ, List}
use Rattle.day_model.specs.declared.change.Item.{Item}
use Rattle.day_model.specs.declared.change.Item.TheVariants.{Entered, Changed}
use Rattle.jrn_codec.specs.Change.{IsWhat, change_bytes}
use Rattle.jrn_codec.specs.Record.{IsEntry, entry_bytes}

-- the record behind the header
abbrev pub item_bytes : Item → List ℕ
item_bytes (Entered entry) = entry_bytes entry
item_bytes (Changed what) = change_bytes what

-- what has one
abbrev pub IsItem : Item → Type 0
IsItem (Entered entry) = IsEntry entry
IsItem (Changed what) = IsWhat what
