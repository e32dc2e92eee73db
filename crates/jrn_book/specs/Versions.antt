-- The versions of a journal's records.
use Rattle.std.specs.Prelude.{ℕ, List, []}
use Rattle.day_model.specs.declared.change.Item.{Item}
use Rattle.day_model.specs.declared.change.Item.TheVariants.{Entered, Changed}
use Rattle.day_model.specs.Chart.{Chart}
use Rattle.jrn_codec.specs.Header.{head_bytes, head_bytes_1}
use Rattle.jrn_codec.specs.Items.{IsItem, item_bytes}
use Rattle.jrn_codec.specs.Record.{IsEntry, entry_bytes_1}
use Rattle.jrn_book.specs.declared.version.Version.{Version}
use Rattle.jrn_book.specs.declared.version.Version.TheVariants.{One, Two}

-- the number that a header has of its version
abbrev pub number_of : Version → ℕ
number_of One = 1
number_of Two = 2

-- the other version
abbrev pub other : Version → Version
other One = Two
other Two = One

-- the header of accounts
abbrev pub head_in : Version → Chart → List ℕ
head_in One chart = head_bytes_1 chart
head_in Two chart = head_bytes chart

-- the record of an item of version 1, which has none of a change
abbrev pub item_bytes_1 : Item → List ℕ
item_bytes_1 (Entered entry) = entry_bytes_1 entry
item_bytes_1 (Changed what) = []

-- which items have one
abbrev pub IsItem_1 : Item → Type 0
IsItem_1 (Entered entry) = IsEntry entry
IsItem_1 (Changed what) = ⊥

-- the record of an item
abbrev pub bytes_in : Version → Item → List ℕ
bytes_in One item = item_bytes_1 item
bytes_in Two item = item_bytes item

-- which items have one
abbrev pub HasBytes : Version → Item → Type 0
HasBytes One item = IsItem_1 item
HasBytes Two item = IsItem item
