-- The command `ship`: the records of the journal as packets.
use Rattle.std.specs.Prelude.{ℕ, List}
use Rattle.std.specs.List.{flat_map}
use Rattle.day_model.specs.declared.entry.Entry.{Entry}
use Rattle.day_model.specs.Chart.{Chart}
use Rattle.jrn_book.specs.Journal.{all_records}
use Rattle.standby.specs.Packets.{packets_of}

-- the last record that a command can name
abbrev pub most_shipped : ℕ
most_shipped = 1000000

-- texts one after the other, with nothing between them
abbrev pub joined_all : List (List ℕ) → List ℕ
joined_all texts = flat_map (λ text. text) texts

-- of the records of the journal, header first, the packets of those from one number to another that there are
abbrev pub shipped_out : ℕ → ℕ → Chart → List Entry → List ℕ
shipped_out from until chart history = joined_all (packets_of (all_records chart history) from until)
