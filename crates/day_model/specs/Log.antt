-- What contracts see of a history.
use Rattle.std.specs.Prelude.{ℕ, List}
use Rattle.day_model.specs.declared.entry.Entry.{Entry}

-- the most entries that a history has
abbrev pub most_entries : ℕ
most_entries = 100000

-- the entries, and for how many more there is room
pub record Log : Type 0 where
  pub entries : List Entry
  pub spare : ℕ
