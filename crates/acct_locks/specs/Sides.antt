-- The sides of a book: a pair for each account, credits and debits.
use Rattle.std.specs.Prelude.{List, []}
use Rattle.atomic_table.specs.Seated.{TableId}
use Rattle.day_model.specs.Totals.{Pair}

-- what contracts see of the sides: the table that they are of, and the pairs
pub record Sides : Type 0 where
  pub table : TableId
  pub pairs : List Pair

-- what a name of a table is where no call has picked one
abbrev pub no_table : TableId
no_table = record { words = 0; slots = 0; views_name = 0; atom = 0; block = 0; offset = 0; slot_names = [] }
