-- What contracts see of an index.
use Rattle.std.specs.Prelude.{List, ◌++◌}
use Rattle.day_model.specs.Chart.{Chart}
use Rattle.day_model.specs.Legal.{IsLegal}
use Rattle.day_model.specs.declared.entry.Entry.{Entry}

-- the accounts of a book, and the entries of its history
pub record SeenBook : Type 0 where
  pub chart : Chart
  pub entries : List Entry

-- a legal history begins with these entries
abbrev pub IsFront : Chart → List Entry → Type 0
IsFront chart entries = (more : List Entry) × IsLegal chart (entries ++ more)
