-- A history that grew entry by entry, and its index.
use Rattle.std.specs.Prelude.{List, pos}
use Rattle.corr_ids.specs.declared.day.Day.{Day}
use Rattle.day_model.specs.Chart.{Chart}
use Rattle.day_model.specs.Laws.{IsLatest}
use Rattle.day_model.specs.Legal.{IsLegal}
use Rattle.day_model.specs.declared.entry.Entry.{Entry}
use Rattle.statement.specs.Index.{IsIndexOf}
use Rattle.statement.specs.Valid.{AreShaped}
use Rattle.statement.specs.declared.index.HistoryIndex.{HistoryIndex}

-- 3 June 2024
abbrev pub the_day : Day
the_day = record { 0 = pos 19877 }

-- a legal history whose pays can be written down, without an entry of a later day, and its index
pub record IsGrown (chart : Chart) (entries : List Entry) (index : HistoryIndex) : Type 0 where
  pub legal : IsLegal chart entries
  pub shaped : AreShaped entries
  pub latest : IsLatest entries the_day
  pub indexed : IsIndexOf index (record { chart = chart; entries = entries })
