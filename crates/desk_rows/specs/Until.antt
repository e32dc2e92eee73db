-- Entries up to a day.
use Rattle.std.specs.Prelude.{Bool, true, List, filter, Option, Some, None, int_le}
use Rattle.corr_ids.specs.declared.day.Day.{Day}
use Rattle.day_model.specs.declared.entry.Entry.{Entry}
use Rattle.day_model.specs.Chart.{Chart, IsChart}
use Rattle.day_model.specs.Laws.{BalancesCancel}
use Rattle.day_model.specs.Legal.{IsLegal}

-- an entry is of no later day than one that is told
abbrev pub is_until : Option Day → Entry → Bool
is_until None entry = true
is_until (Some day) entry = int_le entry.day.0 day.0

-- the entries up to a day; all where none is told
abbrev pub entries_until : Option Day → List Entry → List Entry
entries_until until entries = filter (is_until until) entries

-- after the entries of a legal history up to a day the balances of each currency sum to 0
abbrev pub BalancesCancelUntil : Type 0
BalancesCancelUntil = (chart : Chart) (entries : List Entry) (until : Option Day) → IsChart chart → IsLegal chart entries → BalancesCancel chart (entries_until until entries)
