-- Entries up to a day.
use Rattle.std.specs.Prelude.{List, [], Option, if◌then◌else◌}
use Rattle.corr_ids.specs.declared.day.Day.{Day}
use Rattle.day_model.specs.declared.entry.Entry.{Entry}
use Rattle.day_model.specs.declared.pay.Leg.{Leg}
use Rattle.day_model.specs.Totals.{booked_legs}
use Rattle.desk_rows.specs.Until.{is_until}

-- the legs that an entry books, where it is one of them
abbrev pub legs_until : Option Day → Entry → List Leg
legs_until until entry = if is_until until entry then booked_legs entry else []
