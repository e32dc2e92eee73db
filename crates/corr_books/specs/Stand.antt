-- What stands behind the journal's lock, and what holds of it wherever the lock is free.
use Rattle.std.specs.Prelude.{List, ◌++◌, map}
use Rattle.day_model.specs.declared.entry.Entry.{Entry}
use Rattle.front_word.specs.declared.view.Act.{Act}

-- the entries, without their tags
abbrev pub entries_of : List Act → List Entry
entries_of log = map (λ a. a.entry) log

-- the history that these entries make with those at the opening
abbrev pub history_of : List Entry → List Act → List Entry
history_of base log = base ++ entries_of log
