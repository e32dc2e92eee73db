-- How a history grows.
use Rattle.std.specs.Prelude.{ℕ, Bool, List, [], ◌∷◌, ◌++◌, Option, is_some, if◌then◌else◌}
use Rattle.std.specs.Str.{bytes_eq}
use Rattle.std.specs.List.{position_from}
use Rattle.corr_ids.specs.declared.mir.Mir.{Mir}
use Rattle.corr_ids.specs.declared.day.Day.{Day}
use Rattle.day_model.specs.declared.pay.Pay.{Pay}
use Rattle.day_model.specs.declared.entry.Entry.{Entry}
use Rattle.day_model.specs.Chart.{Chart}
use Rattle.day_model.specs.Balance.{outcome_of}

-- an entry's pay has this reference
abbrev pub has_mir : Mir → Entry → Bool
has_mir mir entry = bytes_eq entry.pay.mir.0 mir.0

-- the place, from 1, of the first entry with this reference
abbrev pub entered_at : Mir → List Entry → Option ℕ
entered_at mir entries = position_from (has_mir mir) 1 entries

-- the entry that a pay becomes
abbrev pub entry_of : Chart → List Entry → Pay → Day → Entry
entry_of chart entries pay day = record { pay = pay; day = day; outcome = outcome_of chart entries pay }

-- a pay whose reference is entered adds nothing; another is added with its outcome
abbrev pub next_history : Chart → List Entry → Pay → Day → List Entry
next_history chart entries pay day =
    if is_some (entered_at pay.mir entries) then entries else entries ++ entry_of chart entries pay day ∷ []

-- a list of pays, one after another
abbrev pub fold_of : Chart → List Entry → List Pay → Day → List Entry
fold_of chart entries [] day = entries
fold_of chart entries (pay ∷ pays) day = fold_of chart (next_history chart entries pay day) pays day
