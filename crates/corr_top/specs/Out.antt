-- The messages that leave, and the lines of entries.
use Rattle.std.specs.Prelude.{ℕ, ◌-◌, List, ◌++◌, codes, drop}
use Rattle.std.specs.List.{flat_map}
use Rattle.advices.specs.Messages.{messages_of}
use Rattle.day_model.specs.declared.entry.Entry.{Entry}
use Rattle.day_model.specs.Chart.{Chart}
use Rattle.corr_report.specs.Bookings.{booking_line}
use Rattle.corr_report.specs.Lines.{numbered}

-- messages one after the other, each followed by `$`
abbrev pub parted_all : List (List ℕ) → List ℕ
parted_all texts = flat_map (λ text. text ++ codes "$") texts

-- the outgoing messages of the entry at a place, each followed by `$`
abbrev pub entry_out : Chart → ℕ → Entry → List ℕ
entry_out chart place entry = parted_all (messages_of chart entry place)

-- those of all entries from a place on, in their order
abbrev pub sent_from : Chart → ℕ → List Entry → List ℕ
sent_from chart from entries = numbered (entry_out chart) from (drop (from - 1) entries)

-- the lines of all entries from a place on, as `bookings` has them
abbrev pub booked_from : Chart → ℕ → List Entry → List ℕ
booked_from chart from entries = numbered (booking_line chart) from (drop (from - 1) entries)
