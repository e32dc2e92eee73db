-- Which of the messages that are sent pass the tests of a sent message.
use Rattle.std.specs.Prelude.{◌≡◌, ◌≤◌, ℕ, ◌+◌, All, List, Some, slice_get}
use Rattle.day_model.specs.Chart.{Chart}
use Rattle.day_model.specs.declared.entry.Entry.{Entry}
use Rattle.ref_tables.specs.Seen.{Tables}
use Rattle.advices.specs.Messages.{messages_of}
use Rattle.advices.specs.Valid.{IsAccepted}

-- each message that is sent of the entries from a place on passes the tests of a sent message under these tables
abbrev pub AreSentValid : Tables → Chart → ℕ → List Entry → Type 0
AreSentValid t chart from entries = (i : ℕ) (e : Entry) → from ≤ i + 1 → slice_get entries i ≡ Some e → All (IsAccepted chart.home t) (messages_of chart e (i + 1))
