-- Which of the messages that are sent pass the tests of a sent message.
use Rattle.std.specs.Prelude.{◌≡◌, ◌≤◌, ℕ, ◌+◌, List, Some, slice_get}
use Rattle.day_model.specs.Chart.{Chart}
use Rattle.day_model.specs.declared.entry.Entry.{Entry}
use Rattle.advices.specs.Messages.{messages_of}
use Rattle.advices.specs.Valid.{AreAccepted}

-- what is sent of each entry from a place on is accepted under the tables under which its pay came from a message
abbrev pub SendsAccepted : Chart → ℕ → List Entry → Type 0
SendsAccepted chart from entries = (i : ℕ) (e : Entry) → from ≤ i + 1 → slice_get entries i ≡ Some e → AreAccepted chart e.pay (messages_of chart e (i + 1))
