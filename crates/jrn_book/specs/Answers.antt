-- What the answer of a commit tells, and what it leaves.
use Rattle.std.specs.Prelude.{◌≡◌, ◌⊎◌, ℕ, ◌+◌, ◌-◌, ◌<◌, ◌≤◌, Bool, true, false, List, [], length, slice_get, Option, Some, None, IsSome, Result, Ok, Err}
use Rattle.corr_text.specs.Faults.{Rose}
use Rattle.corr_ids.specs.declared.day.Day.{Day}
use Rattle.corr_disk.specs.Disk.{most_disk_bytes}
use Rattle.day_model.specs.declared.pay.Leg.{Leg}
use Rattle.day_model.specs.declared.pay.Pay.{Pay}
use Rattle.day_model.specs.declared.entry.Entry.{Entry}
use Rattle.day_model.specs.Balance.{outcome_of}
use Rattle.day_model.specs.Chart.{Chart}
use Rattle.day_model.specs.Log.{most_entries}
use Rattle.day_model.specs.Next.{entered_at, entry_of, next_history}
use Rattle.day_model.specs.Same.{is_same_pay}
use Rattle.day_model.specs.Totals.{booked_legs}
use Rattle.jrn_codec.specs.Record.{entry_bytes}
use Rattle.jrn_book.specs.declared.answer.Failed.{Failed}
use Rattle.jrn_book.specs.declared.answer.Committed.{Committed}
use Rattle.jrn_book.specs.declared.answer.Committed.TheVariants.{New, Kept}
use Rattle.jrn_book.specs.declared.answer.CommitFault.{CommitFault}
use Rattle.jrn_book.specs.declared.answer.CommitFault.TheVariants.{Conflict, Full, DiskFault, Broken, Memory}
use Rattle.jrn_book.specs.Journal.{file_of}

-- what a commit answers
abbrev pub Answer : Type 0
Answer = Result Committed CommitFault

-- the reference is entered at this place, and whether the pay there is the same is as said
pub record StandsAt (history : List Entry) (pay : Pay) (place : ℕ) (same : Bool) : Type 0 where
  pub entry : Entry
  pub first : entered_at pay.mir history ≡ Some place
  pub there : slice_get history (place - 1) ≡ Some entry
  pub is_same : is_same_pay pay entry.pay ≡ same

-- the bytes that a pay's record adds to the file, and one for the gate after it
abbrev pub need_of : Chart → List Entry → Pay → Day → ℕ
need_of chart history pay day = length (entry_bytes (entry_of chart history pay day)) + 6

-- there is room for the entry in the history, and after this place in the file
pub record HasRoomFor (history : List Entry) (end need : ℕ) : Type 0 where
  pub entries : length history < most_entries
  pub bytes : end + need ≤ most_disk_bytes

-- there is none
abbrev pub IsFull : List Entry → ℕ → ℕ → Type 0
IsFull history end need = (length history ≡ most_entries) ⊎ (most_disk_bytes < end + need)

-- A pay is new after a history and finds no room there, since it has the most entries, or the file would have more than 2^30 bytes.
-- The numbers are those of that history: how many entries, the place of the closed gate, and the bytes that this pay needs.
pub record FindsNoRoom (chart : Chart) (history : List Entry) (pay : Pay) (day : Day) (entries end need : ℕ) : Type 0 where
  pub new : entered_at pay.mir history ≡ None
  pub entries_are : entries ≡ length history
  pub end_is : end + 1 ≡ length (file_of chart history)
  pub need_is : need ≡ need_of chart history pay day
  pub full : IsFull history end need

-- What an answer to a pay on a day tells of the history before it, the place `end` of the closed gate, and the disk's count of
-- faults at the opening, before the call and after it. Each case says that those before it in the order don't hold: a commit
-- failed before, memory is wanting, the reference is entered, there is no room, the disk failed.
abbrev pub AnswerShows : Chart → List Entry → Pay → Day → ℕ → Option Failed → ℕ → ℕ → ℕ → Answer → Type 0
AnswerShows chart history pay day end failed at_open old new (Err (Broken from now)) =
    IsSome failed × (from ≡ at_open) × (now ≡ new) × Rose from now × (new ≡ old)
AnswerShows chart history pay day end failed at_open old new (Err Memory) = (failed ≡ None) × (new ≡ old)
AnswerShows chart history pay day end failed at_open old new (Ok (Kept place outcome)) =
    (failed ≡ None) × (stands : StandsAt history pay place true) × (stands.entry.outcome ≡ outcome) × (new ≡ old)
AnswerShows chart history pay day end failed at_open old new (Err (Conflict place)) =
    (failed ≡ None) × StandsAt history pay place false × (new ≡ old)
AnswerShows chart history pay day end failed at_open old new (Err (Full entries at need)) =
    (failed ≡ None) × (entered_at pay.mir history ≡ None) × (entries ≡ length history) × (at ≡ end)
    × (need ≡ need_of chart history pay day) × IsFull history at need × (new ≡ old)
AnswerShows chart history pay day end failed at_open old new (Err (DiskFault before after)) =
    (failed ≡ None) × (entered_at pay.mir history ≡ None) × HasRoomFor history end (need_of chart history pay day)
    × (before ≡ old) × (after ≡ new) × Rose before after
AnswerShows chart history pay day end failed at_open old new (Ok (New place outcome)) =
    (failed ≡ None) × (entered_at pay.mir history ≡ None) × HasRoomFor history end (need_of chart history pay day)
    × (place ≡ length history + 1) × (outcome ≡ outcome_of chart history pay) × (new ≡ old)

-- the history after an answer
abbrev pub history_after : Chart → List Entry → Pay → Day → Answer → List Entry
history_after chart history pay day (Ok committed) = next_history chart history pay day
history_after chart history pay day (Err fault) = history

-- the legs that a commit adds to the purses: those of a new booked entry
abbrev pub legs_entered : Chart → List Entry → Pay → Day → Answer → List Leg
legs_entered chart history pay day (Ok (New place outcome)) = booked_legs (entry_of chart history pay day)
legs_entered chart history pay day (Ok (Kept place outcome)) = []
legs_entered chart history pay day (Err fault) = []

-- the failure of a commit, after this answer, where it was writing at most so many entries
abbrev pub failed_after : ℕ → Option Failed → Day → Answer → Option Failed
failed_after most failed day (Err (DiskFault before after)) = Some record { day = day; most = most }
failed_after most failed day _ = failed

-- whether the disk was called: a new entry was written, or the disk failed over it
abbrev pub calls_disk : Answer → Bool
calls_disk (Ok (New place outcome)) = true
calls_disk (Err (DiskFault before after)) = true
calls_disk _ = false

-- the answer isn't out of memory
abbrev pub IsAnswered : Answer → Type 0
IsAnswered (Ok committed) = Unit {0}
IsAnswered (Err Memory) = ⊥
IsAnswered (Err _) = Unit {0}
