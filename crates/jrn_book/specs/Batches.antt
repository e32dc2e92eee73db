-- Batches: pays that are answered one after another, and whose entries come to the disk together.
use Rattle.std.specs.Prelude.{◌≡◌, ◌⊎◌, ℕ, ◌+◌, ◌-◌, ◌||◌, nat_le, Bool, true, false, List, [], ◌∷◌, ◌++◌, length, Option, Ok, Err, if◌then◌else◌}
use Rattle.corr_disk.specs.Disk.{most_disk_bytes}
use Rattle.corr_ids.specs.declared.day.Day.{Day}
use Rattle.day_model.specs.declared.pay.Leg.{Leg}
use Rattle.day_model.specs.declared.pay.Pay.{Pay}
use Rattle.day_model.specs.declared.entry.Entry.{Entry}
use Rattle.day_model.specs.Chart.{Chart}
use Rattle.day_model.specs.Log.{most_entries}
use Rattle.day_model.specs.Next.{entry_of, next_history}
use Rattle.day_model.specs.Totals.{booked_legs}
use Rattle.jrn_book.specs.Answers.{Answer, AnswerShows, failed_after, history_after}
use Rattle.jrn_book.specs.declared.answer.Failed.{Failed}
use Rattle.jrn_book.specs.declared.answer.Committed.TheVariants.{New, Kept}
use Rattle.jrn_book.specs.declared.answer.CommitFault.TheVariants.{DiskFault, Memory}
use Rattle.jrn_book.specs.Journal.{StandsForBook, file_of}

-- the most pays of a batch
abbrev pub most_batch : ℕ
most_batch = 1024

-- what an answer is given by: the history, the failure of a commit, if one failed, and the disk's count of faults
pub record Stage : Type 0 where
  pub history : List Entry
  pub failed : Option Failed
  pub faults : ℕ

-- the place of the closed gate of a history's file
abbrev pub gate_of : Chart → List Entry → ℕ
gate_of chart history = length (file_of chart history) - 1

-- what the next answer is given by, after this one to a pay of a batch of so many
abbrev pub stage_after : Chart → Day → ℕ → Stage → Pay → Answer → ℕ → Stage
stage_after chart day most stage pay answer now = record {
  history = history_after chart stage.history pay day answer;
  failed = failed_after most stage.failed day answer;
  faults = now;
}

-- Answers to the pays of a batch on a day, one after another, from a stage to another: each tells of the stage that those before it
-- lead to what the answer of a commit of its pay alone would tell.
abbrev pub AnswersInTurn : Chart → Day → ℕ → ℕ → Stage → List Pay → List Answer → Stage → Type 0
AnswersInTurn chart day most at_open stage [] [] last = last ≡ stage
AnswersInTurn chart day most at_open stage [] (answer ∷ answers) last = ⊥
AnswersInTurn chart day most at_open stage (pay ∷ pays) [] last = ⊥
AnswersInTurn chart day most at_open stage (pay ∷ pays) (answer ∷ answers) last =
    (now : ℕ) × AnswerShows chart stage.history pay day (gate_of chart stage.history) stage.failed at_open stage.faults now answer
    × AnswersInTurn chart day most at_open (stage_after chart day most stage pay answer now) pays answers last

-- an answer says that its pay was entered
abbrev pub is_new : Answer → Bool
is_new (Ok (New place outcome)) = true
is_new (Ok (Kept place outcome)) = false
is_new (Err fault) = false

-- an answer says that the disk failed over its pay
abbrev pub is_disk_fault : Answer → Bool
is_disk_fault (Ok committed) = false
is_disk_fault (Err (DiskFault before after)) = true
is_disk_fault (Err _) = false

-- an answer says that there was no memory
abbrev pub is_memory : Answer → Bool
is_memory (Ok committed) = false
is_memory (Err Memory) = true
is_memory (Err _) = false

-- there is no room for what a pay becomes: the history has the most entries that it may have, or the file would have more than 2^30 bytes
abbrev pub lacks_room : Chart → List Entry → Pay → Day → Bool
lacks_room chart history pay day =
    nat_le most_entries (length history) || nat_le (most_disk_bytes + 1) (length (file_of chart (history ++ entry_of chart history pay day ∷ [])))

-- a pay without room adds nothing; another does as on one thread
abbrev pub history_with : Chart → List Entry → Pay → Day → List Entry
history_with chart history pay day = if lacks_room chart history pay day then history else next_history chart history pay day

-- what one thread makes of pays, one after another, where it passes over those without room
abbrev pub entered_of : Chart → List Entry → List Pay → Day → List Entry
entered_of chart history [] day = history
entered_of chart history (pay ∷ pays) day = entered_of chart (history_with chart history pay day) pays day

-- the bytes stand for the history, or for the one after all of these pays on this day
abbrev pub IsBeforeOrEntered : Chart → List Entry → List Pay → Day → List ℕ → Type 0
IsBeforeOrEntered chart history pays day image =
    StandsForBook image chart history ⊎ StandsForBook image chart (entered_of chart history pays day)

-- the legs that entries book, one entry after another
abbrev pub all_booked : List Entry → List Leg
all_booked [] = []
all_booked (entry ∷ entries) = booked_legs entry ++ all_booked entries
