-- All that a commit tells, of a disk with these members.
use Rattle.std.specs.Prelude.{◌≡◌, ℕ, ◌+◌, ◌≤◌, Bool, true, false, IsTrue, List, length, Option, Some, None, OnOk}
use Rattle.corr_disk.specs.Calls.{AtMostCalls, CallsMade}
use Rattle.corr_disk.specs.Disk.{LeavesOnly}
use Rattle.corr_ids.specs.declared.day.Day.{Day}
use Rattle.day_model.specs.declared.pay.Pay.{Pay}
use Rattle.day_model.specs.Legal.{IsLegal}
use Rattle.acct_locks.specs.Holdings.{Holding, held_with}
use Rattle.jrn_file.specs.File.{IsSettled, disk_of, end_of}
use Rattle.jrn_codec.specs.Header.{head_bytes}
use Rattle.jrn_book.specs.Answers.{Answer, IsAnswered, AnswerShows, calls_disk, failed_after, history_after, legs_entered}
use Rattle.jrn_book.specs.Book.{Book}
use Rattle.jrn_book.specs.Journal.{IsBeforeOrNext, file_of, item_records}

-- The answer to a pay on a day, the book before and after, and what is held before and after: each part is a clause of `commit`.
pub record Commits {D : Type 0} (honest : D → Bool) (reads : D → List ℕ) (may_leave : D → List ℕ → Type 0) (moment : D → ℕ) (left_since : D → ℕ → List ℕ → Type 0)
    (faults : D → ℕ) (plan : D → ℕ → Option Bool) (old new : Book D) (held after : List Holding) (pay : Pay) (day : Day) (answer : Answer) : Type 0 where
  pub shows : AnswerShows old.accounts old.history pay day (end_of old.file) old.failed old.at_open (faults (disk_of old.file)) (faults (disk_of new.file)) answer
  pub entries : new.history ≡ history_after old.accounts old.history pay day answer
  pub purses : after ≡ held_with (legs_entered old.accounts old.history pay day answer) held
  pub same : new ≡ record old { history = new.history; file = new.file; failed = new.failed; room = new.room }
  pub fails : new.failed ≡ failed_after 1 old.failed day answer
  pub legal : IsLegal new.accounts new.history
  pub any_moment : old.failed ≡ None → IsTrue (honest (disk_of old.file)) → LeavesOnly moment left_since (disk_of old.file) (disk_of new.file) (IsBeforeOrNext old.accounts old.history pay day)
  pub durable : OnOk answer (IsSettled honest reads may_leave new.file (head_bytes old.accounts) (item_records old.accounts new.history))
  pub place : old.failed ≡ None → end_of old.file + 1 ≡ length (file_of old.accounts old.history)
  pub untouched : calls_disk answer ≡ false → new.file ≡ old.file
  pub calls : calls_disk answer ≡ true → OnOk answer (CallsMade 4 (plan (disk_of old.file)) (plan (disk_of new.file)))
  pub no_more_calls : AtMostCalls 4 (plan (disk_of old.file)) (plan (disk_of new.file))
  pub told : honest (disk_of new.file) ≡ honest (disk_of old.file)
  pub later : faults (disk_of old.file) ≤ faults (disk_of new.file)
  pub no_memory : old.room ≡ Some pay → IsAnswered answer
