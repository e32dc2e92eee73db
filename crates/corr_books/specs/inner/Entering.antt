-- Pays are entered in the journal's book.
use Rattle.std.specs.Prelude.{◌≡◌, ℕ, ◌+◌, ◌≤◌, true, false, IsTrue, List, length, None}
use Rattle.std.specs.List.{list_all, list_any}
use Rattle.corr_disk.specs.Disk.{LeavesOnly}
use Rattle.corr_disk.specs.declared.disk.Disk as disks
use Rattle.corr_ids.specs.declared.day.Day.{Day}
use Rattle.day_model.specs.declared.pay.Pay.{Pay}
use Rattle.day_model.specs.Legal.{IsLegal}
use Rattle.jrn_book.specs.Answers.{Answer, AnswerShows, calls_disk, failed_after, history_after}
use Rattle.jrn_book.specs.Batches.{AnswersInTurn, IsBeforeOrEntered, is_disk_fault, is_memory, is_new}
use Rattle.jrn_book.specs.Book.{Book}
use Rattle.jrn_book.specs.CommitsAll.{stage_of}
use Rattle.jrn_book.specs.Journal.{IsBeforeOrNext, file_of}
use Rattle.jrn_file.specs.File.{disk_of, end_of}

-- What books use of a commit of at most so many entries: the answer and what it tells, the history, what stays, the failure, that the
-- history is legal, where the closed gate stood, that the disk's count of faults didn't fall, and what a crash leaves at each moment.
pub record Enters {D : Type 0} (disk : disks.Ghosts D) (day : Day) (most : ℕ) (old new : Book D) (pay : Pay) (answer : Answer) : Type 0 where
  pub shows : AnswerShows old.accounts old.history pay day (end_of old.file) old.failed old.at_open (disk.faults (disk_of old.file)) (disk.faults (disk_of new.file)) answer
  pub history : new.history ≡ history_after old.accounts old.history pay day answer
  pub accounts : new.accounts ≡ old.accounts
  pub table : new.table ≡ old.table
  pub at_open : new.at_open ≡ old.at_open
  pub failed : new.failed ≡ failed_after most old.failed day answer
  pub legal : IsLegal new.accounts new.history
  pub place : old.failed ≡ None → end_of old.file + 1 ≡ length (file_of old.accounts old.history)
  pub later : disk.faults (disk_of old.file) ≤ disk.faults (disk_of new.file)
  pub honest : disk.honest (disk_of new.file) ≡ disk.honest (disk_of old.file)
  pub file : calls_disk answer ≡ false → new.file ≡ old.file
  pub any_moment : old.failed ≡ None → IsTrue (disk.honest (disk_of old.file))
      → LeavesOnly disk.moment disk.left_since (disk_of old.file) (disk_of new.file) (IsBeforeOrNext old.accounts old.history pay day)

-- What books use of a commit of a batch: the answers, one after another, what stays, that the history before it is legal, that the
-- disk's count of faults didn't fall, what changes at want of memory, where the disk failed and where nothing was entered, and what a crash
-- leaves at each moment.
pub record EntersAll {D : Type 0} (disk : disks.Ghosts D) (day : Day) (old new : Book D) (pays : List Pay) (answers : List Answer) : Type 0 where
  pub each : AnswersInTurn old.accounts day (length pays) old.at_open (stage_of old (disk.faults (disk_of old.file))) pays answers (stage_of new (disk.faults (disk_of new.file)))
  pub legal : IsLegal old.accounts old.history
  pub accounts : new.accounts ≡ old.accounts
  pub table : new.table ≡ old.table
  pub at_open : new.at_open ≡ old.at_open
  pub honest : disk.honest (disk_of new.file) ≡ disk.honest (disk_of old.file)
  pub later : disk.faults (disk_of old.file) ≤ disk.faults (disk_of new.file)
  pub together : list_any is_disk_fault answers ≡ true → new.history ≡ old.history
  pub no_memory : list_any is_memory answers ≡ true → (new.history ≡ old.history) × (new.file ≡ old.file) × (list_all is_memory answers ≡ true)
  pub file : list_any is_new answers ≡ false → list_any is_disk_fault answers ≡ false → new.file ≡ old.file
  pub any_moment : old.failed ≡ None → IsTrue (disk.honest (disk_of old.file))
      → LeavesOnly disk.moment disk.left_since (disk_of old.file) (disk_of new.file) (IsBeforeOrEntered old.accounts old.history pays day)
