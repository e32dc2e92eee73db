-- All that the commit of a batch tells, of a disk with these members.
use Rattle.std.specs.Prelude.{◌≡◌, ℕ, ◌+◌, ◌≤◌, Bool, true, false, IsTrue, List, length, Option, None}
use Rattle.std.specs.List.{list_any}
use Rattle.corr_disk.specs.Calls.{AtMostCalls, CallsMade}
use Rattle.corr_disk.specs.Disk.{LeavesOnly}
use Rattle.corr_ids.specs.declared.day.Day.{Day}
use Rattle.day_model.specs.declared.pay.Pay.{Pay}
use Rattle.acct_locks.specs.Holdings.{Holding}
use Rattle.jrn_file.specs.File.{disk_of, end_of}
use Rattle.jrn_book.specs.Answers.{Answer}
use Rattle.jrn_book.specs.Batches.{AnswersInTurn, IsBeforeOrEntered, is_disk_fault, is_memory, is_new}
use Rattle.jrn_book.specs.Book.{Book}
use Rattle.jrn_book.specs.Journal.{file_of}
use Rattle.jrn_book.specs.CommitsAll.{stage_of, Adds, IsUntried}

-- The answers to the pays of a batch, the book before and after, and what is held before and after: each part is a clause of `commit_all`.
pub record CommitsAll {D : Type 0} (moment : D → ℕ) (left_since : D → ℕ → List ℕ → Type 0) (honest : D → Bool)
    (faults : D → ℕ) (plan : D → ℕ → Option Bool) (old new : Book D) (held after : List Holding) (pays : List Pay) (day : Day) (answers : List Answer) : Type 0 where
  pub each : AnswersInTurn old.accounts day (length pays) old.at_open (stage_of old (faults (disk_of old.file))) pays answers (stage_of new (faults (disk_of new.file)))
  pub adds : Adds old.history new.history held after
  pub same : new ≡ record old { history = new.history; file = new.file; failed = new.failed; room = new.room }
  pub together : list_any is_disk_fault answers ≡ true → new.history ≡ old.history
  pub memory : list_any is_memory answers ≡ true → IsUntried old new held after answers
  pub any_moment : old.failed ≡ None → IsTrue (honest (disk_of old.file)) → LeavesOnly moment left_since (disk_of old.file) (disk_of new.file) (IsBeforeOrEntered old.accounts old.history pays day)
  pub place : old.failed ≡ None → end_of old.file + 1 ≡ length (file_of old.accounts old.history)
  pub untouched : list_any is_new answers ≡ false → list_any is_disk_fault answers ≡ false → new.file ≡ old.file
  pub calls : list_any is_new answers ≡ true → CallsMade 4 (plan (disk_of old.file)) (plan (disk_of new.file))
  pub no_more_calls : AtMostCalls 4 (plan (disk_of old.file)) (plan (disk_of new.file))
  pub told : honest (disk_of new.file) ≡ honest (disk_of old.file)
  pub later : faults (disk_of old.file) ≤ faults (disk_of new.file)
