-- All that the commit of a batch tells, of a disk with these members.
use Rattle.std.specs.Prelude.{◌≡◌, ℕ, ◌+◌, true, List, ◌++◌}
use Rattle.std.specs.List.{list_all}
use Rattle.day_model.specs.declared.entry.Entry.{Entry}
use Rattle.acct_locks.specs.Holdings.{Holding, held_with}
use Rattle.jrn_book.specs.Answers.{Answer}
use Rattle.jrn_book.specs.Batches.{Stage, all_booked, is_memory}
use Rattle.jrn_book.specs.Book.{Book}

-- what the next answer of a book is given by, whose disk has this count of faults
abbrev pub stage_of : {D : Type 0} → Book D → ℕ → Stage
stage_of book faults = record { history = book.history; failed = book.failed; faults = faults }

-- Entries that a batch added, in their order, and what their legs added to the held purses.
pub record Adds (history now : List Entry) (held after : List Holding) : Type 0 where
  pub added : List Entry
  pub history_is : now ≡ history ++ added
  pub held_is : after ≡ held_with (all_booked added) held

-- want of memory: every answer is that, and all is as before
pub record IsUntried {D : Type 0} (old new : Book D) (held after : List Holding) (answers : List Answer) : Type 0 where
  pub all : list_all is_memory answers ≡ true
  pub history : new.history ≡ old.history
  pub file : new.file ≡ old.file
  pub purses : after ≡ held
