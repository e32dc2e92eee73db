-- What stands behind the journal's lock, and what holds of it wherever the lock is free.
use Rattle.std.specs.Prelude.{◌≡◌, ◌≤◌, ℕ, IsTrue, List, [], None, IfSome}
use Rattle.atomic_table.specs.Seated.{TableId}
use Rattle.corr_disk.specs.declared.disk.Disk as disks
use Rattle.corr_ids.specs.Day.{InCentury}
use Rattle.corr_ids.specs.declared.day.Day.{Day}
use Rattle.day_model.specs.declared.entry.Entry.{Entry}
use Rattle.day_model.specs.Laws.{IsLatest}
use Rattle.front_word.specs.Known.{WriterKnows}
use Rattle.front_word.specs.Rule.{AreTagged}
use Rattle.jrn_book.specs.Book.{Book, Counts}
use Rattle.jrn_file.specs.File.{disk_of}
use Rattle.corr_books.specs.Moments.{LeavesSince}
use Rattle.corr_books.specs.inner.Moments.{IsLeftInTurn}
use Rattle.corr_books.specs.Opening.{Opening}
use Rattle.corr_books.specs.Stand.{history_of}

-- the journal's book, the seat with which its entries are published, and the day that they get
pub record StandKnows (D : Type 0) : Type 0 where
  pub book : Book D
  pub writer : WriterKnows
  pub day : Day

-- Wherever the lock is free: the parts are those that the name names; nothing is owed to a pass, and none was taken back; the
-- history is that at the opening and the published entries, each tagged with a pass of the books; no entry has a later day than
-- the books, and a commit failed on that day, if one did, over no more entries than the name tells; the disk's count is that at the
-- opening but for that failure, and no less than the writer's mark. Of a disk that tells its bytes a crash at each moment since the
-- opening leaves the history then and a front part of what was entered, or the legal entries of one commit more after a failure, the same
-- ones whenever it comes.
pub record IsStand {D : Type 0} (disk : disks.Ghosts D) (o : Opening) (past : ℕ → List ℕ → Type 0) (purses : TableId) (s : StandKnows D) : Type 0 where
  pub accounts : s.book.accounts ≡ o.accounts
  pub purses_are : s.book.table ≡ purses
  pub at_open : s.book.at_open ≡ o.at_open
  pub honest : disk.honest (disk_of s.book.file) ≡ o.honest
  pub day : s.day ≡ o.day
  pub word : s.writer.table ≡ o.word
  pub base : s.writer.base ≡ o.base
  pub made : s.writer.made ≡ o.made
  pub owed : s.writer.owed ≡ None
  pub back : s.writer.back ≡ []
  pub history : s.book.history ≡ history_of o.base s.writer.acts
  pub tags : AreTagged o.made s.writer.acts
  pub century : InCentury o.day
  pub latest : IsLatest s.book.history o.day
  pub some : 1 ≤ o.most
  pub failed : IfSome s.book.failed (λ f. (f.day ≡ o.day) × (f.most ≤ o.most))
  pub counts : Counts s.book.failed s.book.at_open (disk.faults (disk_of s.book.file))
  pub mark : s.writer.mark ≤ disk.faults (disk_of s.book.file)
  pub crash : IsTrue o.honest → (more : List Entry) × LeavesSince disk o past (disk_of s.book.file) (IsLeftInTurn o.accounts o.base s.book.history s.book.failed more)
