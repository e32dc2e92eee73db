-- What stands on the journal's disk, and what was done to it.
use Rattle.std.specs.Prelude.{◌≡◌, None, length}
use Rattle.acct_locks.specs.Holdings.{LooseHand}
use Rattle.corr_disk.specs.declared.disk.Disk as outside
use Rattle.day_model.specs.Chart.{accounts_of}
use Rattle.jrn_codec.specs.Header.{head_bytes}
use Rattle.jrn_file.specs.File.{IsSettled, disk_of}
use Rattle.jrn_book.specs.Book.{Book}
use Rattle.jrn_book.specs.Journal.{item_records}
use Rattle.corr_top.specs.OnDisk.{HoldsJournal, IsUnwritten, HasNotFailed}

module _ {D : Type 0} (d : outside.Ghosts D) where
  -- a disk's journal was opened: this book, in which no commit has failed, and its purses; nothing was written
  pub record HasOpened (disk : D) (book : Book D) (loose : LooseHand) : Type 0 where
    pub holds : (HoldsJournal d) disk book.accounts book.history
    pub whole : book.failed ≡ None
    pub settled : IsSettled d.honest d.reads d.may_leave book.file (head_bytes book.accounts) (item_records book.accounts book.history)
    pub table : loose.table ≡ book.table
    pub count : length loose.purses ≡ length (accounts_of book.accounts)
    pub untouched : (IsUnwritten d) disk (disk_of book.file)
    pub sure : (HasNotFailed d) disk (disk_of book.file)
