-- One opening of books: what its name names.
use Rattle.std.specs.Prelude.{◌≡◌, ◌≤◌, ℕ, Bool, List}
use Rattle.atomic_table.specs.Seated.{TableId}
use Rattle.corr_disk.specs.declared.disk.Disk as disks
use Rattle.corr_ids.specs.declared.day.Day.{Day}
use Rattle.day_model.specs.declared.entry.Entry.{Entry}
use Rattle.day_model.specs.Chart.{Chart}
use Rattle.jrn_book.specs.Book.{Book}
use Rattle.jrn_file.specs.declared.file.JFile.{JFile}
use Rattle.jrn_file.specs.File.{disk_of}

-- The accounts, the history at the opening, the day that entries get, the disk's count of faults at the opening, its moment then and
-- whether it tells its bytes, how many passes there are, the table of the word, and how many entries come under one sync at most. None of
-- them changes while the books are open.
pub record Opening : Type 0 where
  pub accounts : Chart
  pub base : List Entry
  pub day : Day
  pub at_open : ℕ
  pub since : ℕ
  pub honest : Bool
  pub made : ℕ
  pub word : TableId
  pub most : ℕ

-- The parts of an opening that have no name yet: its accounts and history, the day, the disk's count of faults then, the open
-- file, and the tables of the word and of the purses.
pub record Parts (D : Type 0) : Type 0 where
  pub accounts : Chart
  pub base : List Entry
  pub day : Day
  pub at_open : ℕ
  pub file : JFile D
  pub word : TableId
  pub purses : TableId

-- those of a book that was just opened, for a day, with a word of this table
abbrev pub parts_from : {D : Type 0} → Book D → Day → TableId → Parts D
parts_from book day word = record {
  accounts = book.accounts;
  base = book.history;
  day = day;
  at_open = book.at_open;
  file = book.file;
  word = word;
  purses = book.table;
}

module _ {D : Type 0} (disk : disks.Ghosts D) where
  -- the opening of these parts, with so many passes, and at most so many entries under one sync
  abbrev pub opening_with : Parts D → ℕ → ℕ → Opening
  opening_with parts made most = record {
    accounts = parts.accounts;
    base = parts.base;
    day = parts.day;
    at_open = parts.at_open;
    since = disk.moment (disk_of parts.file);
    honest = disk.honest (disk_of parts.file);
    made = made;
    word = parts.word;
    most = most;
  }

  -- what a crash at some moment from an earlier one until the opening might have left of their disk
  abbrev pub past_of : Parts D → ℕ → List ℕ → Type 0
  past_of parts t image = disk.left_since (disk_of parts.file) t image

  -- these parts, with so many passes, are what the name names; it names at least one entry under one sync, and no less of what a crash
  -- might have left until then
  pub record IsNamed (opening : Opening) (past : ℕ → List ℕ → Type 0) (purses : TableId) (parts : Parts D) (made : ℕ) : Type 0 where
    pub opening_is : opening ≡ opening_with parts made opening.most
    pub some : 1 ≤ opening.most
    pub past_has : (t : ℕ) (image : List ℕ) → past_of parts t image → past t image
    pub purses_are : purses ≡ parts.purses
