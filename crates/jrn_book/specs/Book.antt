-- What contracts see of a book, and what always holds of it.
use Rattle.std.specs.Prelude.{◌≡◌, ℕ, ◌≤◌, All, Bool, IsTrue, List, ◌++◌, length, Option, Some, None, IfSome}
use Rattle.atomic_table.specs.Seated.{TableId}
use Rattle.corr_text.specs.Faults.{Rose}
use Rattle.day_model.specs.declared.pay.Pay.{Pay}
use Rattle.day_model.specs.declared.entry.Entry.{Entry}
use Rattle.day_model.specs.Chart.{Chart, accounts_of}
use Rattle.day_model.specs.Legal.{IsLegal}
use Rattle.day_model.specs.Log.{Log}
use Rattle.day_model.specs.Totals.{HasTotals, Pair}
use Rattle.acct_locks.specs.Sides.{Sides}
use Rattle.jrn_file.specs.declared.file.JFile.{JFile}
use Rattle.jrn_file.specs.File.{disk_of, IsSettled}
use Rattle.jrn_codec.specs.Header.{head_bytes}
use Rattle.jrn_codec.specs.Record.{IsEntry}
use Rattle.jrn_book.specs.declared.answer.Failed.{Failed}
use Rattle.jrn_book.specs.Index.{References, references_of}
use Rattle.jrn_book.specs.Journal.{IsJournal, IsWithOrWithout, item_records}

-- The accounts and the history; the table of the purses that belong to it; the open file; the disk's count of faults at the
-- opening; the failure of a commit, if one failed; and for which pay there is room.
pub record Book (D : Type 0) : Type 0 where
  pub accounts : Chart
  pub history : List Entry
  pub table : TableId
  pub file : JFile D
  pub at_open : ℕ
  pub failed : Option Failed
  pub room : Option Pay

-- the count of faults of a book's disk: that at the opening, and one more where a commit failed
abbrev pub Counts : Option Failed → ℕ → ℕ → Type 0
Counts None at_open now = now ≡ at_open
Counts (Some failed) at_open now = Rose at_open now

-- After a commit that failed: each image stands for the history, or for it and all of the entries that were being written, which are
-- legal and of the day of that commit.
pub record IsLeftBy (honest : Bool) (may_leave : List ℕ → Type 0) (chart : Chart) (history : List Entry) (failed : Failed) : Type 0 where
  pub entries : List Entry
  pub few : length entries ≤ failed.most
  pub days_are : All (λ e. e.day ≡ failed.day) entries
  pub written : All IsEntry entries
  pub legal : IsLegal chart (history ++ entries)
  pub images : IsTrue honest → (image : List ℕ) → may_leave image → IsWithOrWithout chart history entries image

module _ {D : Type 0} (honest : D → Bool) (reads : D → List ℕ) (may_leave : D → List ℕ → Type 0) where
  -- what a crash leaves of the book: its history alone, unless a commit failed
  abbrev pub StandsOnDisk : Option Failed → JFile D → Chart → List Entry → Type 0
  StandsOnDisk None file chart history = IsSettled honest reads may_leave file (head_bytes chart) (item_records chart history)
  StandsOnDisk (Some failed) file chart history = IsLeftBy (honest (disk_of file)) (may_leave (disk_of file)) chart history failed

  -- what holds of a book wherever it is seen
  pub record IsBook (faults : D → ℕ) (b : Book D) : Type 0 where
    pub journal : IsJournal b.accounts b.history
    pub disk : StandsOnDisk b.failed b.file b.accounts b.history
    pub counts : Counts b.failed b.at_open (faults (disk_of b.file))

-- Behind a book: the sides have the totals of its history, and so have the pairs unless a commit failed; the index has its references,
-- and where room is told for a pay there is room for an entry more.
pub record IsBacked (chart : Chart) (log : Log) (index : References) (sides : Sides) (pairs : List Pair) (failed : Option Failed) (told : Option Pay) : Type 0 where
  pub totals : HasTotals sides.pairs (length (accounts_of chart)) log.entries
  pub running : failed ≡ None → HasTotals pairs (length (accounts_of chart)) log.entries
  pub references : index.references ≡ references_of log.entries
  pub room : IfSome told (λ pay. (1 ≤ log.spare) × (1 ≤ index.spare))
