-- What the bytes of a disk are as the journal of a book, and what opening one tells of them.
use Rattle.std.specs.Prelude.{◌≡◌, ◌⊎◌, ℕ, List, [], ◌∷◌, ◌++◌, length, Option, Some, None, Result, Ok, Err, Bool}
use Rattle.acct_locks.specs.Holdings.{LooseHand, purses_of}
use Rattle.day_model.specs.declared.change.Item.{Item}
use Rattle.day_model.specs.declared.entry.Entry.{Entry}
use Rattle.day_model.specs.Chart.{Chart, accounts_of}
use Rattle.day_model.specs.Items.{IsNextItem}
use Rattle.day_model.specs.Totals.{HasTotals, Pair}
use Rattle.jrn_file.specs.Faults.{TellsCounts}
use Rattle.jrn_file.specs.File.{disk_of, IsSettled}
use Rattle.jrn_file.specs.Reading.{Reading, no_journal, whole, cut, all_of, size_of}
use Rattle.jrn_file.specs.declared.fault.OpenFault.{OpenFault}
use Rattle.jrn_file.specs.declared.fault.OpenFault.TheVariants.{NotAJournal, Version as OtherVersion, Damaged, DiskFault, Memory}
use Rattle.jrn_codec.specs.Header.{IsHead, head_bytes}
use Rattle.jrn_book.specs.declared.version.Version.{Version}
use Rattle.jrn_book.specs.declared.version.Version.TheVariants.{Two}
use Rattle.jrn_book.specs.Book.{Book}
use Rattle.jrn_book.specs.Journal.{IsJournal, IsJournalIn, item_records, all_records_in}
use Rattle.jrn_book.specs.Versions.{HasBytes, bytes_in, head_in, number_of, other}

-- what bytes are as the journal of a book
pub data Finding : Type 0 where
  -- that of these accounts and this history
  book : (chart : Chart) (history : List Entry) → Finding
  -- of no book
  no_book : Finding
  -- one that begins with the header of this version, which isn't the one that is read
  other_version : (found : ℕ) → Finding
  -- that of a book up to this place, at which the first fault stands
  faulty : (at : ℕ) → Finding

-- the first of these records is a header of this version
abbrev pub HasHead : Version → List (List ℕ) → Type 0
HasHead version [] = ⊥
HasHead version (head ∷ records) = (chart : Chart) × IsHead chart × (head ≡ head_in version chart)

-- the first of these records is no header
abbrev pub HasNoHead : List (List ℕ) → Type 0
HasNoHead all = (version : Version) → HasHead version all → ⊥

-- the first of these records is a header of the other version, which has this number
abbrev pub HasOtherHead : Version → List (List ℕ) → ℕ → Type 0
HasOtherHead version all found = HasHead (other version) all × (found ≡ number_of (other version))

-- an item may stand next: it has a record, and all is legal with it
abbrev pub IsNextOf : Version → Chart → List Entry → Item → Type 0
IsNextOf version chart history item = HasBytes version item × IsNextItem chart history item

-- the record of no item that may stand next
abbrev pub IsNoNext : Version → Chart → List Entry → List ℕ → Type 0
IsNoNext version chart history r = (item : Item) → IsNextOf version chart history item → r ≡ bytes_in version item → ⊥

-- after the records of these accounts and this history there is one that may not stand next; its place
pub record IsRefusedIn (version : Version) (chart : Chart) (history : List Entry) (all : List (List ℕ)) (at : ℕ) : Type 0 where
  pub next : List ℕ
  pub more : List (List ℕ)
  pub is : all ≡ all_records_in version chart history ++ next ∷ more
  pub refused : IsNoNext version chart history next
  pub place : at ≡ size_of (all_records_in version chart history)

-- What stands at a place after the records of these accounts and this history: a record that may not stand next, or, where no
-- record is whole, an open gate.
abbrev pub IsFaultAfter : Version → Chart → List Entry → ℕ → Reading → Type 0
IsFaultAfter version chart history at no_journal = ⊥
IsFaultAfter version chart history at (whole all) = IsRefusedIn version chart history all at
IsFaultAfter version chart history at (cut all end) =
    IsRefusedIn version chart history all at ⊎ ((all ≡ all_records_in version chart history) × (at ≡ end))

-- the first fault stands at this place: in front of it a header and the records of a legal history
pub record IsFaultyAt (version : Version) (reading : Reading) (at : ℕ) : Type 0 where
  pub chart : Chart
  pub history : List Entry
  pub good : IsJournalIn version chart history
  pub fault : IsFaultAfter version chart history at reading

-- What bytes that are read so are where records of a version are read. They are one thing only (proofs/laws/Findings.antt).
abbrev pub IsFoundIn : Version → Reading → Finding → Type 0
IsFoundIn version reading (book chart history) = IsJournalIn version chart history × (reading ≡ whole (all_records_in version chart history))
IsFoundIn version reading no_book = HasNoHead (all_of reading)
IsFoundIn version reading (other_version found) = HasOtherHead version (all_of reading) found
IsFoundIn version reading (faulty at) = IsFaultyAt version reading at

-- what they are as the journal of a book
abbrev pub IsFound : Reading → Finding → Type 0
IsFound reading finding = IsFoundIn Two reading finding

-- what opening a book answers: the book and its purses, or the disk and a fault
abbrev pub Opened : Type 0 → Type 0
Opened D = Result (Book D × LooseHand) (D × OpenFault)

-- what a refusal says that the bytes are; a fault of the disk and out of memory say nothing of them
abbrev pub found_by : OpenFault → Option Finding
found_by NotAJournal = Some no_book
found_by (OtherVersion found) = Some (other_version found)
found_by (Damaged at) = Some (faulty at)
found_by (DiskFault before after) = None
found_by Memory = None

-- what an answer says that the bytes are
abbrev pub finding_in : {D : Type 0} → Opened D → Option Finding
finding_in (Ok opened) = Some (book opened.0.accounts opened.0.history)
finding_in (Err refused) = found_by refused.1

-- a fault of the disk tells its counts; where the disk didn't fail, its count is as it was
abbrev pub BookOpenCause : ℕ → ℕ → OpenFault → Type 0
BookOpenCause old new NotAJournal = new ≡ old
BookOpenCause old new (OtherVersion found) = new ≡ old
BookOpenCause old new (Damaged at) = new ≡ old
BookOpenCause old new (DiskFault before after) = TellsCounts old before after new
BookOpenCause old new Memory = new ≡ old

-- A book that was just opened: no commit has failed, its count of faults is the disk's, and its history alone is on the disk,
-- after which its closed gate stands.
pub record IsNewBook {D : Type 0} (honest : D → Bool) (reads : D → List ℕ) (may_leave : D → List ℕ → Type 0) (faults : D → ℕ) (b : Book D) : Type 0 where
  pub whole : b.failed ≡ None
  pub count : b.at_open ≡ faults (disk_of b.file)
  pub journal : IsJournal b.accounts b.history
  pub settled : IsSettled honest reads may_leave b.file (head_bytes b.accounts) (item_records b.accounts b.history)

-- the purses that were given with a book: of its table, one for each account, with its totals after the history
pub record HasPurses {D : Type 0} (b : Book D) (loose : LooseHand) : Type 0 where
  pub pairs : List Pair
  pub totals : HasTotals pairs (length (accounts_of b.accounts)) b.history
  pub table : loose.table ≡ b.table
  pub purses : loose.purses ≡ purses_of b.table pairs
  pub count : length loose.purses ≡ length (accounts_of b.accounts)
