-- A change of the accounts of a journal: what it is, and how it stops.
use Rattle.std.specs.Prelude.{◌≡◌, ◌⊎◌, ℕ, ◌+◌, ◌-◌, ◌<◌, ◌≤◌, IsTrue, List, [], ◌∷◌, length, map, Option, Some, None, codes, unwrap_or}
use Rattle.corr_disk.specs.declared.disk.Disk as disks
use Rattle.corr_disk.specs.Disk.{LeavesOnly, most_disk_bytes}
use Rattle.day_model.specs.declared.account.AcctNo.{AcctNo}
use Rattle.day_model.specs.declared.change.Refusal.{Refusal}
use Rattle.day_model.specs.declared.change.What.{What}
use Rattle.day_model.specs.declared.change.What.TheVariants.{Opened, Limits}
use Rattle.day_model.specs.declared.entry.Entry.{Entry}
use Rattle.day_model.specs.Chart.{Chart, accounts_of, has_id, number_of_first, with_change}
use Rattle.jrn_book.specs.declared.changing.ChangeFault.{ChangeFault}
use Rattle.jrn_book.specs.Changing.{ChangeShows, LeavesDisk, change_need, fault_of, refused_now}
use Rattle.jrn_book.specs.Journal.{IsBeforeOrChanged, IsJournal, StandsForBook, file_of}
use Rattle.ref_tables.specs.declared.fault.TableName.TheVariants as names
use Rattle.ref_tables.specs.declared.fault.Why.{Why}
use Rattle.ref_tables.specs.Accounts.{account_fault, account_of}
use Rattle.ref_tables.specs.Rows.{Cells, rows_of}
use Rattle.ref_tables.specs.Seen.{Tables}
use Rattle.ref_tables.specs.Tables.{bank_in_row, ccy_of}
use Rattle.corr_top.specs.declared.account_words.AccountChange.{AccountChange}
use Rattle.corr_top.specs.declared.account_words.AccountChange.TheVariants.{Open, Limit}
use Rattle.corr_top.specs.declared.account_words.AccountWords.{AccountWords}
use Rattle.corr_top.specs.declared.status.Status.{Status}
use Rattle.corr_top.specs.declared.status.Status.TheVariants as status
use Rattle.corr_top.specs.Inputs.{Inputs, opened}
use Rattle.corr_top.specs.OnDisk.{HasNotFailed, IsOnDisk, IsUnwritten}
use Rattle.corr_top.specs.Ready.{IsSure}
use Rattle.corr_top.specs.StepMeaning.{StepMeaning}
use Rattle.corr_top.specs.Stops.{status_of_change}

-- ---- what changes

-- the cells of a row of the table of accounts: the words, and opening 0
abbrev pub cells_in : AccountWords → Cells
cells_in words = words.id ∷ words.kind ∷ words.owner ∷ words.ccy ∷ words.floor ∷ words.ceil ∷ codes "0" ∷ []

-- the tables of banks and currencies, with no countries
abbrev pub lent_in : Inputs → Tables
lent_in i = record { bics = map bank_in_row (rows_of i.bics); ccys = map ccy_of (rows_of i.ccys); countries = [] }

-- what is wrong with the row that these words say, for the home bank of a journal, where no other account is looked at
abbrev pub words_fault : Chart → Tables → AccountWords → Option Why
words_fault chart known words = account_fault chart.home.head known [] (cells_in words)

-- the account that they open
abbrev pub opened_by : Tables → AccountWords → What
opened_by known words = Opened (opened (account_of known (cells_in words)))

-- the number of the account with this id, 0 where there is none
abbrev pub number_of_id : List ℕ → Chart → AcctNo
number_of_id id chart = unwrap_or (number_of_first (has_id id) (accounts_of chart)) (record { 0 = 0 })

-- what is wrong with the row of `open-account`; limits have no row
abbrev pub row_fault : Chart → Tables → AccountChange → Option Why
row_fault chart known (Open words) = words_fault chart known words
row_fault chart known (Limit id ends) = None

-- what the words change in these accounts; limits of no account are those of account 0, which isn't there
abbrev pub what_in : Chart → Tables → AccountChange → What
what_in chart known (Open words) = opened_by known words
what_in chart known (Limit id ends) = Limits (number_of_id id chart) ends.floor ends.ceil

-- the same of what was read
abbrev pub what_of : Inputs → What
what_of i = what_in i.chart (lent_in i) i.change

-- the accounts with this change after all entries
abbrev pub changed_in : Inputs → Chart
changed_in i = with_change i.chart (length i.history) (what_of i)

-- nothing is wrong with the row, the accounts don't refuse the change, and its record has room in the file
pub record MayChange (chart : Chart) (history : List Entry) (told : Option Why) (what : What) : Type 0 where
  pub row : told ≡ None
  pub legal : refused_now chart history what ≡ None
  pub room : (length (file_of chart history) - 1) + change_need what ≤ most_disk_bytes

-- a change that nothing else is against finds no room: its record would take the file past its limit
pub record FindsNoRoomForChange (chart : Chart) (history : List Entry) (what : What) (s : Status) : Type 0 where
  pub legal : refused_now chart history what ≡ None
  pub past : most_disk_bytes < (length (file_of chart history) - 1) + change_need what
  pub status_is : s ≡ status.Full (length history) (length (file_of chart history) - 1) (change_need what)

-- why a change is refused, the first that holds: a fault of its row, as row 1; what the accounts have against it; or no room in the file
abbrev pub IsRefusedFor : Chart → List Entry → Option Why → What → Status → Type 0
IsRefusedFor chart history told what s =
    ((why : Why) × (told ≡ Some why) × (s ≡ status.Table names.Accounts 1 why))
    ⊎ ((told ≡ None) × (((reason : Refusal) × (refused_now chart history what ≡ Some reason) × (s ≡ status_of_change what (length history) (fault_of reason)))
    ⊎ FindsNoRoomForChange chart history what s))

-- ---- what is done to the disk

module _ {D : Type 0} (d : disks.Ghosts D) (old new : D) where
  -- where whatever a crash left stood for the journal, at each moment it leaves the journal before or with the change
  abbrev pub ChangesInTurn : Chart → List Entry → What → Type 0
  ChangesInTurn chart history what =
      IsTrue (d.honest old) → ((image : List ℕ) → d.may_leave old image → StandsForBook image chart history)
      → LeavesOnly d.moment d.left_since old new (IsBeforeOrChanged chart history what)

  -- the change was made: the journal has it and nothing else more, may be opened, and is what a crash leaves
  pub record HasChanged (chart : Chart) (history : List Entry) (what : What) : Type 0 where
    pub sure : HasNotFailed d old new
    pub made : IsOnDisk d new (with_change chart (length history) what) history
    pub journal : IsJournal (with_change chart (length history) what) history
    pub any_moment : ChangesInTurn chart history what

  -- the row is refused by its own tests, for this reason, and nothing was written
  pub record StopsAtRow (told : Option Why) (why : Why) : Type 0 where
    pub is : told ≡ Some why
    pub sure : HasNotFailed d old new
    pub untouched : IsUnwritten d old new

  -- The change was not made: the first reason against it, no room, a fault of the disk, or want of memory. Nothing was written but
  -- where the disk failed.
  pub record StopsAtChange (chart : Chart) (history : List Entry) (what : What) (stop : ChangeFault) : Type 0 where
    pub cause : ChangeShows chart history what (length (file_of chart history) - 1) (d.faults old) (d.faults new) (Some stop)
    pub untouched : LeavesDisk stop (IsUnwritten d old new)
    pub any_moment : ChangesInTurn chart history what

  -- how a change of this row stops with a status: at the row, which is told as row 1; or, where the row is right, at the change; or
  -- memory ran out before it
  abbrev pub StopsChanging : Chart → List Entry → Option Why → What → Status → Type 0
  StopsChanging chart history told what s =
      ((why : Why) × (s ≡ status.Table names.Accounts 1 why) × StopsAtRow told why)
      ⊎ (((stop : ChangeFault) × (s ≡ status_of_change what (length history) stop) × (told ≡ None) × StopsAtChange chart history what stop)
      ⊎ ((s ≡ status.Memory) × HasNotFailed d old new × IsUnwritten d old new))

-- ---- the step

abbrev pub change_step : StepMeaning
change_step = record {
  passes = λ source disk old new i. MayChange i.chart i.history (row_fault i.chart (lent_in i) i.change) (what_of i);
  stops = λ source disk old new i s. StopsChanging disk old.disk new.disk i.chart i.history (row_fault i.chart (lent_in i) i.change) (what_of i) s;
  untouched = λ disk old new. IsUnwritten disk old.disk new.disk;
  ready = λ source disk old new i. IsSure disk old.disk new.disk × MayChange i.chart i.history (row_fault i.chart (lent_in i) i.change) (what_of i);
}
