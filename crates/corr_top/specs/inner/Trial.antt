-- The command `trial`: a generated day, run over a journal in memory.
use Rattle.std.specs.Prelude.{◌≡◌, ◌≤◌, ◌≤ℤ◌, ℕ, List, [], All, IsTrue, length, Some, Result, Ok, Err, pos, ◌+ℤ◌, ◌-ℤ◌}
use Rattle.corr_disk.specs.declared.disk.Disk as disks
use Rattle.corr_io.specs.InMemory.{Supply}
use Rattle.day_model.specs.declared.account.Account.{Account}
use Rattle.day_model.specs.declared.entry.Entry.{Entry}
use Rattle.day_model.specs.Balance.{credits_of, debits_of}
use Rattle.day_model.specs.Chart.{Chart, account_at}
use Rattle.day_model.specs.Legal.{IsLegal}
use Rattle.corr_top.specs.declared.room.Tables.{Tables as Files}
use Rattle.corr_top.specs.declared.status.Status.{Status}
use Rattle.corr_top.specs.declared.status.Status.TheVariants as status
use Rattle.corr_top.specs.declared.writing.Texts.{Texts}
use Rattle.corr_top.specs.Booking.{IsEnteredOn}
use Rattle.corr_top.specs.OnDisk.{IsOnDisk}
use Rattle.corr_top.specs.Samples.{sample_accounts, sample_bics, sample_ccys, sample_countries, sample_day, sample_ssi}
use Rattle.corr_top.specs.Trial.{sample_chart, trial_pays, trial_report, IsBooked, BooksEach}

-- a source in memory that gives these bytes, and never fails
abbrev pub supply_of : List ℕ → Supply
supply_of bytes = record { left = bytes; calls = 0; faults = 0; fails = [] }

-- the files of the sample bank
pub record AreSampleFiles (files : Files Supply) : Type 0 where
  pub bics : files.bics ≡ supply_of sample_bics
  pub ccys : files.ccys ≡ supply_of sample_ccys
  pub countries : files.countries ≡ supply_of sample_countries
  pub accounts : files.accounts ≡ supply_of sample_accounts
  pub ssi : files.ssi ≡ supply_of sample_ssi
  pub charges : files.charges ≡ supply_of []

-- a disk that tells its bytes, on which its new journal stands alone, and which hasn't failed
pub record IsNewDisk {D : Type 0} (d : disks.Ghosts D) (disk : D) : Type 0 where
  pub honest : IsTrue (d.honest disk)
  pub holds : IsOnDisk d disk sample_chart []
  pub faults : d.faults disk ≡ 0

-- what workers make of a generated day: a legal history over the sample accounts, each entry of one of its pays
pub record ServesTrial (count seed : ℕ) (accounts : Chart) (entries : List Entry) : Type 0 where
  pub accounts_are : accounts ≡ sample_chart
  pub legal : IsLegal sample_chart entries
  pub each : All (IsEnteredOn sample_day (trial_pays count seed)) entries

-- an account stays within its limits by all its credits alone, and by all its debits alone
pub record StaysWithin (account : Account) (credits debits : ℕ) : Type 0 where
  pub floor : account.floor ≤ℤ (account.opening -ℤ pos debits)
  pub ceil : (account.opening +ℤ pos credits) ≤ℤ account.ceil

-- so each account does by the booked entries of a history: they would be booked in every order
abbrev pub IsBearable : Chart → List Entry → Type 0
IsBearable chart entries =
    (n : ℕ) (account : Account) → 1 ≤ n → account_at chart n ≡ Some account → StaysWithin account (credits_of entries n) (debits_of entries n)

-- each of so many messages has its entry, each entry is booked, and would be in every order
pub record IsWholeDay (count : ℕ) (chart : Chart) (entries : List Entry) : Type 0 where
  pub each : length entries ≡ count
  pub booked : All IsBooked entries
  pub settled : IsBearable chart entries

-- the texts of a trial: the summary, and nothing to be sent; one thread books each message
abbrev pub IsTrial : ℕ → ℕ → Texts → Type 0
IsTrial count seed texts = (texts.report ≡ trial_report count seed) × (texts.out ≡ []) × BooksEach count seed

-- what a trial gives: its texts, or out of memory
abbrev pub GivesTrial : ℕ → ℕ → Result Texts Status → Type 0
GivesTrial count seed (Ok texts) = IsTrial count seed texts
GivesTrial count seed (Err s) = s ≡ status.Memory
