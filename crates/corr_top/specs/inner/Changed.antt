-- A change of the accounts of a journal: what it is, and how it stops.
use Rattle.std.specs.Prelude.{◌≡◌, ◌⊎◌, ◌+◌, ◌-◌, ◌≤◌, List, [], length, Option, Some, None, Result, Ok, Err}
use Rattle.corr_disk.specs.declared.disk.Disk as disks
use Rattle.corr_disk.specs.Disk.{most_disk_bytes}
use Rattle.day_model.specs.declared.change.What.{What}
use Rattle.day_model.specs.declared.entry.Entry.{Entry}
use Rattle.day_model.specs.Chart.{Chart}
use Rattle.jrn_book.specs.declared.changing.ChangeFault.{ChangeFault}
use Rattle.jrn_book.specs.Changing.{change_need, refused_now}
use Rattle.jrn_book.specs.Journal.{file_of}
use Rattle.jrn_file.specs.declared.fault.OpenFault.{OpenFault}
use Rattle.ref_tables.specs.declared.fault.TableName.TheVariants as names
use Rattle.ref_tables.specs.declared.fault.Why.{Why}
use Rattle.ref_tables.specs.Seen.{Tables}
use Rattle.corr_top.specs.declared.account_words.AccountChange.{AccountChange}
use Rattle.corr_top.specs.declared.status.Status.{Status}
use Rattle.corr_top.specs.declared.status.Status.TheVariants as status
use Rattle.corr_top.specs.declared.writing.Texts.{Texts}
use Rattle.corr_top.specs.OnDisk.{HasNotFailed, HoldsJournal, IsUnwritten, StopsOpening}
use Rattle.corr_top.specs.Stops.{status_of_change, status_of_opening}
use Rattle.corr_top.specs.Changed.{row_fault, what_in, HasChanged, StopsAtChange, StopsChanging}

-- why a row isn't read: it is refused, as row 1, or memory ran out
abbrev pub IsRowRefused : Option Why → Status → Type 0
IsRowRefused told s = ((why : Why) × (s ≡ status.Table names.Accounts 1 why) × (told ≡ Some why)) ⊎ (s ≡ status.Memory)

module _ {D : Type 0} (d : disks.Ghosts D) (old new : D) where
  -- what making a change in a journal that is open gives, whose row is right: it was made, and the texts are empty; or why not
  abbrev pub GivesEntered : Chart → List Entry → What → Result Texts Status → Type 0
  GivesEntered chart history what (Ok texts) =
      (refused_now chart history what ≡ None) × ((length (file_of chart history) - 1) + change_need what ≤ most_disk_bytes) × HasChanged d old new chart history what
      × (texts.report ≡ []) × (texts.out ≡ [])
  GivesEntered chart history what (Err s) =
      ((stop : ChangeFault) × (s ≡ status_of_change what (length history) stop) × StopsAtChange d old new chart history what stop)
      ⊎ ((s ≡ status.Memory) × HasNotFailed d old new × IsUnwritten d old new)

  -- what a change of the journal of a disk gives under these tables: its opening stopped; or of its accounts and history the change
  -- was made, or stopped
  abbrev pub GivesChanged : Tables → AccountChange → Result Texts Status → Type 0
  GivesChanged known change (Ok texts) =
      (chart : Chart) × (history : List Entry) × HoldsJournal d old chart history × (row_fault chart known change ≡ None)
      × GivesEntered chart history (what_in chart known change) (Ok texts)
  GivesChanged known change (Err s) =
      ((stop : OpenFault) × (s ≡ status_of_opening stop) × StopsOpening d old new stop)
      ⊎ ((chart : Chart) × (history : List Entry) × HoldsJournal d old chart history × StopsChanging d old new chart history (row_fault chart known change) (what_in chart known change) s)
