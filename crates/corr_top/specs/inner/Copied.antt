-- A journal of version 1 that is carried over to a second disk: what that is, and how it stops.
use Rattle.std.specs.Prelude.{◌≡◌, ◌⊎◌, List, [], length, Result, Ok, Err}
use Rattle.corr_disk.specs.declared.disk.Disk as disks
use Rattle.day_model.specs.declared.entry.Entry.{Entry}
use Rattle.day_model.specs.Chart.{Chart}
use Rattle.jrn_file.specs.declared.fault.MakeFault.{MakeFault}
use Rattle.jrn_file.specs.declared.fault.OpenFault.{OpenFault}
use Rattle.corr_top.specs.declared.status.Status.{Status}
use Rattle.corr_top.specs.declared.writing.Texts.{Texts}
use Rattle.corr_top.specs.OnDisk.{HasNotFailed, IsUnwritten}
use Rattle.corr_top.specs.Stops.{status_of_copying, status_of_opening}
use Rattle.corr_top.specs.Copied.{HoldsOld, StopsOpeningOld, HasCopied, StopsCopying}

module _ {D : Type 0} (d : disks.Ghosts D) where
  module _ (old new : D) (chart : Chart) (history : List Entry) where
    -- what making it gives: it was made, and the texts are empty; or why not
    abbrev pub GivesCopied : Result Texts Status → Type 0
    GivesCopied (Ok texts) = HasCopied d old new chart history × (texts.report ≡ []) × (texts.out ≡ [])
    GivesCopied (Err s) = (fault : MakeFault) × (s ≡ status_of_copying (length history) fault) × StopsCopying d old new chart history fault

  -- what carrying a journal over from one disk to a second gives: the first was read and the copy made, or not; or its opening stopped, and
  -- the second is as it was
  abbrev pub GivesCarried : D → D → D → D → Result Texts Status → Type 0
  GivesCarried old new from to (Ok texts) =
      (chart : Chart) × (history : List Entry) × HoldsOld d old chart history × HasNotFailed d old new × IsUnwritten d old new × GivesCopied from to chart history (Ok texts)
  GivesCarried old new from to (Err s) =
      ((stop : OpenFault) × (s ≡ status_of_opening stop) × StopsOpeningOld d old new stop × (to ≡ from))
      ⊎ ((chart : Chart) × (history : List Entry) × HoldsOld d old chart history × HasNotFailed d old new × IsUnwritten d old new × GivesCopied from to chart history (Err s))
