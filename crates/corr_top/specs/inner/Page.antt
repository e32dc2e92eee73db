-- The command `page`: the messages of the file and the books, as a page for a desk. Nothing is booked.
use Rattle.std.specs.Prelude.{◌≡◌, ◌⊎◌, ℕ, List, [], Result, Ok, Err}
use Rattle.corr_disk.specs.declared.disk.Disk as disks
use Rattle.corr_ids.specs.declared.day.Day.{Day}
use Rattle.corr_io.specs.declared.source.Source as sources
use Rattle.day_model.specs.Chart.{Chart}
use Rattle.day_model.specs.declared.entry.Entry.{Entry}
use Rattle.jrn_file.specs.declared.fault.OpenFault.{OpenFault}
use Rattle.corr_top.specs.declared.cutting.FileStop.{FileStop}
use Rattle.corr_top.specs.declared.directory.Directory.{Directory}
use Rattle.corr_top.specs.declared.status.Status.{Status}
use Rattle.corr_top.specs.declared.status.Status.TheVariants as status
use Rattle.corr_top.specs.declared.writing.Texts.{Texts}
use Rattle.corr_top.specs.OnDisk.{StopsOpening}
use Rattle.corr_top.specs.Passing.{HasMessages, StopsAtMessages}
use Rattle.corr_top.specs.inner.Query.{WasRead}
use Rattle.corr_top.specs.Stops.{status_of_file, status_of_opening}
use Rattle.corr_top.specs.Page.{day_page}

-- ---- the part of the command after the tables

module _ {D : Type 0} (disk : disks.Ghosts D) (directory : Directory) (day : Day) (old new : D) where
  -- the page over the journal of a disk, or why the journal wasn't opened, or out of memory
  abbrev pub GivesShown : List (List ℕ) → Result Texts Status → Type 0
  GivesShown cut (Ok texts) =
      (chart : Chart) × (history : List Entry) × WasRead disk old new chart history × (texts.report ≡ day_page directory chart history day cut) × (texts.out ≡ [])
  GivesShown cut (Err s) =
      ((stop : OpenFault) × (s ≡ status_of_opening stop) × StopsOpening disk old new stop)
      ⊎ ((chart : Chart) × (history : List Entry) × WasRead disk old new chart history × (s ≡ status.Memory))

module _ {S D : Type 0} (source : sources.Ghosts S) (disk : disks.Ghosts D) (directory : Directory) (day : Day) (from to : S) (old new : D) where
  -- the message file was not taken, and the disk is as it was
  pub record StopsAtFile (r : Result Texts Status) : Type 0 where
    pub stop : FileStop
    pub bytes : List ℕ
    pub told : r ≡ Err (status_of_file stop)
    pub stops : StopsAtMessages source from to bytes stop
    pub same : new ≡ old

  -- it was, and this was made of it
  pub record HasShown (r : Result Texts Status) : Type 0 where
    pub bytes : List ℕ
    pub cut : List (List ℕ)
    pub file : HasMessages source from to bytes cut
    pub shown : GivesShown disk directory day old new cut r

  -- what that part of the command gives: the file was not taken, or it was
  abbrev pub GivesPage : Result Texts Status → Type 0
  GivesPage r = StopsAtFile r ⊎ HasShown r
