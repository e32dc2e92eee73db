-- The commands that read the journal and print what it says.
use Rattle.std.specs.Prelude.{◌≡◌, ◌⊎◌, List, Result, Ok, Err}
use Rattle.corr_disk.specs.declared.disk.Disk as disks
use Rattle.day_model.specs.declared.entry.Entry.{Entry}
use Rattle.day_model.specs.Chart.{Chart}
use Rattle.jrn_file.specs.declared.fault.OpenFault.{OpenFault}
use Rattle.corr_top.specs.declared.words.Query.{Query}
use Rattle.corr_top.specs.declared.status.Status.{Status}
use Rattle.corr_top.specs.declared.status.Status.TheVariants as status
use Rattle.corr_top.specs.declared.writing.Texts.{Texts}
use Rattle.corr_top.specs.OnDisk.{HoldsJournal, StopsOpening}
use Rattle.corr_top.specs.Stops.{status_of_opening}
use Rattle.corr_top.specs.Query.{query_report, query_out, QuerySends, QueryLeaves}

module _ {D : Type 0} (disk : disks.Ghosts D) (old new : D) where
  -- the journal was opened, and nothing was written
  pub record WasRead (chart : Chart) (history : List Entry) : Type 0 where
    pub holds : HoldsJournal disk old chart history
    pub leaves : (QueryLeaves disk old new)

  -- what asking a disk gives: the texts over its journal, or why it wasn't opened, or out of memory
  abbrev pub GivesAsked : Query → Result Texts Status → Type 0
  GivesAsked asked (Ok texts) =
      (chart : Chart) × (history : List Entry) × WasRead chart history × (texts.report ≡ query_report asked chart history) × (texts.out ≡ query_out asked chart history)
      × QuerySends asked chart history
  GivesAsked asked (Err s) =
      ((stop : OpenFault) × (s ≡ status_of_opening stop) × StopsOpening disk old new stop)
      ⊎ ((chart : Chart) × (history : List Entry) × WasRead chart history × (s ≡ status.Memory))
