-- The command `mend`: what the file of messages that leave should hold.
use Rattle.std.specs.Prelude.{◌≡◌, ◌⊎◌, ℕ, List, [], Result, Ok, Err}
use Rattle.corr_io.specs.declared.source.Source as sources
use Rattle.day_model.specs.declared.entry.Entry.{Entry}
use Rattle.day_model.specs.Chart.{Chart}
use Rattle.corr_top.specs.declared.cutting.FileStop.{FileStop}
use Rattle.corr_top.specs.declared.status.Status.{Status}
use Rattle.corr_top.specs.declared.status.Status.TheVariants as status
use Rattle.corr_top.specs.declared.writing.Texts.{Texts}
use Rattle.corr_top.specs.Passing.{HasSent, StopsAtSent}
use Rattle.corr_top.specs.Stops.{status_of_file}
use Rattle.corr_top.specs.Mend.{mended_out}

-- ---- the part of the command after the opening of the journal

module _ {S : Type 0} (source : sources.Ghosts S) (chart : Chart) (entries : List Entry) (from until : ℕ) (old new : S) where
  -- the texts over the file, or why there are none
  abbrev pub GivesMended : Result Texts Status → Type 0
  GivesMended (Ok texts) =
      (bytes : List ℕ) × HasSent source old new bytes × (texts.report ≡ mended_out from until chart entries bytes) × (texts.out ≡ [])
  GivesMended (Err s) =
      ((stop : FileStop) × (bytes : List ℕ) × (s ≡ status_of_file stop) × StopsAtSent source old new bytes stop)
      ⊎ ((bytes : List ℕ) × HasSent source old new bytes × (s ≡ status.Memory))
