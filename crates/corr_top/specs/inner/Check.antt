-- The command `check`: the verdict on each message, without a journal.
use Rattle.std.specs.Prelude.{◌≡◌, ◌⊎◌, ℕ, List, [], Result, Ok, Err}
use Rattle.corr_io.specs.declared.source.Source as sources
use Rattle.corr_ids.specs.declared.bic.Bic.{Bic}
use Rattle.ref_tables.specs.Seen.{Tables}
use Rattle.corr_top.specs.declared.cutting.FileStop.{FileStop}
use Rattle.corr_top.specs.declared.status.Status.{Status}
use Rattle.corr_top.specs.declared.status.Status.TheVariants as status
use Rattle.corr_top.specs.declared.writing.Texts.{Texts}
use Rattle.corr_top.specs.Passing.{HasMessages, StopsAtMessages}
use Rattle.corr_top.specs.Stops.{status_of_file}
use Rattle.corr_top.specs.Check.{check_lines}

-- the texts over the messages, or why there are none
abbrev pub GivesVerdicts : {S : Type 0} → sources.Ghosts S → Bic → Tables → S → S → Result Texts Status → Type 0
GivesVerdicts source home t old new (Ok texts) =
    (bytes : List ℕ) × (cut : List (List ℕ)) × HasMessages source old new bytes cut × (texts.report ≡ check_lines home t cut) × (texts.out ≡ [])
GivesVerdicts source home t old new (Err s) =
    ((stop : FileStop) × (bytes : List ℕ) × (s ≡ status_of_file stop) × StopsAtMessages source old new bytes stop)
    ⊎ ((bytes : List ℕ) × (cut : List (List ℕ)) × HasMessages source old new bytes cut × (s ≡ status.Memory))
