-- The command `reconcile`: statements that were received, against the books.
use Rattle.std.specs.Prelude.{◌≡◌, ◌⊎◌, ℕ, List, [], ◌++◌, Result, Ok, Err}
use Rattle.corr_io.specs.declared.source.Source as sources
use Rattle.day_model.specs.declared.entry.Entry.{Entry}
use Rattle.day_model.specs.Chart.{Chart}
use Rattle.fin_contents.specs.Writing.{IsReadable}
use Rattle.mt950.specs.declared.page.Page950.{Page950}
use Rattle.mt950.specs.Page.{mt950_of}
use Rattle.ref_tables.specs.Seen.{Tables}
use Rattle.corr_top.specs.declared.cutting.FileStop.{FileStop}
use Rattle.corr_top.specs.declared.received.Read.{Read}
use Rattle.corr_top.specs.declared.received.Read.TheVariants as read
use Rattle.corr_top.specs.declared.status.Status.{Status}
use Rattle.corr_top.specs.declared.status.Status.TheVariants as status
use Rattle.corr_top.specs.declared.writing.Texts.{Texts}
use Rattle.corr_top.specs.Passing.{HasMessages, StopsAtMessages}
use Rattle.corr_top.specs.Stops.{status_of_file}
use Rattle.corr_top.specs.Reconcile.{all_received, other_lines, pages_in, break_report}

-- it can be told: a page can be joined with others, since `read_mt950` gives it of some fields
abbrev pub CanBeTold : Read → Type 0
CanBeTold (read.Page page) = IsReadable mt950_of page
CanBeTold (read.Other why) = Unit {0}

-- the lines of the messages that are no pages were added, and these are the pages
abbrev pub Collects : Chart → List Entry → Tables → List (List ℕ) → List ℕ → List ℕ → List Page950 → Type 0
Collects chart entries t messages old new pages =
    (new ≡ old ++ other_lines chart entries (all_received chart.home t messages)) × (pages ≡ pages_in (all_received chart.home t messages))

-- ---- the part of the command after the opening of the journal

module _ {S : Type 0} (source : sources.Ghosts S) (chart : Chart) (entries : List Entry) (t : Tables) (old new : S) where
  -- the texts over the received messages, or why there are none
  abbrev pub GivesBreaks : Result Texts Status → Type 0
  GivesBreaks (Ok texts) =
      (bytes : List ℕ) × (cut : List (List ℕ)) × HasMessages source old new bytes cut × (texts.report ≡ break_report chart entries t cut) × (texts.out ≡ [])
  GivesBreaks (Err s) =
      ((stop : FileStop) × (bytes : List ℕ) × (s ≡ status_of_file stop) × StopsAtMessages source old new bytes stop)
      ⊎ ((bytes : List ℕ) × (cut : List (List ℕ)) × HasMessages source old new bytes cut × (s ≡ status.Memory))
