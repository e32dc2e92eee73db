-- Runs that stop and are given again.
use Rattle.std.specs.Prelude.{◌≡◌, ℕ, List}
use Rattle.corr_ids.specs.declared.day.Day.{Day}
use Rattle.day_model.specs.declared.pay.Pay.{Pay}
use Rattle.day_model.specs.declared.entry.Entry.{Entry}
use Rattle.day_model.specs.Chart.{Chart}
use Rattle.day_model.specs.Next.{fold_of}
use Rattle.jrn_book.specs.Journal.{StandsForBook}

-- A run of these pays that began at `start` and stopped with this history: given again from its first pay, it makes what it would
-- have made.
abbrev pub ResumesRun : Chart → List Entry → List Pay → Day → List Entry → Type 0
ResumesRun chart start pays day history = fold_of chart history pays day ≡ fold_of chart start pays day

-- the bytes stand for a history with which such a run may have stopped
pub record IsResumable (chart : Chart) (start : List Entry) (pays : List Pay) (day : Day) (image : List ℕ) : Type 0 where
  pub history : List Entry
  pub stands : StandsForBook image chart history
  pub again : ResumesRun chart start pays day history
