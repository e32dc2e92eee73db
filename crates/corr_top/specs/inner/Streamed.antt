-- Messages that were served while their file was read.
use Rattle.std.specs.Prelude.{◌≡◌, ◌⊎◌, ℕ, IfOk, List, Result, Err}
use Rattle.corr_books.specs.Opening.{Opening}
use Rattle.corr_disk.specs.declared.disk.Disk as disks
use Rattle.corr_io.specs.declared.source.Source as sources
use Rattle.day_model.specs.declared.pay.Pay.{Pay}
use Rattle.corr_top.specs.declared.cutting.FileStop.TheVariants as file
use Rattle.corr_top.specs.declared.message.NoPay.{NoPay}
use Rattle.corr_top.specs.declared.serving.ServedDay.{ServedDay}
use Rattle.corr_top.specs.declared.serving.StreamedDay.{StreamedDay}
use Rattle.corr_top.specs.declared.status.Status.{Status}
use Rattle.corr_top.specs.declared.stream.Stage.{Stage}
use Rattle.corr_top.specs.declared.stream.Stage.TheVariants as stage
use Rattle.corr_top.specs.declared.writing.Texts.{Texts}
use Rattle.corr_top.specs.inner.Days.{GivesServed}
use Rattle.corr_top.specs.Passing.{AreGiven, HasMessages, StopsAtMessages}
use Rattle.corr_top.specs.inner.Serving.{FeedServed}
use Rattle.corr_top.specs.Stops.{status_of_file}

-- How a file ended by its stage, of which these bytes were read and these messages given, and what became of them: it was read to its end,
-- and is they, unless memory ran out ahead of that; it stopped; or memory ran out while it was read.
abbrev pub EndsAt : {S V M : Type 0} → sources.Ghosts S → S → S → List ℕ → List (List ℕ) → Result V M → Stage → Type 0
EndsAt source from to bytes given served stage.Whole =
    (HasMessages source from to bytes given ⊎ IfOk served (λ _. ⊥)) × StopsAtMessages source from to bytes file.Memory
EndsAt source from to bytes given served (stage.Stopped stop) = StopsAtMessages source from to bytes stop
EndsAt source from to bytes given served stage.Going = IfOk served (λ _. ⊥) × StopsAtMessages source from to bytes file.Memory

-- the messages that a file gave until it ended were served; they are its first ones, or all of them
pub record StreamServed {S D : Type 0} (source : sources.Ghosts S) (disk : disks.Ghosts D) (o : Opening) (past : ℕ → List ℕ → Type 0) (readings : List (List ℕ) → List (Result Pay NoPay)) (from : S) (s : StreamedDay S D) : Type 0 where
  pub bytes : List ℕ
  pub given : List (List ℕ)
  pub are_given : AreGiven source from s.file.source bytes given
  pub ends : EndsAt source from s.file.source bytes given s.day.served s.file.stage
  pub served : FeedServed disk o past (readings given) s.day

-- the texts of such a day, or why there are none: what the file stopped by, if it did, or what became of the day
abbrev pub GivesStream : {D : Type 0} → disks.Ghosts D → ServedDay D → Stage → ℕ → ℕ → Result Texts Status → Type 0
GivesStream disk day (stage.Stopped stop) before count r = r ≡ Err (status_of_file stop)
GivesStream disk day _ before count r = GivesServed disk day before count r
