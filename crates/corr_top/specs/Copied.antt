-- A journal of version 1 that is carried over to a second disk: what that is, and how it stops.
use Rattle.std.specs.Prelude.{◌≡◌, ◌≤◌, ℕ, IfSome, IsTrue, List, length, Option, Some, None}
use Rattle.corr_disk.specs.declared.disk.Disk as disks
use Rattle.corr_disk.specs.Disk.{LeavesOnly, Only, most_disk_bytes}
use Rattle.day_model.specs.declared.entry.Entry.{Entry}
use Rattle.day_model.specs.Chart.{Chart}
use Rattle.jrn_book.specs.declared.version.Version.TheVariants.{One}
use Rattle.jrn_book.specs.Journal.{IsJournal, IsJournalIn, all_records_in, file_of, item_records}
use Rattle.jrn_book.specs.Opening.{BookOpenCause, IsFoundIn, found_by}
use Rattle.jrn_codec.specs.Header.{head_bytes}
use Rattle.jrn_file.specs.declared.fault.MakeFault.{MakeFault}
use Rattle.jrn_file.specs.declared.fault.OpenFault.{OpenFault}
use Rattle.jrn_file.specs.Faults.{IsRefusal, MakeWithCause}
use Rattle.jrn_file.specs.Making.{IsOther, IsUnmade, IsUnmadeOrMadeWith}
use Rattle.jrn_file.specs.Reading.{opened_of, whole}
use Rattle.corr_top.specs.declared.status.Status.TheVariants as status
use Rattle.corr_top.specs.OnDisk.{HasNotFailed, IsMakeable, IsOnDisk, IsUnwritten}
use Rattle.corr_top.specs.Ready.{IsSure}
use Rattle.corr_top.specs.StepMeaning.{StepMeaning}
use Rattle.corr_top.specs.Stops.{status_of_copying, status_of_opening}

-- bytes stand for the journal of version 1 of these accounts and this history
abbrev pub StandsForOld : List ℕ → Chart → List Entry → Type 0
StandsForOld bytes chart history = opened_of bytes ≡ whole (all_records_in One chart history)

-- there is a second disk as it was and as it is, of which this holds
abbrev pub OnSecond : {D : Type 0} → (D → D → Type 0) → Option D → Option D → Type 0
OnSecond holds (Some old) (Some new) = holds old new
OnSecond holds _ _ = ⊥

-- there is one
abbrev pub HasSecond : {D : Type 0} → Option D → Type 0
HasSecond (Some disk) = Unit {0}
HasSecond None = ⊥

module _ {D : Type 0} (d : disks.Ghosts D) where
  -- a disk holds the journal of version 1 of these accounts and this history, which may be opened
  pub record HoldsOld (disk : D) (chart : Chart) (history : List Entry) : Type 0 where
    pub journal : IsJournalIn One chart history
    pub stands : IsTrue (d.honest disk) → StandsForOld (d.reads disk) chart history

  -- how its opening stops: by its cause, and what that says of the bytes; nothing is written
  pub record StopsOpeningOld (old new : D) (fault : OpenFault) : Type 0 where
    pub cause : BookOpenCause (d.faults old) (d.faults new) fault
    pub told : IsTrue (d.honest old) → IfSome (found_by fault) (IsFoundIn One (opened_of (d.reads old)))
    pub untouched : IsUnwritten d old new

  module _ (old new : D) (chart : Chart) (history : List Entry) where
    -- over bytes that a journal may be made over, a crash at any moment leaves a disk on which nothing is made yet, or the whole journal
    abbrev pub CopiesInTurn : Type 0
    CopiesInTurn =
        IsTrue (d.honest old) → Only (d.reads old) (d.may_leave old) → IsUnmade (d.reads old)
        → LeavesOnly d.moment d.left_since old new (IsUnmadeOrMadeWith (head_bytes chart) (item_records chart history))

    -- the journal of these accounts and this history was made, and may be opened
    pub record HasCopied : Type 0 where
      pub free : IsMakeable d old
      pub made : IsOnDisk d new chart history
      pub journal : IsJournal chart history
      pub sure : HasNotFailed d old new
      pub any_moment : CopiesInTurn
      pub honest : d.honest new ≡ d.honest old

    -- It was not made, by its cause. Where something else stands that is told by its first byte, unless the disk or memory failed, and
    -- nothing is written. The disk tells its bytes as it did.
    pub record StopsCopying (fault : MakeFault) : Type 0 where
      pub cause : MakeWithCause (d.faults old) (d.faults new) (λ first. IsTrue (d.honest old) → IsOther (d.reads old) first) (length (file_of chart history)) (IsUnwritten d old new) fault
      pub exists : (first : ℕ) → IsTrue (d.honest old) → IsOther (d.reads old) first → IsRefusal first fault
      pub untouched : (first : ℕ) → IsTrue (d.honest old) → IsOther (d.reads old) first → IsUnwritten d old new
      pub any_moment : CopiesInTurn
      pub honest : d.honest new ≡ d.honest old

-- ---- the steps

-- there is a second disk
abbrev pub second_step : StepMeaning
second_step = record {
  passes = λ source disk old new i. HasSecond old.disk2;
  stops = λ source disk old new i s. (s ≡ status.NoSecond) × (old.disk2 ≡ None);
  untouched = λ disk old new. Unit {0};
  ready = λ source disk old new i. HasSecond old.disk2;
}

-- the journal of version 1 is opened
abbrev pub old_journal_step : StepMeaning
old_journal_step = record {
  passes = λ source disk old new i. HoldsOld disk old.disk i.chart i.history;
  stops = λ source disk old new i s. (stop : OpenFault) × (s ≡ status_of_opening stop) × StopsOpeningOld disk old.disk new.disk stop;
  untouched = λ disk old new. new.disk ≡ old.disk;
  ready = λ source disk old new i. IsSure disk old.disk new.disk × HoldsOld disk old.disk i.chart i.history;
}

-- its copy is made
abbrev pub copy_step : StepMeaning
copy_step = record {
  passes = λ source disk old new i. OnSecond (λ from to. HasCopied disk from to i.chart i.history) old.disk2 new.disk2;
  stops = λ source disk old new i s. (stop : MakeFault) × (s ≡ status_of_copying (length i.history) stop)
      × OnSecond (λ from to. StopsCopying disk from to i.chart i.history stop) old.disk2 new.disk2
      × HasNotFailed disk old.disk new.disk × IsUnwritten disk old.disk new.disk;
  untouched = λ disk old new. new.disk2 ≡ old.disk2;
  ready = λ source disk old new i. OnSecond (λ from to. IsSure disk from to × IsMakeable disk from) old.disk2 new.disk2
      × (length (file_of i.chart i.history) ≤ most_disk_bytes);
}
