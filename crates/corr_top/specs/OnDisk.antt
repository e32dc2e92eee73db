-- What stands on the journal's disk, and what was done to it.
use Rattle.std.specs.Prelude.{◌≡◌, ◌⊎◌, ℕ, IsTrue, IfSome, List}
use Rattle.corr_books.specs.Moments.{StandsBetween, StandsWithMore}
use Rattle.corr_disk.specs.declared.disk.Disk as outside
use Rattle.corr_disk.specs.Disk.{LeavesOnly, Only}
use Rattle.corr_text.specs.Faults.{Rose}
use Rattle.corr_ids.specs.declared.day.Day.{Day}
use Rattle.day_model.specs.declared.entry.Entry.{Entry}
use Rattle.day_model.specs.Chart.{Chart}
use Rattle.jrn_codec.specs.Header.{head_bytes}
use Rattle.jrn_file.specs.Faults.{MakeCause}
use Rattle.jrn_file.specs.Making.{IsOther, IsUnmade, IsUnmadeOrMade}
use Rattle.jrn_file.specs.Reading.{opened_of}
use Rattle.jrn_file.specs.Untouched.{IsUntouched}
use Rattle.jrn_file.specs.declared.fault.MakeFault.{MakeFault}
use Rattle.jrn_file.specs.declared.fault.OpenFault.{OpenFault}
use Rattle.jrn_book.specs.declared.answer.Failed.{Failed}
use Rattle.jrn_book.specs.Book.{IsLeftBy}
use Rattle.jrn_book.specs.Journal.{IsJournal, StandsForBook}
use Rattle.jrn_book.specs.Opening.{IsFound, BookOpenCause, found_by}

-- a commit of this day failed, which was writing at most so many entries
abbrev pub up_to : ℕ → Day → Failed
up_to most day = record { day = day; most = most }

module _ {D : Type 0} (d : outside.Ghosts D) where
  -- a disk holds the journal of these accounts and this history, and a crash leaves nothing else
  pub record IsOnDisk (disk : D) (chart : Chart) (history : List Entry) : Type 0 where
    pub stands : IsTrue (d.honest disk) → StandsForBook (d.reads disk) chart history
    pub durable : IsTrue (d.honest disk) → Only (d.reads disk) (d.may_leave disk)

  -- it holds their journal, which may be opened: each has a record, and the history is legal
  pub record HoldsJournal (disk : D) (chart : Chart) (history : List Entry) : Type 0 where
    pub journal : IsJournal chart history
    pub stands : IsTrue (d.honest disk) → StandsForBook (d.reads disk) chart history

  -- nothing was written to it
  abbrev pub IsUnwritten : D → D → Type 0
  IsUnwritten old new = IsUntouched d.reads d.may_leave d.moment d.left_since old new

  -- no call of it failed
  abbrev pub HasNotFailed : D → D → Type 0
  HasNotFailed old new = d.faults new ≡ d.faults old

  -- nothing stands on it but what a journal may be made over
  abbrev pub IsMakeable : D → Type 0
  IsMakeable disk = IsTrue (d.honest disk) → (first : ℕ) → IsOther (d.reads disk) first → ⊥

  -- over bytes that a journal may be made over, a crash at any moment leaves a disk on which nothing is made yet, or the new journal
  abbrev pub MakesInTurn : D → D → Chart → Type 0
  MakesInTurn old new chart =
      IsTrue (d.honest old) → Only (d.reads old) (d.may_leave old) → IsUnmade (d.reads old) → LeavesOnly d.moment d.left_since old new (IsUnmadeOrMade (head_bytes chart))

  -- How the making of these accounts' journal stops: by its cause. Where something else stands nothing is written, and a crash at
  -- any moment leaves a disk on which nothing is made yet, or the new journal.
  pub record StopsMaking (old new : D) (chart : Chart) (fault : MakeFault) : Type 0 where
    pub cause : MakeCause (d.faults old) (d.faults new) (λ first. IsTrue (d.honest old) → IsOther (d.reads old) first) fault
    pub untouched : (first : ℕ) → IsTrue (d.honest old) → IsOther (d.reads old) first → IsUnwritten old new
    pub any_moment : MakesInTurn old new chart

  -- how its opening stops: by its cause, and what that says of the bytes; nothing is written
  pub record StopsOpening (old new : D) (fault : OpenFault) : Type 0 where
    pub cause : BookOpenCause (d.faults old) (d.faults new) fault
    pub told : IsTrue (d.honest old) → IfSome (found_by fault) (IsFound (opened_of (d.reads old)))
    pub untouched : IsUnwritten old new

  -- What the entering of pays of a day left, whether it came to its end or not: this history alone, or, where a call failed, it
  -- or it and all of the legal entries of that day that one call was writing, at most so many.
  abbrev pub IsLeft : D → D → Chart → List Entry → Day → ℕ → Type 0
  IsLeft old new chart history day most =
      (HasNotFailed old new × IsOnDisk new chart history) ⊎ (Rose (d.faults old) (d.faults new) × IsLeftBy (d.honest new) (d.may_leave new) chart history (up_to most day))

  -- What a crash at a moment of it leaves: what it might have left before; or the history at the opening and a front part of what was
  -- entered since, in its order; or, where a call failed, the last history and these legal entries of that day, which one call was writing.
  abbrev pub IsLeftMidway : D → D → Chart → List Entry → List Entry → Day → ℕ → List Entry → List ℕ → Type 0
  IsLeftMidway old new chart first last day most more image =
      d.may_leave old image ⊎ (StandsBetween chart first last image ⊎ (Rose (d.faults old) (d.faults new) × StandsWithMore chart last day most more image))

  -- so it is at each moment of the call, with the same entries
  abbrev pub LeavesMidway : D → D → Chart → List Entry → List Entry → Day → ℕ → Type 0
  LeavesMidway old new chart first last day most =
      IsTrue (d.honest old) → (more : List Entry) × LeavesOnly d.moment d.left_since old new (IsLeftMidway old new chart first last day most more)
