-- A follower, and what it begins with.
use Rattle.std.specs.Prelude.{◌≡◌, ℕ, Bool, false, true, List, Option, Some, Result, Ok, Err}
use Rattle.corr_text.specs.Faults.{Rose}
use Rattle.jrn_file.specs.declared.fault.OpenFault.{OpenFault}
use Rattle.jrn_file.specs.File.{IsSettled, disk_of}
use Rattle.jrn_file.specs.Making.{IsUnmade}
use Rattle.jrn_file.specs.Reading.{opened_of}
use Rattle.jrn_codec.specs.Header.{head_bytes}
use Rattle.jrn_book.specs.Journal.{IsJournal, item_records}
use Rattle.jrn_book.specs.Opening.{Finding, IsFound, book, no_book, found_by}
use Rattle.standby.specs.declared.place.Place.{Place}
use Rattle.standby.specs.declared.place.Place.TheVariants.{Bare, Journal}
use Rattle.standby.specs.Held.{Held, IsHeld, IsOnDisk, nothing, journal}

-- what contracts see of a `Follower`: what it holds, its disk, the disk's count of faults when it began, and whether the disk failed since
pub record Following (D : Type 0) : Type 0 where
  pub held : Held
  pub disk : D
  pub at_open : ℕ
  pub broken : Bool

-- where it stands
abbrev pub held_in : {D : Type 0} → Place D → Held
held_in (Bare disk) = nothing
held_in (Journal past file) = journal past.accounts past.history

-- the disk there
abbrev pub disk_in : {D : Type 0} → Place D → D
disk_in (Bare disk) = disk
disk_in (Journal past file) = disk_of file

-- the count of faults of a follower's disk: that of its beginning, and one more where it failed
abbrev pub Counts : Bool → ℕ → ℕ → Type 0
Counts false at_open now = now ≡ at_open
Counts true at_open now = Rose at_open now

module _ {D : Type 0} (honest : D → Bool) (reads : D → List ℕ) (may_leave : D → List ℕ → Type 0) where
  -- what is held there is on the disk, ready for more
  abbrev pub IsKept : Place D → Type 0
  IsKept (Bare disk) = IsOnDisk honest reads may_leave disk nothing
  IsKept (Journal past file) =
      IsJournal past.accounts past.history × IsSettled honest reads may_leave file (head_bytes past.accounts) (item_records past.accounts past.history)

  -- what holds of a follower wherever it is seen
  pub record IsFollowing (faults : D → ℕ) (place : Place D) (at_open : ℕ) (broken : Bool) : Type 0 where
    pub good : IsHeld (held_in place)
    pub kept : broken ≡ false → IsKept place
    pub counts : Counts broken at_open (faults (disk_in place))

-- what bytes are to a follower: nothing yet, where a journal may be made on them, or else the journal of accounts and a history
abbrev pub BeginsAs : List ℕ → Held → Type 0
BeginsAs bytes nothing = IsUnmade bytes
BeginsAs bytes (journal chart history) = (IsUnmade bytes → ⊥) × IsFound (opened_of bytes) (book chart history)

-- what they are to whoever opens them as a journal: nothing yet is no journal
abbrev pub finding_of : Held → Finding
finding_of nothing = no_book
finding_of (journal chart history) = book chart history

-- what an answer says that bytes are, on which a journal can't be made
abbrev pub begun_in : {D : Type 0} → Result (Following D) (D × OpenFault) → Option Finding
begun_in (Ok follower) = Some (finding_of follower.held)
begun_in (Err refused) = found_by refused.1
