-- What all passes know together at the end, and what a crash leaves then.
use Rattle.std.specs.Prelude.{◌≡◌, ◌⊎◌, ℕ, ◌+◌, ◌≤◌, IsTrue, List, Some, length, slice_get}
use mathlib.Core.List.{IsPrefix}
use Rattle.corr_disk.specs.declared.disk.Disk as disks
use Rattle.corr_disk.specs.Disk.{Only}
use Rattle.corr_text.specs.Faults.{Rose}
use Rattle.day_model.specs.declared.entry.Entry.{Entry}
use Rattle.day_model.specs.Legal.{IsLegal}
use Rattle.front_word.specs.declared.view.Act.{Act}
use Rattle.front_word.specs.Known.{PassKnows}
use Rattle.front_word.specs.Rule.{Among}
use Rattle.jrn_book.specs.Book.{IsLeftBy}
use Rattle.jrn_book.specs.Journal.{StandsForBook}
use Rattle.corr_books.specs.Moments.{LeavesSince, StandsBetween, StandsWithMore}
use Rattle.corr_books.specs.Opening.{Opening}
use Rattle.corr_books.specs.Stand.{history_of}

-- what the pass knows is a beginning of this list, and has all of its own entries in it
pub record IsPart (log : List Act) (p : PassKnows) : Type 0 where
  pub known : IsPrefix p.known log
  pub own : (i : ℕ) (a : Act) → slice_get log i ≡ Some a → a.by ≡ p.number → slice_get p.known i ≡ Some a

-- the entry at this place of the list is tagged with one of the passes, among whose own places it is
pub record IsOwned (o : Opening) (passes : List PassKnows) (i : ℕ) (a : Act) : Type 0 where
  pub at : ℕ
  pub pass : PassKnows
  pub there : slice_get passes at ≡ Some pass
  pub tagged : a.by ≡ pass.number
  pub place : Among (length o.base + i + 1) pass.mine

-- The history at the end is that at the opening followed by one list. Each pass knows a beginning of it that has all entries of
-- its own; each entry is a pass's, and stands among its places; the history is legal, and each pass's mark is at most the disk's
-- count of faults.
pub record Closes (o : Opening) (history : List Entry) (faults : ℕ) (passes : List PassKnows) : Type 0 where
  pub log : List Act
  pub is : history ≡ history_of o.base log
  pub legal : IsLegal o.accounts history
  pub parts : (k : ℕ) (p : PassKnows) → slice_get passes k ≡ Some p → IsPart log p
  pub owned : (i : ℕ) (a : Act) → slice_get log i ≡ Some a → IsOwned o passes i a
  pub marks : (k : ℕ) (p : PassKnows) → slice_get passes k ≡ Some p → p.mark ≤ faults

-- the bytes of the disk stand for the closed history, a crash leaves nothing else, and the disk's count of faults is that at the opening
pub record StandsAlone {D : Type 0} (disk : disks.Ghosts D) (o : Opening) (history : List Entry) (d : D) : Type 0 where
  pub stands : IsTrue (disk.honest d) → StandsForBook (disk.reads d) o.accounts history
  pub durable : IsTrue (disk.honest d) → Only (disk.reads d) (disk.may_leave d)
  pub sure : disk.faults d ≡ o.at_open

-- The disk stands for the closed history alone; or, where its count of faults rose since the opening, every image stands for it,
-- or for it and the legal entries of the books' day that one commit was writing, at most as many as the name tells. Of a disk that
-- doesn't tell its bytes nothing is said but the count.
abbrev pub LeavesClosed : {D : Type 0} → disks.Ghosts D → Opening → List Entry → D → Type 0
LeavesClosed disk o history d =
    StandsAlone disk o history d
    ⊎ (Rose o.at_open (disk.faults d) × IsLeftBy (disk.honest d) (disk.may_leave d) o.accounts history (record { day = o.day; most = o.most }))

-- So it was at each moment since the opening: of a disk that tells its bytes a crash leaves the history at the opening and a front
-- part of what was entered since, in its order; or, where the count of faults rose, the closed history and the legal entries of one commit,
-- the same ones whenever it comes.
abbrev pub LeavesInTurn : {D : Type 0} → disks.Ghosts D → Opening → (ℕ → List ℕ → Type 0) → List Entry → D → Type 0
LeavesInTurn disk o past history d =
    IsTrue o.honest → (more : List Entry) × LeavesSince disk o past d (λ image. StandsBetween o.accounts o.base history image
    ⊎ (Rose o.at_open (disk.faults d) × StandsWithMore o.accounts history o.day o.most more image))
