-- What a crash at some moment since the opening of books may have left.
use Rattle.std.specs.Prelude.{◌≡◌, ◌⊎◌, ℕ, ◌≤◌, All, List, ◌++◌, length}
use mathlib.Core.List.{IsPrefix}
use Rattle.corr_disk.specs.declared.disk.Disk as disks
use Rattle.corr_ids.specs.declared.day.Day.{Day}
use Rattle.day_model.specs.declared.entry.Entry.{Entry}
use Rattle.day_model.specs.Chart.{Chart}
use Rattle.day_model.specs.Legal.{IsLegal}
use Rattle.jrn_book.specs.Journal.{StandsForBook}
use Rattle.corr_books.specs.Opening.{Opening}

-- the bytes stand for a history that goes on from the first of these, and with which the last begins
pub record StandsBetween (chart : Chart) (first last : List Entry) (image : List ℕ) : Type 0 where
  pub history : List Entry
  pub goes_on : IsPrefix first history
  pub begins : IsPrefix history last
  pub stands : StandsForBook image chart history

-- the bytes stand for the history with these entries more, which are at most so many, all of this day, and with them it is legal
pub record StandsWithMore (chart : Chart) (history : List Entry) (day : Day) (most : ℕ) (more : List Entry) (image : List ℕ) : Type 0 where
  pub few : length more ≤ most
  pub of_day : All (λ e. e.day ≡ day) more
  pub legal : IsLegal chart (history ++ more)
  pub stands : StandsForBook image chart (history ++ more)

-- At each moment since the opening a crash leaves bytes that have P. Of a crash since an earlier moment: it leaves such bytes, or
-- what it might have left before the opening, which the name of the books tells.
pub record LeavesSince {D : Type 0} (disk : disks.Ghosts D) (o : Opening) (past : ℕ → List ℕ → Type 0) (d : D) (P : List ℕ → Type 0) : Type 0 where
  pub later : o.since ≤ disk.moment d
  pub each : (image : List ℕ) → disk.left_since d o.since image → P image
  pub before : (t : ℕ) (image : List ℕ) → t ≤ o.since → disk.left_since d t image → past t image ⊎ P image
