-- What opening books tells of the bytes of the disk.
use Rattle.std.specs.Prelude.{◌≡◌, ℕ, ◌<ℤ◌, Bool, true, IsTrue, List, [], ◌∷◌, ◌++◌, IfSome, is_some, Result, Ok, Err}
use Rattle.corr_ids.specs.declared.day.Day.{Day}
use Rattle.day_model.specs.declared.entry.Entry.{Entry}
use Rattle.day_model.specs.Chart.{Chart}
use Rattle.day_model.specs.Laws.{IsLatest}
use Rattle.jrn_book.specs.Journal.{IsJournal}
use Rattle.jrn_book.specs.Opening.{Finding, book, no_book, other_version, faulty, IsFound, BookOpenCause, found_by}
use Rattle.jrn_file.specs.Reading.{Reading}
use Rattle.corr_books.specs.declared.opening.BooksFault.{BooksFault}
use Rattle.corr_books.specs.declared.opening.BooksFault.TheVariants.{Open, DateBack}
use Rattle.corr_books.specs.Opening.{Parts}

-- what opening books answers: their parts, or the disk and a fault
abbrev pub OpenedBooks : Type 0 → Type 0
OpenedBooks D = Result (Parts D) (D × BooksFault)

-- the last entry has this day
pub record EndsOn (history : List Entry) (last : Day) : Type 0 where
  pub before : List Entry
  pub entry : Entry
  pub is : history ≡ before ++ entry ∷ []
  pub day_is : entry.day ≡ last

-- the last entry has this day, which is after the day of the books
pub record IsDateBack (history : List Entry) (day last : Day) : Type 0 where
  pub ends : EndsOn history last
  pub later : day.0 <ℤ last.0

-- a refusal is what the bytes give; a fault of the disk and out of memory say nothing of them
abbrev pub RefusesAs : Day → BooksFault → Finding → Type 0
RefusesAs day (Open fault) finding = IfSome (found_by fault) (λ found. found ≡ finding)
RefusesAs day (DateBack last) (book chart history) = IsDateBack history day last
RefusesAs day (DateBack last) no_book = ⊥
RefusesAs day (DateBack last) (other_version found) = ⊥
RefusesAs day (DateBack last) (faulty at) = ⊥

-- An answer is what the bytes give: books of the accounts and the history that they hold, of which no entry has a later day; or a refusal.
abbrev pub OpensAs : {D : Type 0} → Day → OpenedBooks D → Finding → Type 0
OpensAs day (Ok parts) finding = (finding ≡ book parts.accounts parts.base) × IsLatest parts.base day
OpensAs day (Err refused) finding = RefusesAs day refused.1 finding

-- the fault comes of the bytes, and not of the disk or of memory
abbrev pub is_of_bytes : BooksFault → Bool
is_of_bytes (Open fault) = is_some (found_by fault)
is_of_bytes (DateBack last) = true

-- so does the answer
abbrev pub tells_bytes : {D : Type 0} → OpenedBooks D → Bool
tells_bytes (Ok parts) = true
tells_bytes (Err refused) = is_of_bytes refused.1

-- where the answer comes of the bytes, it is what they give
abbrev pub TellsOf : {D : Type 0} → Reading → Day → OpenedBooks D → Type 0
TellsOf reading day answer = IsTrue (tells_bytes answer) → (finding : Finding) × IsFound reading finding × OpensAs day answer finding

-- whatever the bytes give is the answer, unless the disk or memory failed
abbrev pub IsGivenBy : {D : Type 0} → Reading → Day → OpenedBooks D → Type 0
IsGivenBy reading day answer = (finding : Finding) → IsFound reading finding → OpensAs day answer finding

-- the journal that was opened, whose last entry has this day, which is after the day of the books
pub record OpensBack (reading : Reading) (honest : Bool) (day last : Day) : Type 0 where
  pub accounts : Chart
  pub history : List Entry
  pub journal : IsJournal accounts history
  pub found : IsTrue honest → IsFound reading (book accounts history)
  pub back : IsDateBack history day last

-- where books are refused for the day of the last entry, there is such a journal
abbrev pub ShowsBack : Reading → Bool → Day → BooksFault → Type 0
ShowsBack reading honest day (Open fault) = Unit {0}
ShowsBack reading honest day (DateBack last) = OpensBack reading honest day last

-- a fault of the disk tells its counts; where the disk didn't fail, its count is as it was
abbrev pub BooksCause : ℕ → ℕ → BooksFault → Type 0
BooksCause old new (Open fault) = BookOpenCause old new fault
BooksCause old new (DateBack last) = new ≡ old
