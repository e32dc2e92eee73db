-- What a pass knows after a call of `book`, and what the answer says by it.
use Rattle.std.specs.Prelude.{◌≡◌, ℕ, ◌+◌, ◌≤◌, Bool, true, false, List, length, take, slice_get, Option, Some, None, Ok, Err}
use mathlib.Core.List.{IsPrefix}
use Rattle.corr_text.specs.Faults.{Rose}
use Rattle.day_model.specs.declared.entry.Entry.{Entry}
use Rattle.day_model.specs.declared.entry.Outcome.{Outcome}
use Rattle.day_model.specs.declared.pay.Pay.{Pay}
use Rattle.day_model.specs.Balance.{outcome_of}
use Rattle.day_model.specs.Legal.{IsLegal}
use Rattle.day_model.specs.Next.{entered_at}
use Rattle.front_word.specs.declared.view.Act.{Act}
use Rattle.front_word.specs.Known.{PassKnows, with_place}
use Rattle.jrn_book.specs.Answers.{Answer, FindsNoRoom, HasRoomFor, IsAnswered, StandsAt, need_of}
use Rattle.jrn_book.specs.Journal.{file_of}
use Rattle.jrn_book.specs.declared.answer.Committed.TheVariants.{New, Kept}
use Rattle.jrn_book.specs.declared.answer.CommitFault.TheVariants.{Conflict, Full, DiskFault, Broken, Memory}
use Rattle.corr_books.specs.Opening.{Opening}
use Rattle.corr_books.specs.Stand.{history_of}

-- the history as a pass knows it: that at the opening, and the entries that it knows
abbrev pub known_to : Opening → PassKnows → List Entry
known_to o p = history_of o.base p.known

-- the entry that a pay became on the day of the books
abbrev pub entry_on : Opening → Pay → Outcome → Entry
entry_on o pay outcome = record { pay = pay; day = o.day; outcome = outcome }

-- A pass knows no less than before, and no fewer entries than it had seen, and has seen all that it knows; the history that it knows
-- is legal, and its mark doesn't fall.
pub record Grows (o : Opening) (old new : PassKnows) : Type 0 where
  pub number : new.number ≡ old.number
  pub known : IsPrefix old.known new.known
  pub seen : old.seen ≤ length new.known
  pub looked : length new.known ≤ new.seen
  pub legal : IsLegal o.accounts (known_to o new)
  pub mark : old.mark ≤ new.mark

-- no entry past those that the pass knew is tagged with it
abbrev pub NothingAdded : PassKnows → PassKnows → Type 0
NothingAdded old new = (i : ℕ) (a : Act) → slice_get new.known i ≡ Some a → length old.known ≤ i → a.by ≡ old.number → ⊥

-- there is room for the pay after this history, whose file has its closed gate at this place
pub record ShowsRoom (o : Opening) (pay : Pay) (history : List Entry) : Type 0 where
  pub end : ℕ
  pub end_is : end + 1 ≡ length (file_of o.accounts history)
  pub room : HasRoomFor history end (need_of o.accounts history pay o.day)

-- The place is past all that the pass knew. There stands the pay with the day of the books and the outcome that the entries
-- before it give, tagged with this pass; no other such entry was added. There was room for it after the entries before it.
pub record IsAdded (o : Opening) (pay : Pay) (old new : PassKnows) (place : ℕ) (outcome : Outcome) : Type 0 where
  pub at : ℕ
  pub place_is : place ≡ length o.base + at + 1
  pub past : length old.known ≤ at
  pub there : slice_get new.known at ≡ Some record { by = old.number; entry = entry_on o pay outcome }
  pub decided : outcome ≡ outcome_of o.accounts (history_of o.base (take at new.known)) pay
  pub room : ShowsRoom o pay (history_of o.base (take at new.known))
  pub alone : (i : ℕ) (a : Act) → slice_get new.known i ≡ Some a → length old.known ≤ i → a.by ≡ old.number → i ≡ at

-- the pay is new after this history and finds no room there, on the day and for the accounts of the books
abbrev pub ShowsFull : Opening → Pay → List Entry → ℕ → ℕ → ℕ → Type 0
ShowsFull o pay history entries end need = FindsNoRoom o.accounts history pay o.day entries end need

-- What each answer says, shown by what the pass knows then: New, the entry that was added; Kept, the same pay at the place, with
-- the outcome; Conflict, another pay with its reference; Full, that there is no room; DiskFault, that the reference is missing, that
-- the disk's count of faults rose from that at the opening, up to the pass's mark, and that the pass knew of no failure before; Broken,
-- that it has risen since the opening, up to the pass's mark. Nothing tagged with the pass was added but by New.
abbrev pub Says : Opening → Pay → PassKnows → PassKnows → Answer → Type 0
Says o pay old new (Ok (New place outcome)) = IsAdded o pay old new place outcome
Says o pay old new (Ok (Kept place outcome)) =
    ((stands : StandsAt (known_to o new) pay place true) × (stands.entry.outcome ≡ outcome)) × NothingAdded old new
Says o pay old new (Err (Conflict place)) = StandsAt (known_to o new) pay place false × NothingAdded old new
Says o pay old new (Err (Full entries end need)) = ShowsFull o pay (known_to o new) entries end need × NothingAdded old new
Says o pay old new (Err (DiskFault before after)) =
    (before ≡ o.at_open) × Rose before after × (after ≤ new.mark) × (entered_at pay.mir (known_to o new) ≡ None) × NothingAdded old new × (old.mark ≤ o.at_open)
Says o pay old new (Err (Broken from now)) = (from ≡ o.at_open) × Rose from now × (now ≤ new.mark) × NothingAdded old new
Says o pay old new (Err Memory) = Unit {0}

-- the place that an answer adds to the pass's own
abbrev pub place_of : Answer → Option ℕ
place_of (Ok (New place outcome)) = Some place
place_of (Ok (Kept place outcome)) = Some place
place_of (Err fault) = None

-- Broken comes first: so each answer but DiskFault, Broken and Memory comes of books in which no commit had failed
abbrev pub is_of_whole : Answer → Bool
is_of_whole (Ok committed) = true
is_of_whole (Err (Conflict place)) = true
is_of_whole (Err (Full entries end need)) = true
is_of_whole (Err _) = false

-- Of `book` with this pay: what the pass knows after the answer, what the answer says, that the pass's mark isn't above the disk's
-- count at the opening where no commit had failed, and which place became the pass's own; where memory runs out the pass is as before.
pub record Told (o : Opening) (pay : Pay) (old : PassKnows) (answer : Answer) (new : PassKnows) : Type 0 where
  pub grows : IsAnswered answer → Grows o old new
  pub says : Says o pay old new answer
  pub whole : is_of_whole answer ≡ true → new.mark ≤ o.at_open
  pub mine : new.mine ≡ with_place old.mine (place_of answer)
  pub memory : answer ≡ Err Memory → new ≡ record old { spare = new.spare }
