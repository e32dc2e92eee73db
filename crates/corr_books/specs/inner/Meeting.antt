-- What an answer makes of the writer, and how the pass learns it.
use Rattle.std.specs.Prelude.{◌≡◌, ℕ, ◌+◌, ◌<◌, ◌≤◌, List, [], ◌∷◌, ◌++◌, length, max, Option, Some, None, Ok, Err}
use mathlib.Core.List.{IsPrefix}
use Rattle.corr_ids.specs.declared.day.Day.{Day}
use Rattle.day_model.specs.declared.entry.Entry.{Entry}
use Rattle.day_model.specs.declared.entry.Outcome.{Outcome}
use Rattle.day_model.specs.declared.pay.Pay.{Pay}
use Rattle.day_model.specs.Log.{most_entries}
use Rattle.front_word.specs.declared.view.Act.{Act}
use Rattle.front_word.specs.Known.{WriterKnows, PassKnows, with_place}
use Rattle.front_word.specs.Rule.{OwedPast}
use Rattle.jrn_book.specs.Answers.{Answer}
use Rattle.jrn_book.specs.declared.answer.Committed.TheVariants.{New, Kept}
use Rattle.jrn_book.specs.declared.answer.CommitFault.TheVariants.{Conflict, Full, DiskFault, Broken, Memory}
use Rattle.corr_books.specs.Telling.{place_of}

-- the entry that a pay became on a day, tagged with a pass
abbrev pub act_of : ℕ → Pay → Day → Outcome → Act
act_of number pay day outcome = record { by = number; entry = record { pay = pay; day = day; outcome = outcome } }

-- the writer has published one more entry
abbrev pub publishing : WriterKnows → Act → WriterKnows
publishing w act = record w { acts = w.acts ++ act ∷ [] }

-- and owes it to the pass
abbrev pub owing : WriterKnows → Act → WriterKnows
owing w act = record w { acts = w.acts ++ act ∷ []; owed = Some act.by }

-- the writer's mark is no less than a count
abbrev pub marking : WriterKnows → ℕ → WriterKnows
marking w count = record w { mark = max w.mark count }

-- what an answer to a pay on a day tells the writer: the entry, tagged with the pass, or the disk's count of faults
abbrev pub writer_after : WriterKnows → ℕ → Pay → Day → Answer → WriterKnows
writer_after w number pay day (Ok (New place outcome)) = publishing w (act_of number pay day outcome)
writer_after w number pay day (Ok (Kept place outcome)) = w
writer_after w number pay day (Err (Conflict place)) = w
writer_after w number pay day (Err (Full entries end need)) = w
writer_after w number pay day (Err (DiskFault before after)) = marking w after
writer_after w number pay day (Err (Broken from now)) = marking w now
writer_after w number pay day (Err Memory) = w

-- The pass has met the writer before what it did and after it. Before, nothing had been added for this pass.
pub record HasMet (w w' : WriterKnows) (place : Option ℕ) (old new : PassKnows) : Type 0 where
  pub table : new.table ≡ old.table
  pub number : new.number ≡ old.number
  pub base : new.base ≡ old.base
  pub known : new.known ≡ w'.acts
  pub mark : new.mark ≡ w'.mark
  pub before : IsPrefix old.known w.acts
  pub seen : old.seen ≤ length w.acts
  pub looked : length w'.acts ≤ new.seen
  pub marked : old.mark ≤ w.mark
  pub owed : OwedPast w.acts (length old.known) old.number None
  pub mine : new.mine ≡ with_place old.mine place

-- it has, unless there was no memory
abbrev pub MeetsAfter : WriterKnows → WriterKnows → Answer → PassKnows → PassKnows → Type 0
MeetsAfter w w' (Ok committed) old new = HasMet w w' (place_of (Ok committed)) old new
MeetsAfter w w' (Err (Conflict place)) old new = HasMet w w' None old new
MeetsAfter w w' (Err (Full entries end need)) old new = HasMet w w' None old new
MeetsAfter w w' (Err (DiskFault before after)) old new = HasMet w w' None old new
MeetsAfter w w' (Err (Broken from now)) old new = HasMet w w' None old new
MeetsAfter w w' (Err Memory) old new = new ≡ old

-- a place that is new is the next one
abbrev pub IsNext : List Entry → List Act → Answer → Type 0
IsNext base log (Ok (New place outcome)) = (place ≡ length base + length log + 1) × (length base + length log < most_entries)
IsNext base log (Ok (Kept place outcome)) = Unit {0}
IsNext base log (Err fault) = Unit {0}
