-- Batches: pays that are answered one after another, and whose entries come to the disk together.
use Rattle.std.specs.Prelude.{ℕ, Bool, true, false, List, None, Ok, Err}
use Rattle.day_model.specs.declared.entry.Entry.{Entry}
use Rattle.jrn_book.specs.Answers.{Answer}
use Rattle.jrn_book.specs.declared.answer.CommitFault.TheVariants.{Conflict, Full}
use Rattle.jrn_book.specs.Batches.{Stage}

-- where no commit failed
abbrev pub untouched : List Entry → ℕ → Stage
untouched history faults = record { history = history; failed = None; faults = faults }

-- an answer comes of books in which no commit had failed, and of a disk that didn't fail
abbrev pub is_tried : Answer → Bool
is_tried (Ok committed) = true
is_tried (Err (Conflict place)) = true
is_tried (Err (Full entries end need)) = true
is_tried (Err _) = false
