-- What a crash at some moment since the opening of books may have left.
use Rattle.std.specs.Prelude.{◌⊎◌, ℕ, List, Option, None, Some}
use mathlib.Core.List.{IsPrefix}
use Rattle.jrn_book.specs.declared.answer.Failed.{Failed}
use Rattle.day_model.specs.declared.entry.Entry.{Entry}
use Rattle.day_model.specs.Chart.{Chart}
use Rattle.corr_books.specs.Moments.{StandsBetween, StandsWithMore}

-- What a crash leaves of a book that had the first of these histories at its opening and has the last one now: the first one and a
-- front part of what was entered since, in its order; or, where a commit failed, the last one and these legal entries, which it was writing.
abbrev pub IsLeftInTurn : Chart → List Entry → List Entry → Option Failed → List Entry → List ℕ → Type 0
IsLeftInTurn chart first last None more image = StandsBetween chart first last image
IsLeftInTurn chart first last (Some failed) more image = StandsBetween chart first last image ⊎ StandsWithMore chart last failed.day failed.most more image
