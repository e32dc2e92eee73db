-- When no statement is left out.
use Rattle.std.specs.Prelude.{◌≡◌, ℕ, ◌+◌, ◌≤◌, List, [], ◌∷◌, length, slice_get, Option, Some, option_and_then, option_map, nat_lt, if◌then◌else◌}
use Rattle.std.specs.List.{filter_map, flat_map}
use Rattle.std.specs.Option.{option_map_or}
use Rattle.std.specs.Result.{result_ok}
use Rattle.day_model.specs.Chart.{Chart}
use Rattle.day_model.specs.Legal.{IsLegal}
use Rattle.day_model.specs.declared.account.AcctNo.{AcctNo}
use Rattle.day_model.specs.declared.entry.Entry.{Entry}
use Rattle.mt950.specs.Joining.{joined_of}
use Rattle.mt950.specs.declared.joining.Statement.{Statement}
use Rattle.mt950.specs.declared.page.Page950.{Page950}
use Rattle.reconcile.specs.Breaks.{breaks_of, most_compared, nostro_of, piece_left, piece_text}
use Rattle.reconcile.specs.Comparison.{ours_of}
use Rattle.reconcile.specs.Pieces.{pieces_of}

-- a statement with the account of ours that it is of
abbrev pub OurStatement : Type 0
OurStatement = AcctNo × Statement

-- the statement of an account of ours that pages are, if they are one
abbrev pub statement_in : Chart → List Page950 → Option OurStatement
statement_in chart pages = option_and_then (λ s. option_map (λ n. (n, s)) (nostro_of chart s)) (result_ok (joined_of pages))

-- those of pieces one after another
abbrev pub statements_in : Chart → List (List Page950) → List OurStatement
statements_in chart pieces = filter_map (statement_in chart) pieces

-- each account and day come once among them
abbrev pub ComeOnce : List OurStatement → Type 0
ComeOnce statements =
    (i j : ℕ) (a b : OurStatement) → slice_get statements i ≡ Some a → slice_get statements j ≡ Some b → a.0 ≡ b.0 → a.1.day ≡ b.1.day → i ≡ j

-- how many entries of ours are of its account and its day
abbrev pub entries_of : Chart → List Entry → OurStatement → ℕ
entries_of chart entries statement = length (ours_of chart statement.0.0 entries statement.1)

-- the same of pages; 0 where they are no statement of an account of ours
abbrev pub entries_for : Chart → List Entry → List Page950 → ℕ
entries_for chart entries pages = option_map_or (entries_of chart entries) (statement_in chart pages) 0

-- what is told of pages where all of these may be compared, so that they aren't left out
abbrev pub whole_text : Chart → List Entry → List Page950 → List ℕ
whole_text chart entries pages = piece_text (entries_for chart entries pages) chart entries pages

-- where each account and day come once among the statements that pages are, none of them is left out
abbrev pub NoneLeftOut : Type 0
NoneLeftOut =
    (chart : Chart) (entries : List Entry) (pages : List Page950) → IsLegal chart entries → ComeOnce (statements_in chart (pieces_of pages))
    → breaks_of chart entries pages ≡ flat_map (whole_text chart entries) (pieces_of pages)

-- how many entries of ours pieces are compared with in turn, where so many may be: those of each that isn't left out
abbrev pub compared_from : ℕ → Chart → List Entry → List (List Page950) → ℕ
compared_from room chart entries [] = 0
compared_from room chart entries (piece ∷ pieces) =
    (if nat_lt room (entries_for chart entries piece) then 0 else entries_for chart entries piece)
    + compared_from (piece_left room chart entries piece) chart entries pieces

-- whatever the pages are, all that are told are compared with at most 300,000 entries of ours
abbrev pub FewCompared : Type 0
FewCompared =
    (chart : Chart) (entries : List Entry) (pages : List Page950) → compared_from most_compared chart entries (pieces_of pages) ≤ most_compared
