-- What is told of the pages that were received.
use Rattle.std.specs.Prelude.{ℕ, ◌-◌, nat_lt, ◌==◌, ◌&&◌, Bool, false, List, [], ◌∷◌, ◌++◌, length, codes, Option, Some, None, option_and_then, Result, Ok, Err, if◌then◌else◌}
use Rattle.std.specs.Option.{option_map_or}
use Rattle.corr_ids.specs.Day.{yymmdd_of}
use Rattle.corr_report.specs.Lines.{spaced}
use Rattle.day_model.specs.Chart.{Chart, account_at, accounts_of, has_id, is_same_ccy, number_of_first}
use Rattle.corr_ids.specs.Kinds.{nostro}
use Rattle.day_model.specs.declared.account.Account.{Account}
use Rattle.day_model.specs.declared.account.AcctNo.{AcctNo}
use Rattle.day_model.specs.declared.entry.Entry.{Entry}
use Rattle.mt950.specs.Joining.{joined_of, last_of}
use Rattle.mt950.specs.declared.joining.PageFault.{PageFault}
use Rattle.mt950.specs.declared.joining.Statement.{Statement}
use Rattle.mt950.specs.declared.page.Page950.{Page950}
use Rattle.reconcile.specs.Comparison.{compared_of, ours_of}
use Rattle.reconcile.specs.Lines.{compared_lines, fault_words}
use Rattle.reconcile.specs.Pieces.{pieces_of}

-- a line feed
abbrev pub line_feed : List ℕ
line_feed = 10 ∷ []

-- an account is a nostro account in this currency, with these decimals
abbrev pub is_of_statement : Statement → Account → Bool
is_of_statement s account = (account.kind == nostro) && is_same_ccy account.ccy s.ccy && (account.decimals == s.decimals)

-- our account of which a statement is: the one with its id, if it is such an account
abbrev pub nostro_of : Chart → Statement → Option AcctNo
nostro_of chart s =
    option_and_then (λ n. if option_map_or (is_of_statement s) (account_at chart n.0) false then Some n else None) (number_of_first (has_id s.account) (accounts_of chart))

-- the most of our entries that all statements together are compared with: three legs of each entry of a journal, so that none is left out
-- where each account and day come once (`NoneLeftOut`)
abbrev pub most_compared : ℕ
most_compared = 300000

-- a statement of our account n has more entries of ours than may still be compared
abbrev pub is_left_out : ℕ → Chart → List Entry → Statement → AcctNo → Bool
is_left_out room chart entries s n = nat_lt room (length (ours_of chart n.0 entries s))

-- its lines against our entries; or that it is left out
abbrev pub statement_lines : ℕ → Chart → List Entry → Statement → AcctNo → List ℕ
statement_lines room chart entries s n =
    if is_left_out room chart entries s n then spaced (codes "LEFT" ∷ codes "OUT" ∷ []) ++ line_feed
    else line_feed ++ compared_lines s.decimals (ours_of chart n.0 entries s) s.lines (compared_of chart entries n.0 s)

-- how many entries may be compared after it
abbrev pub lines_left : ℕ → Chart → List Entry → Statement → AcctNo → ℕ
lines_left room chart entries s n = if is_left_out room chart entries s n then room else room - length (ours_of chart n.0 entries s)

-- what is told of a statement after its name
abbrev pub statement_text : ℕ → Chart → List Entry → Statement → List ℕ
statement_text room chart entries s =
    option_map_or (statement_lines room chart entries s) (nostro_of chart s) (spaced (codes "UNKNOWN" ∷ []) ++ line_feed)

-- how many entries may be compared after it
abbrev pub statement_left : ℕ → Chart → List Entry → Statement → ℕ
statement_left room chart entries s = option_map_or (lines_left room chart entries s) (nostro_of chart s) room

-- `STATEMENT NCORREUR 240603`, by the last page
abbrev pub statement_heading : Page950 → List ℕ
statement_heading page = codes "STATEMENT" ++ spaced (page.account ∷ yymmdd_of page.closing.day ∷ [])

-- what is told of the pages after their name, with amounts of so many decimals where they are no statement
abbrev pub joined_text : ℕ → Chart → List Entry → ℕ → Result Statement PageFault → List ℕ
joined_text room chart entries decimals (Ok s) = statement_text room chart entries s
joined_text room chart entries decimals (Err fault) = fault_words decimals fault ++ line_feed

-- what is told of pages that belong together, where so many entries may be compared
abbrev pub piece_text : ℕ → Chart → List Entry → List Page950 → List ℕ
piece_text room chart entries [] = []
piece_text room chart entries (page ∷ pages) =
    statement_heading (last_of page pages) ++ joined_text room chart entries page.decimals (joined_of (page ∷ pages))

-- how many entries may be compared after them
abbrev pub joined_left : ℕ → Chart → List Entry → Result Statement PageFault → ℕ
joined_left room chart entries (Ok s) = statement_left room chart entries s
joined_left room chart entries (Err fault) = room

-- the same of pages that belong together
abbrev pub piece_left : ℕ → Chart → List Entry → List Page950 → ℕ
piece_left room chart entries [] = room
piece_left room chart entries (page ∷ pages) = joined_left room chart entries (joined_of (page ∷ pages))

-- what is told of pieces one after another, where so many entries may be compared
abbrev pub told_from : ℕ → Chart → List Entry → List (List Page950) → List ℕ
told_from room chart entries [] = []
told_from room chart entries (piece ∷ pieces) =
    piece_text room chart entries piece ++ told_from (piece_left room chart entries piece) chart entries pieces

-- what is told of all pages, piece by piece
abbrev pub breaks_of : Chart → List Entry → List Page950 → List ℕ
breaks_of chart entries pages = told_from most_compared chart entries (pieces_of pages)
