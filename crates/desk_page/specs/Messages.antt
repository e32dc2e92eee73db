-- The messages of a file on the page.
use Rattle.std.specs.Prelude.{ℕ, ℤ, pos, ◌-ℤ◌, int_le, List, [], ◌++◌, Option, Some, None, if◌then◌else◌}
use Rattle.std.specs.List.{flat_map, list_any}
use Rattle.corr_text.specs.Digits.{padded}
use Rattle.corr_text.specs.declared.fault.Code.{Code}
use Rattle.corr_text.specs.declared.fault.Fault.{Fault}
use Rattle.corr_ids.specs.declared.mir.Mir.{Mir}
use Rattle.corr_money.specs.Amounts.{signed_text}
use Rattle.corr_report.specs.Lines.{numbered}
use Rattle.corr_report.specs.Report.{tag_text}
use Rattle.day_model.specs.Balance.{balance_of}
use Rattle.day_model.specs.Chart.{Chart, account_at}
use Rattle.day_model.specs.declared.account.Account.{Account}
use Rattle.day_model.specs.declared.entry.Entry.{Entry}
use Rattle.day_model.specs.declared.pay.Side.{Side}
use Rattle.desk_page.specs.declared.mark.Piece.{Piece}
use Rattle.desk_page.specs.declared.mark.Piece.TheVariants as piece
use Rattle.desk_page.specs.declared.group.Group.{Group}
use Rattle.desk_page.specs.declared.group.Group.TheVariants.{Ask, ByHand, Disputed, Fund, InOrder, Mend, Nothing, Return, Room, Stray, Tables}
use Rattle.desk_page.specs.declared.row.Payment.{Payment}
use Rattle.desk_page.specs.declared.row.Row.{Row}
use Rattle.desk_page.specs.declared.row.Row.TheVariants.{Asks, Refused, Told}
use Rattle.desk_page.specs.declared.row.Standing.{Standing}
use Rattle.desk_page.specs.declared.row.Standing.TheVariants.{Booked, Conflict, New, Unfunded, Unrouted}
use Rattle.desk_page.specs.Books.{room_of}
use Rattle.desk_page.specs.Cells.{amount_cell, bank_cell, cell, day_cell, number_cell, place_cell}
use Rattle.desk_page.specs.Escaped.{escaped}
use Rattle.desk_page.specs.Markup.{markup}
use Rattle.desk_page.specs.Reasons.{reason_of}
use Rattle.desk_page.specs.Groups.{is_in, needing, resting}

-- ---- the cells of a message

-- what a payment says: its sender, field 20, amount, value date and beneficiary
abbrev pub payment_cells : Payment → List ℕ
payment_cells p = bank_cell p.sender ++ cell p.reference ++ amount_cell p.amount ++ day_cell p.value ++ cell p.payee

-- what is lacking: the amount less what the account has; nothing where it has it by now
abbrev pub lacking : Account → ℤ → List ℕ
lacking account short = if int_le short (pos 0) then markup piece.HasRoom else markup piece.Lacks ++ signed_text account.decimals short

-- an account that lacks an amount, and the place of the entry
abbrev pub lacking_cell : ℕ → Account → ℤ → List ℕ
lacking_cell place account short =
    markup piece.CellBegin ++ escaped account.id ++ lacking account short ++ markup piece.PlaceOf ++ padded 8 place ++ markup piece.CellEnd

-- the same of the account of a leg, after these entries
abbrev pub lacking_of : Chart → List Entry → ℕ → ℕ → Side → ℕ → Option Account → List ℕ
lacking_of chart entries place n side amount (Some account) = lacking_cell place account (pos amount -ℤ room_of side account (balance_of chart entries n))
lacking_of chart entries place n side amount None = []

-- a code, and what it says
abbrev pub unrouted_cell : Code → List ℕ
unrouted_cell code = markup piece.CellBegin ++ escaped code.0 ++ markup piece.Comma ++ escaped (reason_of code) ++ markup piece.CellEnd

-- where a payment stands
abbrev pub standing_cell : Chart → List Entry → Standing → List ℕ
standing_cell chart entries New = markup piece.NotEntered
standing_cell chart entries (Booked place) = place_cell piece.BookedAt place
standing_cell chart entries (Unfunded place account side amount) = lacking_of chart entries place account.0 side amount.0 (account_at chart account.0)
standing_cell chart entries (Conflict place) = place_cell piece.ConflictAt place
standing_cell chart entries (Unrouted code) = unrouted_cell code

-- a reference, if there is one
abbrev pub mir_cell : Option Mir → List ℕ
mir_cell (Some mir) = cell mir.0
mir_cell None = markup piece.NoCell

-- a message that tells of an account: an advice, or a page of a statement of this account
abbrev pub told_cell : Option (List ℕ) → List ℕ
told_cell (Some account) = markup piece.PageOf ++ escaped account ++ markup piece.CellEnd
told_cell None = markup piece.Advice

-- what is wrong with a message: the code, the tag, which of that tag it is, and what the code says
abbrev pub fault_cell : Fault → List ℕ
fault_cell fault =
    markup piece.CellBegin ++ escaped fault.code.0 ++ markup piece.Space ++ escaped (tag_text fault.tag) ++ markup piece.Space ++ padded 1 fault.nth
    ++ markup piece.Comma ++ escaped (reason_of fault.code) ++ markup piece.CellEnd

-- what is said of a message
abbrev pub row_cells : Chart → List Entry → Row → List ℕ
row_cells chart entries (Refused mir fault) = mir_cell mir ++ markup piece.NoCells ++ fault_cell fault
row_cells chart entries (Asks payment standing) = cell payment.mir.0 ++ payment_cells payment ++ standing_cell chart entries standing
row_cells chart entries (Told mir account) = cell mir.0 ++ markup piece.NoCells ++ told_cell account

-- the row of the n-th message
abbrev pub row_line : Chart → List Entry → ℕ → Row → List ℕ
row_line chart entries n row = markup piece.RowBegin ++ number_cell n ++ row_cells chart entries row ++ markup piece.RowEnd

-- the same where it is of this group
abbrev pub line_in : Chart → List Entry → Group → ℕ → Row → List ℕ
line_in chart entries group n row = if is_in group row then row_line chart entries n row else []

-- ---- a group

-- what is to be done with its messages
abbrev pub group_title : Group → Piece
group_title Mend = piece.MendTitle
group_title Ask = piece.AskTitle
group_title Return = piece.ReturnTitle
group_title Tables = piece.TablesTitle
group_title ByHand = piece.ByHandTitle
group_title Stray = piece.StrayTitle
group_title Fund = piece.FundTitle
group_title Room = piece.RoomTitle
group_title Disputed = piece.DisputedTitle
group_title Nothing = piece.NothingTitle
group_title InOrder = piece.OrderTitle

-- its messages, each with its number
abbrev pub group_lines : Chart → List Entry → Group → List Row → List ℕ
group_lines chart entries group rows = numbered (line_in chart entries group) 1 rows

-- what stands ahead of them, with the names of the columns
abbrev pub group_begin : Group → List ℕ
group_begin group = markup (group_title group) ++ markup piece.TableBegin ++ markup piece.PaymentColumns ++ markup piece.StandingColumns

-- the table of a group
abbrev pub whole_table : Chart → List Entry → List Row → Group → List ℕ
whole_table chart entries rows group = group_begin group ++ group_lines chart entries group rows ++ markup piece.TableEnd

-- where a message is of it
abbrev pub group_table : Chart → List Entry → List Row → Group → List ℕ
group_table chart entries rows group = if list_any (is_in group) rows then whole_table chart entries rows group else []

-- what needs somebody, by what to do
unfoldable pub needs_section : Chart → List Entry → List Row → List ℕ
needs_section chart entries rows = markup piece.Needs ++ flat_map (group_table chart entries rows) needing

-- all other messages
unfoldable pub rest_section : Chart → List Entry → List Row → List ℕ
rest_section chart entries rows = flat_map (group_table chart entries rows) resting
