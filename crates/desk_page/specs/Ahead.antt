-- Entries that are booked ahead of their value date.
use Rattle.std.specs.Prelude.{ℕ, Bool, ◌&&◌, int_le, int_lt, List, [], ◌++◌, Option, Some, None, slice_get, if◌then◌else◌}
use Rattle.corr_ids.specs.Day.{InCentury}
use Rattle.corr_ids.specs.declared.day.Day.{Day}
use Rattle.corr_report.specs.Lines.{numbered}
use Rattle.day_model.specs.Balance.{is_booked}
use Rattle.day_model.specs.Chart.{Chart, account_at}
use Rattle.day_model.specs.declared.account.Account.{Account}
use Rattle.day_model.specs.declared.entry.Entry.{Entry}
use Rattle.day_model.specs.declared.pay.Leg.{Leg}
use Rattle.desk_page.specs.declared.mark.Piece.TheVariants as piece
use Rattle.desk_page.specs.Cells.{amount_cell, cell, day_cell, place_cell}
use Rattle.desk_page.specs.Markup.{markup}

-- the day and the value date of an entry have six digits
pub record IsDated (entry : Entry) : Type 0 where
  pub day : InCentury entry.day
  pub value : InCentury entry.pay.value

-- booked on a day before its value date, which is this day or a later one
abbrev pub is_ahead : Day → Entry → Bool
is_ahead day entry = is_booked entry.outcome && int_lt entry.day.0 entry.pay.value.0 && int_le day.0 entry.pay.value.0

-- an account, and an amount in its currency
abbrev pub paid_on : ℕ → Option Account → List ℕ
paid_on amount (Some account) = cell account.id ++ amount_cell (record { ccy = account.ccy; minor = record { 0 = amount }; decimals = account.decimals })
paid_on amount None = []

-- the account of a leg, and its amount
abbrev pub leg_cells : Chart → Option Leg → List ℕ
leg_cells chart (Some leg) = paid_on leg.amount.0 (account_at chart leg.account.0)
leg_cells chart None = []

-- the row of an entry: its place, its message's reference, its day, its value date, and the account and the amount of its first leg
unfoldable pub ahead_line : Chart → ℕ → Entry → List ℕ
ahead_line chart place entry =
    markup piece.RowBegin ++ place_cell piece.CellBegin place ++ cell entry.pay.mir.0 ++ day_cell entry.day ++ day_cell entry.pay.value
    ++ leg_cells chart (slice_get entry.pay.legs 0) ++ markup piece.RowEnd

-- the same where it is booked ahead
abbrev pub ahead_if : Chart → Day → ℕ → Entry → List ℕ
ahead_if chart day place entry = if is_ahead day entry then ahead_line chart place entry else []

-- the entries that are booked ahead of their value date, by their places
abbrev pub ahead_section : Chart → List Entry → Day → List ℕ
ahead_section chart entries day =
    markup piece.AheadBegin ++ numbered (ahead_if chart day) 1 entries ++ markup piece.TableEnd
