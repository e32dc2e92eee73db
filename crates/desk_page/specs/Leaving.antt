-- The messages that leave for what is booked on a day, by receiver and type.
use Rattle.std.specs.Prelude.{ℕ, ◌&&◌, ◌==◌, Bool, List, [], ◌++◌, map, if◌then◌else◌}
use Rattle.std.specs.List.{flat_map}
use Rattle.std.specs.Ordering.{int_eq}
use Rattle.std.specs.Str.{bytes_eq}
use Rattle.corr_text.specs.Digits.{padded}
use Rattle.corr_ids.specs.declared.bic.Bic.{Bic}
use Rattle.corr_ids.specs.declared.day.Day.{Day}
use Rattle.advices.specs.Messages.{order_type, receiver_of}
use Rattle.day_model.specs.Balance.{is_booked}
use Rattle.day_model.specs.declared.entry.Entry.{Entry}
use Rattle.day_model.specs.declared.pay.Order.{Order}
use Rattle.desk_page.specs.declared.leaving.Kind.{Kind}
use Rattle.desk_page.specs.declared.mark.Piece.TheVariants as piece
use Rattle.desk_page.specs.Cells.{bank_cell, number_cell}
use Rattle.desk_page.specs.Markup.{markup}
use Rattle.desk_page.specs.Tally.{tally_of}

-- ---- what leaves

-- a bank and a type
abbrev pub kind_to : Bic → ℕ → Kind
kind_to to mt = record { head = to.head; branch = to.branch; mt = mt }

-- the bank that an order's message goes to, and its type
abbrev pub kind_of : Order → Kind
kind_of order = kind_to (receiver_of order) (order_type order)

-- those of an entry; none where it isn't booked, or on another day
abbrev pub kinds_in : Day → Entry → List Kind
kinds_in day entry = if is_booked entry.outcome && int_eq entry.day.0 day.0 then map kind_of entry.pay.orders else []

-- those of all entries
abbrev pub leaving : Day → List Entry → List Kind
leaving day entries = flat_map (kinds_in day) entries

-- the same receiver and the same type
abbrev pub is_same_kind : Kind → Kind → Bool
is_same_kind kind other = bytes_eq kind.head other.head && (bytes_eq kind.branch other.branch && (kind.mt == other.mt))

-- ---- the section

-- the bank of a kind
abbrev pub bank_of : Kind → Bic
bank_of kind = record { head = kind.head; branch = kind.branch }

-- a cell of a type
abbrev pub type_cell : ℕ → List ℕ
type_cell mt = markup piece.TypeBegin ++ padded 3 mt ++ markup piece.CellEnd

-- a row: the receiver, the type, and how many messages
unfoldable pub leaving_line : Kind → ℕ → List ℕ
leaving_line kind n = markup piece.RowBegin ++ bank_cell (bank_of kind) ++ type_cell kind.mt ++ number_cell n ++ markup piece.RowEnd

-- the rows of kinds
abbrev pub leaving_lines : List (Kind × ℕ) → List ℕ
leaving_lines counts = flat_map (λ p. leaving_line p.0 p.1) counts

-- the messages that leave for what is booked on a day
abbrev pub leaving_section : List Entry → Day → List ℕ
leaving_section entries day = markup piece.LeavingBegin ++ leaving_lines (tally_of is_same_kind (leaving day entries)) ++ markup piece.TableEnd
