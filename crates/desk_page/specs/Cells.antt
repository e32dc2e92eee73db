-- The cells of a row. Each text of a message, of a table and of the journal is escaped; numbers are digits, a comma and a minus.
use Rattle.std.specs.Prelude.{ℕ, ℤ, List, [], ◌∷◌, ◌++◌, unsigned_abs, if◌then◌else◌}
use Rattle.std.specs.Int.{is_negative}
use Rattle.corr_text.specs.Digits.{padded}
use Rattle.corr_ids.specs.Bic.{bic_text}
use Rattle.corr_ids.specs.Day.{yymmdd_of}
use Rattle.corr_ids.specs.declared.bic.Bic.{Bic}
use Rattle.corr_ids.specs.declared.day.Day.{Day}
use Rattle.corr_money.specs.Amounts.{amount_text, signed_text}
use Rattle.corr_money.specs.declared.amount.Amount.{Amount}
use Rattle.desk_page.specs.declared.mark.Piece.{Piece}
use Rattle.desk_page.specs.declared.mark.Piece.TheVariants as piece
use Rattle.desk_page.specs.Escaped.{escaped}
use Rattle.desk_page.specs.Markup.{markup}

-- a cell of a text
abbrev pub cell : List ℕ → List ℕ
cell text = markup piece.CellBegin ++ escaped text ++ markup piece.CellEnd

-- a cell of a bank
abbrev pub bank_cell : Bic → List ℕ
bank_cell bank = cell (bic_text bank)

-- a cell of a number
abbrev pub number_cell : ℕ → List ℕ
number_cell n = markup piece.NumberBegin ++ padded 1 n ++ markup piece.CellEnd

-- a cell of a day
abbrev pub day_cell : Day → List ℕ
day_cell day = markup piece.CellBegin ++ yymmdd_of day ++ markup piece.CellEnd

-- a cell of an amount, and its currency
abbrev pub amount_cell : Amount → List ℕ
amount_cell amount =
    markup piece.NumberBegin ++ escaped amount.ccy.0 ++ markup piece.Space ++ amount_text amount.decimals amount.minor.0 ++ markup piece.CellEnd

-- a cell of a balance, in a currency with so many decimals
abbrev pub money_cell : ℕ → ℤ → List ℕ
money_cell decimals v = markup piece.NumberBegin ++ signed_text decimals v ++ markup piece.CellEnd

-- a cell that begins so, and ends with a place of the journal
abbrev pub place_cell : Piece → ℕ → List ℕ
place_cell begin place = markup begin ++ padded 8 place ++ markup piece.CellEnd

-- a minus where a number is below 0
abbrev pub sign_of : ℤ → List ℕ
sign_of v = if is_negative v then 45 ∷ [] else []

-- a number with its sign
unfoldable pub signed_number : ℤ → List ℕ
signed_number v = sign_of v ++ padded 1 (unsigned_abs v)

-- a number of a bar, after what tells which
abbrev pub bar_number : Piece → ℤ → List ℕ
bar_number which v = markup which ++ signed_number v

-- a bar from a least number to a greatest, with a number between them
unfoldable pub bar_cell : ℤ → ℤ → ℤ → List ℕ
bar_cell least greatest v =
    bar_number piece.BarLeast least ++ bar_number piece.BarGreatest greatest ++ bar_number piece.BarValue v ++ markup piece.BarEnd
