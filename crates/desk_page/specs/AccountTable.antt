-- The accounts on the page.
use Rattle.std.specs.Prelude.{ℕ, ℤ, List, [], ◌∷◌, ◌++◌, map, if◌then◌else◌}
use Rattle.std.specs.List.{flat_map}
use Rattle.corr_money.specs.declared.amount.Ccy.{Ccy}
use Rattle.corr_report.specs.Lines.{numbered}
use Rattle.day_model.specs.Balance.{balance_of}
use Rattle.day_model.specs.Chart.{Chart, accounts_of, is_same_ccy}
use Rattle.day_model.specs.declared.account.Account.{Account}
use Rattle.day_model.specs.declared.entry.Entry.{Entry}
use Rattle.day_model.specs.declared.pay.Side.{Side}
use Rattle.day_model.specs.declared.pay.Side.TheVariants.{Credit, Debit}
use Rattle.desk_page.specs.declared.mark.Piece.TheVariants as piece
use Rattle.desk_page.specs.Books.{room_of}
use Rattle.desk_page.specs.Cells.{bank_cell, bar_cell, cell, money_cell}
use Rattle.desk_page.specs.Escaped.{escaped}
use Rattle.desk_page.specs.Markup.{markup}
use Rattle.desk_page.specs.Tally.{firsts}

-- whose the account is
unfoldable pub owner_cells : Account → List ℕ
owner_cells account = cell account.id ++ cell (account.kind ∷ []) ++ bank_cell account.owner

-- its balance, its floor and its ceiling
unfoldable pub limit_cells : Account → ℤ → List ℕ
limit_cells account balance = money_cell account.decimals balance ++ money_cell account.decimals account.floor ++ money_cell account.decimals account.ceil

-- its room on a side
abbrev pub room_cell : Side → Account → ℤ → List ℕ
room_cell side account balance = money_cell account.decimals (room_of side account balance)

-- its room to both, and a bar of it
unfoldable pub room_cells : Account → ℤ → List ℕ
room_cells account balance = room_cell Debit account balance ++ room_cell Credit account balance ++ bar_cell account.floor account.ceil balance

-- the row of an account
unfoldable pub account_line : Account → ℤ → List ℕ
account_line account balance =
    markup piece.RowBegin ++ owner_cells account ++ limit_cells account balance ++ room_cells account balance ++ markup piece.RowEnd

-- an account of a currency has its row
abbrev pub account_if : Ccy → Account → ℤ → List ℕ
account_if ccy account balance = if is_same_ccy account.ccy ccy then account_line account balance else []

-- the same of the account with a number, after these entries
abbrev pub line_of : Chart → List Entry → Ccy → ℕ → Account → List ℕ
line_of chart entries ccy n account = account_if ccy account (balance_of chart entries n)

-- the accounts of a currency, in the order of their numbers
abbrev pub account_lines : Chart → List Entry → Ccy → List ℕ
account_lines chart entries ccy = numbered (line_of chart entries ccy) 1 (accounts_of chart)

-- what stands ahead of them: the currency, and the names of the columns
abbrev pub ccy_begin : Ccy → List ℕ
ccy_begin ccy =
    markup piece.CurrencyBegin ++ escaped ccy.0 ++ markup piece.CurrencyEnd ++ markup piece.TableBegin ++ markup piece.AccountColumns ++ markup piece.RoomColumns

-- the table of a currency
abbrev pub ccy_table : Chart → List Entry → Ccy → List ℕ
ccy_table chart entries ccy = ccy_begin ccy ++ account_lines chart entries ccy ++ markup piece.TableEnd

-- the currencies of accounts, each once, in the order of its first account
abbrev pub ccys_of : List Account → List Ccy
ccys_of accounts = firsts is_same_ccy (map (λ account. account.ccy) accounts)

-- the accounts with their balances, limits and room, a table a currency
abbrev pub accounts_section : Chart → List Entry → List ℕ
accounts_section chart entries = markup piece.Accounts ++ flat_map (ccy_table chart entries) (ccys_of (accounts_of chart))
