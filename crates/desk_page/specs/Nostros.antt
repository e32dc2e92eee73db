-- The home bank's accounts with other banks, with and without a statement.
use Rattle.std.specs.Prelude.{ℕ, ◌==◌, Bool, false, List, [], ◌++◌, Some, None, if◌then◌else◌}
use Rattle.std.specs.List.{list_any}
use Rattle.std.specs.Str.{bytes_eq}
use Rattle.corr_report.specs.Lines.{numbered}
use Rattle.day_model.specs.Chart.{Chart, accounts_of}
use Rattle.corr_ids.specs.Kinds.{nostro}
use Rattle.day_model.specs.declared.account.Account.{Account}
use Rattle.desk_page.specs.declared.mark.Piece.{Piece}
use Rattle.desk_page.specs.declared.mark.Piece.TheVariants as piece
use Rattle.desk_page.specs.declared.row.Row.{Row}
use Rattle.desk_page.specs.declared.row.Row.TheVariants.{Asks, Refused, Told}
use Rattle.desk_page.specs.Cells.{bank_cell, cell}
use Rattle.desk_page.specs.Markup.{markup}

-- a message is a valid page of a statement of the account with this id
abbrev pub is_page_of : List ℕ → Row → Bool
is_page_of id (Told mir (Some account)) = bytes_eq account id
is_page_of id (Told mir None) = false
is_page_of id (Asks payment standing) = false
is_page_of id (Refused mir fault) = false

-- whether a page of an account's statement is among the messages
abbrev pub stated : List Row → Account → Piece
stated rows account = if list_any (is_page_of account.id) rows then piece.Stated else piece.Unstated

-- the row of an account
unfoldable pub nostro_line : List Row → Account → List ℕ
nostro_line rows account =
    markup piece.RowBegin ++ cell account.id ++ cell account.ccy.0 ++ bank_cell account.owner ++ markup (stated rows account) ++ markup piece.RowEnd

-- the same where it is one with another bank
abbrev pub nostro_if : List Row → ℕ → Account → List ℕ
nostro_if rows n account = if account.kind == nostro then nostro_line rows account else []

-- the accounts with other banks, in the order of their numbers
abbrev pub nostros_section : Chart → List Row → List ℕ
nostros_section chart rows = markup piece.NostrosBegin ++ numbered (nostro_if rows) 1 (accounts_of chart) ++ markup piece.TableEnd
