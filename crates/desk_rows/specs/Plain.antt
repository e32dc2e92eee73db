-- Rows of which no cell needs quotes (RFC 4180).
use Rattle.std.specs.Prelude.{◌≡◌, ℕ, ◌≤◌, IsTrue, List, [], ◌∷◌, ◌++◌, length, Option, Some}
use Rattle.std.specs.List.{list_all}
use Rattle.corr_ids.specs.declared.day.Day.{Day}
use Rattle.day_model.specs.Chart.{Chart, IsChart, account_at}
use Rattle.day_model.specs.Legal.{IsLegal}
use Rattle.day_model.specs.declared.account.Account.{Account}
use Rattle.day_model.specs.declared.entry.Entry.{Entry}
use Rattle.desk_rows.specs.Balances.{row_of}
use Rattle.desk_rows.specs.Csv.{commaed, is_bare, row_end}
use Rattle.desk_rows.specs.Until.{entries_until}

-- cells with commas between them
abbrev pub joined : List (List ℕ) → List ℕ
joined [] = []
joined (cell ∷ cells) = cell ++ commaed cells

-- a row of so many cells with commas between them, none of which needs quotes
pub record IsPlainRow (count : ℕ) (row : List ℕ) : Type 0 where
  pub cells : List (List ℕ)
  pub row_is : row ≡ joined cells ++ row_end
  pub counted : length cells ≡ count
  pub bare : IsTrue (list_all (list_all is_bare) cells)

-- after the entries of a legal history up to a day each account's row is so, with ten cells
abbrev pub RowsArePlain : Type 0
RowsArePlain = (chart : Chart) (entries : List Entry) (until : Option Day) (n : ℕ) (account : Account) → IsChart chart → IsLegal chart entries → 1 ≤ n
    → account_at chart n ≡ Some account → IsPlainRow 10 (row_of chart (entries_until until entries) n account)
