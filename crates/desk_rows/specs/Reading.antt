-- What a reader of rows with commas reads (RFC 4180), and that it reads what was written.
use Rattle.std.specs.Prelude.{◌≡◌, ℕ, ◌==◌, List, [], ◌∷◌, ◌++◌, drop, length, Some, slice_get, if◌then◌else◌}
use Rattle.day_model.specs.Chart.{Chart}
use Rattle.day_model.specs.Legal.{IsLegal}
use Rattle.day_model.specs.declared.entry.Entry.{Entry}
use Rattle.desk_rows.specs.Csv.{row_of_cells}
use Rattle.desk_rows.specs.Entries.{entry_cells, entry_row}

-- where a reader stands in a cell: in one without quotes, between quotes, or past a quote that may have been the last one
pub data Within : Type 0 where
  plain : Within
  between : Within
  past : Within

-- The cells of a row from where a reader stands, which has read this of a cell. A comma or a CR ends a cell that isn't between quotes, and
-- a CR the row; a quote begins or ends what stands between quotes; there two quotes are one.
abbrev pub cells_from : Within → List ℕ → List ℕ → List (List ℕ)
cells_from at cell [] = cell ∷ []
cells_from between cell (b ∷ bs) = if b == 34 then cells_from past cell bs else cells_from between (cell ++ b ∷ []) bs
cells_from plain cell (b ∷ bs) =
    if b == 44 then cell ∷ cells_from plain [] bs
    else if b == 13 then cell ∷ []
    else if b == 34 then cells_from between cell bs
    else cells_from plain (cell ++ b ∷ []) bs
cells_from past cell (b ∷ bs) =
    if b == 44 then cell ∷ cells_from plain [] bs
    else if b == 13 then cell ∷ []
    else if b == 34 then cells_from between (cell ++ b ∷ []) bs
    else cells_from past (cell ++ b ∷ []) bs

-- the cells of a row
abbrev pub cells_of : List ℕ → List (List ℕ)
cells_of row = cells_from plain [] row

-- What follows a row, from where a reader stands in it: what stands behind the CR that isn't between quotes, and its LF.
abbrev pub rest_from : Within → List ℕ → List ℕ
rest_from at [] = []
rest_from between (b ∷ bs) = if b == 34 then rest_from past bs else rest_from between bs
rest_from plain (b ∷ bs) =
    if b == 44 then rest_from plain bs
    else if b == 13 then drop 1 bs
    else if b == 34 then rest_from between bs
    else rest_from plain bs
rest_from past (b ∷ bs) =
    if b == 44 then rest_from plain bs
    else if b == 13 then drop 1 bs
    else if b == 34 then rest_from between bs
    else rest_from past bs

-- what follows the first row
abbrev pub rest_of : List ℕ → List ℕ
rest_of bytes = rest_from plain bytes

-- the first row of these bytes has these cells, and this follows it
abbrev pub ReadsRow : List ℕ → List (List ℕ) → List ℕ → Type 0
ReadsRow bytes cells more = (cells_of bytes ≡ cells) × (rest_of bytes ≡ more)

-- whatever cells are written as a row, and whatever follows it, a reader reads them, and goes on with what follows
abbrev pub RowsReadBack : Type 0
RowsReadBack = (cell : List ℕ) (cells : List (List ℕ)) (more : List ℕ) → ReadsRow (row_of_cells (cell ∷ cells) ++ more) (cell ∷ cells) more

-- and of an entry of a legal history the fourteen that its row says
abbrev pub EntriesReadBack : Type 0
EntriesReadBack = (chart : Chart) (entries : List Entry) (i place : ℕ) (entry : Entry) (more : List ℕ) → IsLegal chart entries → slice_get entries i ≡ Some entry
    → ReadsRow (entry_row chart place entry ++ more) (entry_cells chart place entry) more × (length (entry_cells chart place entry) ≡ 14)
