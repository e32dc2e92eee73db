-- The rows of a table file.
use Rattle.std.specs.Prelude.{ℕ, List, [], length, map, Option, Some, None, unwrap_or, nat_le, if◌then◌else◌}
use Rattle.std.specs.Borrow.{Bor}
use Rattle.csv.specs.Reading.{default_config, records, strip_bom}
use Rattle.csv.specs.Records.{field_at}

-- the cells of a row
abbrev pub Cells : Type 0
Cells = List (List ℕ)

-- the rows of a file, as csv reads its records, none of them a header
unfoldable pub rows_of : List ℕ → List Cells
rows_of file = records default_config (strip_bom file)

-- the cell of a row at a place, from 0; no bytes past its last
abbrev pub cell : ℕ → Cells → List ℕ
cell k row = unwrap_or (field_at row k) []

-- words as the cells of a row
abbrev pub cells_of : List (Bor (List ℕ)) → Cells
cells_of words = map (λ word. word.now) words

-- the items, unless there are more than this
abbrev pub up_to : {A : Type 0} → ℕ → List A → Option (List A)
up_to most xs = if nat_le (length xs) most then Some xs else None

-- the most bytes of a table's file: 8 MiB
abbrev pub most_table_bytes : ℕ
most_table_bytes = 8388608

-- the most rows of a table of banks
abbrev pub most_banks : ℕ
most_banks = 100000

-- the most rows of a table of currencies, countries, accounts or charges
abbrev pub most_rows : ℕ
most_rows = 1000

-- the rows of a file, unless it has more than 8 MiB or more rows than this
abbrev pub rows_within : ℕ → List ℕ → Option (List Cells)
rows_within most file = if nat_le (length file) most_table_bytes then up_to most (rows_of file) else None
