-- Rows with commas (RFC 4180).
use Rattle.std.specs.Prelude.{ℕ, ◌+◌, ◌-◌, ◌==◌, ◌&&◌, Bool, not, List, [], ◌∷◌, ◌++◌, length, take, drop, ℤ, unsigned_abs, if◌then◌else◌}
use Rattle.std.specs.Int.{is_negative}
use Rattle.std.specs.List.{flat_map, list_all}
use Rattle.corr_text.specs.Digits.{padded}

-- cells after others, each with a comma before it
abbrev pub commaed : List (List ℕ) → List ℕ
commaed cells = flat_map (λ cell. 44 ∷ cell) cells

-- the end of a row: CR LF
abbrev pub row_end : List ℕ
row_end = 13 ∷ 10 ∷ []

-- a byte that a cell may have without quotes: no comma, no quote, and neither CR nor LF
abbrev pub is_bare : ℕ → Bool
is_bare b = not (b == 44) && not (b == 34) && not (b == 13) && not (b == 10)

-- a quote twice, any other byte once
abbrev pub doubled : ℕ → List ℕ
doubled b = if b == 34 then 34 ∷ 34 ∷ [] else b ∷ []

-- a text as a cell: as it is where no byte of it needs quotes, else between quotes, with its own quotes doubled
unfoldable pub quoted : List ℕ → List ℕ
quoted text = if list_all is_bare text then text else 34 ∷ flat_map doubled text ++ 34 ∷ []

-- cells after others, each with a comma before it, and between quotes where it needs them
abbrev pub next_cells : List (List ℕ) → List ℕ
next_cells cells = flat_map (λ cell. 44 ∷ quoted cell) cells

-- the row of some cells
abbrev pub row_of_cells : List (List ℕ) → List ℕ
row_of_cells [] = row_end
row_of_cells (cell ∷ cells) = quoted cell ++ next_cells cells ++ row_end

-- the point before so many decimals: none where there are none
abbrev pub point_of : ℕ → List ℕ
point_of decimals = if decimals == 0 then [] else 46 ∷ []

-- digits with a point before the last so many
abbrev pub with_point : ℕ → List ℕ → List ℕ
with_point decimals ds = take (length ds - decimals) ds ++ point_of decimals ++ drop (length ds - decimals) ds

-- a number of minor units as an amount with so many decimals: its digits, at least one of them before the point
unfoldable pub pointed : ℕ → ℕ → List ℕ
pointed decimals n = with_point decimals (padded (decimals + 1) n)

-- the same with a minus before it where it is below 0
unfoldable pub signed_pointed : ℕ → ℤ → List ℕ
signed_pointed decimals v = if is_negative v then 45 ∷ pointed decimals (unsigned_abs v) else pointed decimals (unsigned_abs v)
