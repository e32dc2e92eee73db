-- The tables of banks, currencies and countries: what their rows say, and their first fault.
use Rattle.std.specs.Prelude.{ℕ, Bool, false, List, [], ◌∷◌, map, take, Option, unwrap_or, is_some}
use Rattle.std.specs.Map.{keys_of}
use Rattle.std.specs.Str.{bytes_eq}
use Rattle.corr_text.specs.First.{first_of}
use Rattle.corr_ids.specs.Bic.{is_bic, branch_of}
use Rattle.ref_tables.specs.Columns.{is_ccy, is_country, decimals_in_cell, yes_of}
use Rattle.ref_tables.specs.Rows.{Cells, cell, most_banks, most_rows, rows_of}
use Rattle.ref_tables.specs.Refusals.{against, columns, value, double, first_fault, named}
use Rattle.ref_tables.specs.Seen.{Tables}
use Rattle.ref_tables.specs.declared.fault.Why.{Why}
use Rattle.ref_tables.specs.declared.fault.TableName.{TableName}
use Rattle.ref_tables.specs.declared.fault.TableName.TheVariants as table

-- bics: a bank's head and branch
abbrev pub bank_in_row : Cells → List ℕ × List ℕ
bank_in_row row = (take 8 (cell 0 row), branch_of (cell 0 row))

-- one column, a BIC, whose head stands in no earlier row
abbrev pub bank_fault : List (List ℕ × List ℕ) → Cells → Option Why
bank_fault earlier row =
    first_of (columns 1 row ∷ value 1 (is_bic (cell 0 row)) ∷ double (bytes_eq (take 8 (cell 0 row))) (keys_of earlier) ∷ [])

-- ccys: a currency's code and decimals
abbrev pub ccy_of : Cells → List ℕ × ℕ
ccy_of row = (cell 0 row, unwrap_or (decimals_in_cell (cell 1 row)) 0)

-- a code that stands in no earlier row, and its decimals
abbrev pub ccy_fault : List (List ℕ × ℕ) → Cells → Option Why
ccy_fault earlier row =
    first_of (columns 2 row ∷ value 1 (is_ccy (cell 0 row)) ∷ value 2 (is_some (decimals_in_cell (cell 1 row))) ∷ double (bytes_eq (cell 0 row)) (keys_of earlier) ∷ [])

-- countries: a country's code, and whether it is listed
abbrev pub country_in_row : Cells → List ℕ × Bool
country_in_row row = (cell 0 row, unwrap_or (yes_of (cell 1 row)) false)

-- a code that stands in no earlier row, and Y or N
abbrev pub country_fault : List (List ℕ × Bool) → Cells → Option Why
country_fault earlier row =
    first_of (columns 2 row ∷ value 1 (is_country (cell 0 row)) ∷ value 2 (is_some (yes_of (cell 1 row))) ∷ double (bytes_eq (cell 0 row)) (keys_of earlier) ∷ [])

-- the first fault of each file
abbrev pub bics_fault : List ℕ → Option (ℕ × Why)
bics_fault file = first_fault most_banks (against bank_in_row bank_fault) file

-- the first fault of a table of currencies
abbrev pub ccys_fault : List ℕ → Option (ℕ × Why)
ccys_fault file = first_fault most_rows (against ccy_of ccy_fault) file

-- the first fault of a table of countries
abbrev pub countries_fault : List ℕ → Option (ℕ × Why)
countries_fault file = first_fault most_rows (against country_in_row country_fault) file

-- the first fault of the three files, read in this order
abbrev pub tables_fault : List ℕ → List ℕ → List ℕ → Option (TableName × ℕ × Why)
tables_fault bics ccys countries =
    first_of (named table.Bics (bics_fault bics) ∷ named table.Ccys (ccys_fault ccys) ∷ named table.Countries (countries_fault countries) ∷ [])

-- what the rows of the three files say
abbrev pub tables_of : List ℕ → List ℕ → List ℕ → Tables
tables_of bics ccys countries =
    record { bics = map bank_in_row (rows_of bics); ccys = map ccy_of (rows_of ccys); countries = map country_in_row (rows_of countries) }
