-- The table of charges: what its rows say, and its first fault.
use Rattle.std.specs.Prelude.{ℕ, List, [], ◌∷◌, Option, unwrap_or, is_some}
use Rattle.std.specs.Map.{keys_of}
use Rattle.std.specs.Str.{bytes_eq}
use Rattle.corr_text.specs.First.{first_of, unless}
use Rattle.corr_money.specs.declared.amount.Minor.{Minor}
use Rattle.ref_tables.specs.Columns.{charge_in_cell, is_ccy}
use Rattle.ref_tables.specs.Rows.{Cells, cell, most_rows}
use Rattle.ref_tables.specs.Refusals.{against, columns, value, double, first_fault}
use Rattle.ref_tables.specs.Seen.{Tables, decimals_in}
use Rattle.ref_tables.specs.declared.fault.Why.{Why}
use Rattle.ref_tables.specs.declared.fault.Why.TheVariants as why

-- a currency's code, and what is charged in it
abbrev pub charge_in_row : Cells → List ℕ × Minor
charge_in_row row = (cell 0 row, unwrap_or (charge_in_cell (cell 1 row)) (record { 0 = 0 }))

-- a code and a charge, the code in no earlier row and in the table of currencies
abbrev pub charge_fault : Tables → List (List ℕ × Minor) → Cells → Option Why
charge_fault t earlier row = first_of (
    columns 2 row
    ∷ value 1 (is_ccy (cell 0 row))
    ∷ value 2 (is_some (charge_in_cell (cell 1 row)))
    ∷ double (bytes_eq (cell 0 row)) (keys_of earlier)
    ∷ unless (is_some (decimals_in t (cell 0 row))) why.Currency
    ∷ [])

-- the first fault of a file
abbrev pub charges_fault : Tables → List ℕ → Option (ℕ × Why)
charges_fault t file = first_fault most_rows (against charge_in_row (charge_fault t)) file
