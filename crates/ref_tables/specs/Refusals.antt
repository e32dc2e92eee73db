-- The first row of a table that fails, and why.
use Rattle.std.specs.Prelude.{ℕ, ◌+◌, ◌==◌, Bool, List, [], ◌∷◌, ◌++◌, length, map, position, Option, Some, None, option_map}
use Rattle.std.specs.Option.{option_or, option_map_or}
use Rattle.corr_text.specs.Answers as answers
use Rattle.corr_text.specs.First.{unless}
use Rattle.ref_tables.specs.Rows.{Cells, rows_within}
use Rattle.ref_tables.specs.declared.fault.TableName.{TableName}
use Rattle.ref_tables.specs.declared.fault.TableFault.{TableFault}
use Rattle.ref_tables.specs.declared.fault.TableFault.TheVariants as error
use Rattle.ref_tables.specs.declared.fault.Why.{Why}
use Rattle.ref_tables.specs.declared.fault.Why.TheVariants as why

-- what is wrong with a row, given the rows before it
abbrev pub RowTest : Type 0
RowTest = List Cells → Cells → Option Why

-- the row has this many columns
abbrev pub columns : ℕ → Cells → Option Why
columns n row = unless (length row == n) why.Columns

-- the column, from 1, has its form
abbrev pub value : ℕ → Bool → Option Why
value col good = unless good (why.Value col)

-- no earlier row meets this one; else the first that does
abbrev pub double : {A : Type 0} → (A → Bool) → List A → Option Why
double meets earlier = option_map (λ i. why.Double (i + 1)) (position meets earlier)

-- a row is tested against what the rows before it say
abbrev pub against : {E : Type 0} → (Cells → E) → (List E → Cells → Option Why) → RowTest
against entry test before row = test (map entry before) row

-- the number of the first row that fails, from 1, and why: each row is tested given those before it
unfoldable pub first_bad_row : RowTest → List Cells → List Cells → Option (ℕ × Why)
first_bad_row test before [] = None
first_bad_row test before (row ∷ rows) =
    option_or (option_map (λ w. (length before + 1, w)) (test before row)) (first_bad_row test (before ++ row ∷ []) rows)

-- the first fault of a file: row 0 where the file or its number of rows is too large, else that of its rows
abbrev pub first_fault : ℕ → RowTest → List ℕ → Option (ℕ × Why)
first_fault most test file = option_map_or (first_bad_row test []) (rows_within most file) (Some (0, why.Rows))

-- a fault with the name of its table
abbrev pub named : TableName → Option (ℕ × Why) → Option (TableName × ℕ × Why)
named table fault = option_map (λ f. (table, f.0, f.1)) fault

-- the fault that an error tells, none where memory is out
abbrev pub told : TableFault → Option (TableName × ℕ × Why)
told (error.Bad table row reason) = Some (table, row, reason)
told error.Memory = None

-- an error tells this fault, or out of memory
abbrev pub Tells : Option (TableName × ℕ × Why) → TableFault → Type 0
Tells fault e = answers.Tells told fault e
