-- The table of instructions: what its rows say, and its first fault.
use Rattle.std.specs.Prelude.{ℕ, ◌+◌, ◌==◌, ◌&&◌, ◌||◌, Bool, true, false, List, [], ◌∷◌, length, position, Option, Some, None, option_map, unwrap_or, is_some, pos, int_lt, codes, if◌then◌else◌}
use Rattle.std.specs.Option.{option_or, option_map_or}
use Rattle.std.specs.Str.{bytes_eq}
use Rattle.corr_text.specs.First.{first_of, unless}
use Rattle.corr_ids.specs.Bic.{bic_of}
use Rattle.corr_ids.specs.Day.{day_of}
use Rattle.corr_ids.specs.declared.bic.Bic.{Bic}
use Rattle.ref_tables.specs.Columns.{is_ccy, is_account_id}
use Rattle.ref_tables.specs.Rows.{Cells, cell}
use Rattle.ref_tables.specs.Refusals.{against, columns, value, first_fault}
use Rattle.ref_tables.specs.Seen.{Tables, has_head, decimals_in}
use Rattle.ref_tables.specs.declared.fault.Why.{Why}
use Rattle.ref_tables.specs.declared.fault.Why.TheVariants as why
use Rattle.ssi_versions.specs.declared.method.Method.{Method}
use Rattle.ssi_versions.specs.declared.method.Method.TheVariants.{Book, Serial, Cover}
use Rattle.ssi_versions.specs.declared.row.SsiRow.{SsiRow}

-- the text that stands for any bank, *
abbrev pub any_bank : List ℕ
any_bank = 42 ∷ []

-- a bank: * or a BIC
abbrev pub is_bank_text : List ℕ → Bool
is_bank_text bs = bytes_eq bs any_bank || is_some (bic_of bs)

-- the way to pay that this word names
abbrev pub method_of : List ℕ → Option Method
method_of bs =
    if bytes_eq bs (codes "BOOK") then Some Book else if bytes_eq bs (codes "SERIAL") then Some Serial else if bytes_eq bs (codes "COVER") then Some Cover else None

-- the bank between: nothing with BOOK, else a BIC
abbrev pub via_of : Method → List ℕ → Option (Option Bic)
via_of Book bs = if length bs == 0 then Some None else None
via_of Serial bs = option_map (λ b. Some b) (bic_of bs)
via_of Cover bs = option_map (λ b. Some b) (bic_of bs)

-- the way to pay of a row, and its bank between
abbrev pub method_in : Cells → Method
method_in row = unwrap_or (method_of (cell 2 row)) Book

-- the bank between that a row says, as its way to pay wants it; none where the cell is not of that form
abbrev pub via_in : Cells → Option (Option Bic)
via_in row = via_of (method_in row) (cell 3 row)

-- the instruction that a row says: currency, bank, way to pay, bank between, account, from, until
abbrev pub instruction_of : Cells → SsiRow
instruction_of row = record {
  ccy = record { 0 = cell 0 row };
  bank = cell 1 row;
  method = method_in row;
  via = unwrap_or (via_in row) None;
  account = cell 4 row;
  from = unwrap_or (day_of (cell 5 row)) (record { 0 = pos 0 });
  until = unwrap_or (day_of (cell 6 row)) (record { 0 = pos 0 });
}

-- each column has its form
abbrev pub form_fault : Cells → Option Why
form_fault row = first_of (
    columns 7 row
    ∷ value 1 (is_ccy (cell 0 row))
    ∷ value 2 (is_bank_text (cell 1 row))
    ∷ value 3 (is_some (method_of (cell 2 row)))
    ∷ value 4 (is_some (via_in row))
    ∷ value 5 (is_account_id (cell 4 row))
    ∷ value 6 (is_some (day_of (cell 5 row)))
    ∷ value 7 (is_some (day_of (cell 6 row)))
    ∷ [])

-- a bank of the table of banks has this BIC's head
abbrev pub has_bank : Tables → Bic → Bool
has_bank t b = has_head t b.head

-- the row's bank is * or stands in the table of banks
abbrev pub knows_bank : Tables → List ℕ → Bool
knows_bank t bank = bytes_eq bank any_bank || option_map_or (has_bank t) (bic_of bank) false

-- the bank between, if there is one, stands in the table of banks
abbrev pub knows_via : Tables → Option Bic → Bool
knows_via t via = option_map_or (has_bank t) via true

-- the first day of each comes before the end of the other
abbrev pub shares_a_day : SsiRow → SsiRow → Bool
shares_a_day a b = int_lt a.from.0 b.until.0 && int_lt b.from.0 a.until.0

-- two instructions of one currency and one bank text that a table can't both have
abbrev pub overlaps : SsiRow → SsiRow → Bool
overlaps a b = bytes_eq a.ccy.0 b.ccy.0 && bytes_eq a.bank b.bank && shares_a_day a b

-- no earlier instruction overlaps this one; else the first that does
abbrev pub overlap : SsiRow → List SsiRow → Option Why
overlap a earlier = option_map (λ i. why.Overlap (i + 1)) (position (overlaps a) earlier)

-- what is wrong with an instruction, against those of the rows before it
abbrev pub standing_fault : Tables → List SsiRow → SsiRow → Option Why
standing_fault t earlier a = first_of (
    unless (knows_bank t a.bank && knows_via t a.via) why.Bic
    ∷ unless (is_some (decimals_in t a.ccy.0)) why.Currency
    ∷ unless (int_lt a.from.0 a.until.0) why.Span
    ∷ overlap a earlier
    ∷ [])

-- what is wrong with a row: its columns, else the instruction that it says
abbrev pub instruction_fault : Tables → List SsiRow → Cells → Option Why
instruction_fault t earlier row = option_or (form_fault row) (standing_fault t earlier (instruction_of row))

-- the most rows of a table of instructions
abbrev pub most_instructions : ℕ
most_instructions = 10000

-- the first fault of a file
abbrev pub ssi_fault : Tables → List ℕ → Option (ℕ × Why)
ssi_fault t file = first_fault most_instructions (against instruction_of (instruction_fault t)) file
