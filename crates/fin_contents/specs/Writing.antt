-- Contents written as fields.
use Rattle.std.specs.Prelude.{◌≡◌, ℕ, ◌<◌, ◌≤◌, true, List, [], ◌∷◌, ◌++◌, All, IsTrue, Option, Some, None, IfSome, Result, Ok}
use Rattle.std.specs.Char.{is_ascii_uppercase}
use Rattle.corr_text.specs.declared.fault.Fault.{Fault}
use Rattle.corr_ids.specs.Day.{InCentury, yymmdd_of}
use Rattle.corr_money.specs.Amounts.{amount_end, amount_text, most_decimals}
use Rattle.corr_money.specs.declared.amount.Amount.{Amount}
use Rattle.ref_tables.specs.Seen.{Tables, few_decimals}
use Rattle.fin_fields.specs.declared.field.Field.{Field}
use Rattle.fin_fields.specs.Writing.{IsField}
use Rattle.fin_contents.specs.declared.value.Value.{Value}

-- a tag and a letter that a text can show
pub record IsHeading (tag : ℕ) (letter : Option ℕ) : Type 0 where
  pub two_digits : tag ≤ 99
  pub capital : IfSome letter (λ c. is_ascii_uppercase c ≡ true)

-- lines of text: 70, 72, 77B
abbrev pub lines_field : ℕ → Option ℕ → List (List ℕ) → Field
lines_field tag letter lines = record { tag = tag; letter = letter; lines = lines }

-- one line: references, times, rates and codes
abbrev pub line_field : ℕ → Option ℕ → List ℕ → Field
line_field tag letter line = lines_field tag letter (line ∷ [])

-- an amount that can be written: below 10^14 minor units of a currency with at most 4 decimals
pub record IsAmount (a : Amount) : Type 0 where
  pub small : a.minor.0 < amount_end
  pub few : a.decimals ≤ most_decimals

-- 33B, 71F, 71G: the currency, and the amount with all its decimals
abbrev pub ccy_amount_text : Amount → List ℕ
ccy_amount_text a = a.ccy.0 ++ amount_text a.decimals a.minor.0

-- a currency and an amount as a field of one line
abbrev pub ccy_amount_field : ℕ → Option ℕ → Amount → Field
ccy_amount_field tag letter a = line_field tag letter (ccy_amount_text a)

-- a value that can be written: a day from 1980 to 2079, and such an amount
pub record IsValue (v : Value) : Type 0 where
  pub day : InCentury v.day
  pub amount : IsAmount v.amount

-- 32A: the date before them
abbrev pub value_field : Value → Field
value_field v = line_field 32 (Some 65) (yymmdd_of v.day ++ ccy_amount_text v.amount)

-- lines that may be none: no field, or one
abbrev pub lines_fields : ℕ → Option ℕ → List (List ℕ) → List Field
lines_fields tag letter [] = []
lines_fields tag letter (line ∷ lines) = lines_field tag letter (line ∷ lines) ∷ []

-- a content that may be there: no field, or one
abbrev pub some_field : {A : Type 0} → (A → Field) → Option A → List Field
some_field write None = []
some_field write (Some x) = write x ∷ []

-- a message that can be written: a reader gives it of fields of some text, under some tables
pub record IsReadable {M : Type 0} (read : Tables → List Field → Result M Fault) (m : M) : Type 0 where
  pub tables : Tables
  pub few : IsTrue (few_decimals tables.ccys)
  pub fields : List Field
  pub fit : All IsField fields
  pub says : read tables fields ≡ Ok m
