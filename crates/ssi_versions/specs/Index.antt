-- The rows of the table by currency and bank: where a bank's rows stand, without a look at the others.
use Rattle.std.specs.Prelude.{◌≡◌, ◌<◌, ◌<ℤ◌, ◌≤ℤ◌, All, ℕ, ◌+◌, ◌==◌, Bool, List, [], ◌∷◌, ◌++◌, Option, Some, length, take, drop, replicate, nat_lt, slice_get, if◌then◌else◌}
use Rattle.std.specs.Global.{Vec}
use Rattle.std.specs.List.Sorted.{IsPermutation}
use Rattle.std.specs.Map.{lookup}
use Rattle.std.specs.Option.{option_and_then, option_map_or}
use Rattle.std.specs.Str.{bytes_eq}
use Rattle.ssi_versions.specs.declared.row.SsiRow.{SsiRow}
use Rattle.ssi_versions.specs.InstructionList.{IsInForm}

-- the rows, as contracts see the table
abbrev pub Instructions : Type 0
Instructions = List SsiRow

-- a key: the currency, the first eight bytes of the bank's text and its last three, zeros where it has none; texts may share one
abbrev pub head_of : List ℕ → List ℕ
head_of bank = if nat_lt (length bank) 8 then replicate 8 0 else take 8 bank

-- the last three bytes of a bank's text of eleven, zeros where it has another length
abbrev pub tail_of : List ℕ → List ℕ
tail_of bank = if length bank == 11 then drop 8 bank else replicate 3 0

-- the key of a currency and a bank
abbrev pub key_by_bank : List ℕ → List ℕ → List ℕ
key_by_bank ccy bank = ccy ++ (head_of bank ++ tail_of bank)

-- the row is of the currency and the bank of this key, or of a bank whose text shares it
abbrev pub has_bank_key : List ℕ → SsiRow → Bool
has_bank_key key r = bytes_eq key (key_by_bank r.ccy.0 r.bank)

-- the places of the items that pass, where the first item stands at this place
unfoldable pub places_where : {A : Type 0} → (A → Bool) → ℕ → List A → List ℕ
places_where test at [] = []
places_where test at (x ∷ xs) = if test x then at ∷ places_where test (at + 1) xs else places_where test (at + 1) xs

-- the places that are noted for a key
abbrev pub places_under : List (List ℕ × Vec ℕ) → List ℕ → List ℕ
places_under groups key = option_map_or (λ places. places.items) (lookup (bytes_eq key) groups) []

-- for each key the places of its rows are noted, each once
abbrev pub IsPlaceIndexOf : List SsiRow → List (List ℕ × Vec ℕ) → Type 0
IsPlaceIndexOf rows groups = (key : List ℕ) → IsPermutation (places_where (has_bank_key key) 0 rows) (places_under groups key)

-- the row is in force on a day: it ends after its first day
abbrev pub HasSpan : SsiRow → Type 0
HasSpan r = r.from.0 <ℤ r.until.0

-- the row at the place that stands at i
abbrev pub row_by : List SsiRow → List ℕ → ℕ → Option SsiRow
row_by rows places i = option_and_then (slice_get rows) (slice_get places i)

-- the places are those of rows, each in force on a day; of two, the row of the first has ended when that of the second begins
pub record IsInDayOrder (rows : List SsiRow) (places : List ℕ) : Type 0 where
  pub spans : All HasSpan rows
  pub inside : All (λ p. p < length rows) places
  pub rise : (i j : ℕ) (a b : SsiRow) → i < j → row_by rows places i ≡ Some a → row_by rows places j ≡ Some b → a.until.0 ≤ℤ b.from.0

-- the table: instructions in form, and their index, for each key in the order of days
pub record IsTable (rows : List SsiRow) (groups : List (List ℕ × Vec ℕ)) : Type 0 where
  pub form : All IsInForm rows
  pub index : IsPlaceIndexOf rows groups
  pub order : (key : List ℕ) → IsInDayOrder rows (places_under groups key)
