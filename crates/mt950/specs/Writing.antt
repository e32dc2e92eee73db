-- A page of a statement written as fields.
use Rattle.std.specs.Prelude.{◌≡◌, ℕ, ℤ, ◌<◌, ◌≤◌, Bool, true, List, [], ◌∷◌, ◌++◌, length, map, IsTrue, Option, Some, None, IfSome, unsigned_abs, codes, if◌then◌else◌}
use Rattle.std.specs.Char.{is_ascii_uppercase}
use Rattle.std.specs.Fmt.{decimal}
use Rattle.std.specs.Int.{is_negative}
use Rattle.std.specs.List.{list_all}
use Rattle.corr_text.specs.Sets.{is_in}
use Rattle.corr_text.specs.declared.set.Set.TheVariants.{N, X}
use Rattle.corr_ids.specs.Day.{InCentury, yymmdd_of}
use Rattle.corr_money.specs.Amounts.{amount_end, amount_text, most_decimals}
use Rattle.corr_money.specs.declared.amount.Amount.{Amount}
use Rattle.corr_money.specs.declared.amount.Ccy.{Ccy}
use Rattle.fin_fields.specs.Patterns.{is_run}
use Rattle.fin_fields.specs.Writing.{letter_text}
use Rattle.fin_fields.specs.declared.field.Field.{Field}
use Rattle.fin_layout.specs.Segments.{joined}
use Rattle.fin_contents.specs.Writing.{ccy_amount_text, line_field, lines_field, some_field}
use Rattle.mt950.specs.Parts.{double_slash_in, is_entry_type}
use Rattle.mt950.specs.declared.balance.Balance.{Balance}
use Rattle.mt950.specs.declared.entry.Line61.{Line61}
use Rattle.mt950.specs.declared.entry.Mark.{Mark}
use Rattle.mt950.specs.declared.entry.Mark.TheVariants as mark
use Rattle.mt950.specs.declared.page.Page950.{Page950}

-- a part that may be there: its bytes, or nothing
abbrev pub part_text : Option (List ℕ) → List ℕ
part_text None = []
part_text (Some part) = part

-- the servicer's reference after two slashes
abbrev pub servicer_text : Option (List ℕ) → List ℕ
servicer_text None = []
servicer_text (Some text) = 47 ∷ 47 ∷ text

-- the letters of a mark
abbrev pub mark_text : Mark → List ℕ
mark_text mark.C = codes "C"
mark_text mark.D = codes "D"
mark_text mark.RC = codes "RC"
mark_text mark.RD = codes "RD"

-- the letter of a balance's field: F or M
abbrev pub balance_letter : Bool → ℕ
balance_letter last = if last then 70 else 77

-- the page's number after a slash
abbrev pub page_text : Option ℕ → List ℕ
page_text None = []
page_text (Some page) = 47 ∷ decimal page

-- 28C
abbrev pub number_field : ℕ → Option ℕ → Field
number_field number page = line_field 28 (Some 67) (decimal number ++ page_text page)

-- the mark of a balance: D where it is below 0, else C
abbrev pub balance_mark : ℤ → List ℕ
balance_mark signed = if is_negative signed then codes "D" else codes "C"

-- a balance without its mark
abbrev pub balance_amount : Ccy → ℕ → Balance → Amount
balance_amount ccy decimals b = record { ccy = ccy; minor = record { 0 = unsigned_abs b.signed }; decimals = decimals }

-- a balance
abbrev pub balance_text : Ccy → ℕ → Balance → List ℕ
balance_text ccy decimals b = balance_mark b.signed ++ yymmdd_of b.day ++ ccy_amount_text (balance_amount ccy decimals b)

-- 60a, 62a or 64
abbrev pub balance_field : ℕ → Option ℕ → Ccy → ℕ → Balance → Field
balance_field tag letter ccy decimals b = line_field tag letter (balance_text ccy decimals b)

-- the first line of a 61
abbrev pub line_text : ℕ → Line61 → List ℕ
line_text decimals line =
    yymmdd_of line.value ++ part_text line.entry ++ mark_text line.mark ++ letter_text line.funds ++ amount_text decimals line.amount.0
    ++ line.kind ++ line.reference ++ servicer_text line.servicer

-- the further line of a 61, where there is one
abbrev pub detail_lines : Option (List ℕ) → List (List ℕ)
detail_lines None = []
detail_lines (Some detail) = detail ∷ []

-- 61
abbrev pub line_field_61 : ℕ → Line61 → Field
line_field_61 decimals line = lines_field 61 None (line_text decimals line ∷ detail_lines line.detail)

-- the fields of each place of a page
abbrev pub segments_950 : Page950 → List (List Field)
segments_950 p =
    (line_field 20 None p.reference ∷ [])
    ∷ (line_field 25 None p.account ∷ [])
    ∷ (number_field p.number p.page ∷ [])
    ∷ (balance_field 60 (Some (balance_letter p.opening.last)) p.ccy p.decimals p.opening ∷ [])
    ∷ map (line_field_61 p.decimals) p.lines
    ∷ (balance_field 62 (Some (balance_letter p.closing.last)) p.ccy p.decimals p.closing ∷ [])
    ∷ some_field (balance_field 64 None p.ccy p.decimals) p.available
    ∷ []

-- the fields of a page, in the order of their places
unfoldable pub fields_950 : Page950 → List Field
fields_950 p = joined (segments_950 p)

-- ---- pages that can be written

-- a balance that can be written in a currency of so many decimals: a day from 1980 to 2079, below 10^14 in size
pub record IsBalance (decimals : ℕ) (b : Balance) : Type 0 where
  pub day : InCentury b.day
  pub small : unsigned_abs b.signed < amount_end
  pub few : decimals ≤ most_decimals

-- a reference that two slashes end where the servicer's stands after it: it has none itself, and doesn't end with one then
abbrev pub IsEnded : List ℕ → Option (List ℕ) → Type 0
IsEnded reference None = double_slash_in reference ≡ None
IsEnded reference (Some servicer) = double_slash_in (reference ++ 47 ∷ []) ≡ None

-- a line that can be written: each part is of its form
pub record IsWritableLine (decimals : ℕ) (line : Line61) : Type 0 where
  pub value : InCentury line.value
  pub entry : IfSome line.entry (λ entry. (length entry ≡ 4) × IsTrue (list_all (is_in N) entry))
  pub funds : IfSome line.funds (λ letter. is_ascii_uppercase letter ≡ true)
  pub small : line.amount.0 < amount_end
  pub few : decimals ≤ most_decimals
  pub four : length line.kind ≡ 4
  pub kind : IsTrue (is_entry_type line.kind)
  pub reference : IsTrue (is_run (is_in X) 16 line.reference)
  pub ended : IsEnded line.reference line.servicer
  pub servicer : IfSome line.servicer (λ text. IsTrue (is_run (is_in X) 16 text))
  pub detail : IfSome line.detail (λ text. IsTrue (is_run (is_in X) 34 text))
