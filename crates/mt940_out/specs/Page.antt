-- An MT940: what its fields say, or its first fault.
use Rattle.std.specs.Prelude.{ℕ, ◌==◌, Bool, false, List, ◌∷◌, length, Option, Result, Ok, if◌then◌else◌}
use Rattle.corr_text.specs.Codes.{code}
use Rattle.corr_text.specs.First.{unless, ◌>>=◌}
use Rattle.corr_text.specs.declared.fault.Code.{Code}
use Rattle.corr_text.specs.declared.fault.Fault.{Fault}
use Rattle.ref_tables.specs.Seen.{Tables}
use Rattle.fin_fields.specs.Patterns.{meets}
use Rattle.fin_fields.specs.declared.field.Field.{Field}
use Rattle.fin_fields.specs.declared.pattern.Pattern.TheVariants.{Lines}
use Rattle.fin_layout.specs.Naming.{fault_at}
use Rattle.fin_layout.specs.Order.{places_from}
use Rattle.fin_layout.specs.Tests.{contents_from, lacking, passed}
use Rattle.mt950.specs.Order.{order_950}
use Rattle.mt950.specs.Page.{content_test, entry_decimals, mt950_of}
use Rattle.mt940_out.specs.Order.{at_note, fields_beside, notes_of, places_940}
use Rattle.mt940_out.specs.declared.page.Page940.{Page940}

-- 86: 1 to 6 lines of 65x
abbrev pub is_note_text : List (List ℕ) → Bool
is_note_text lines = meets (Lines 6 65) lines

-- P24: an 86 has another form
abbrev pub note_fault : Field → Option Code
note_fault f = unless (is_note_text f.lines) (code "P24")

-- P22: the first field that the order doesn't allow at its place
abbrev pub misplaced_940 : List Field → Option Fault
misplaced_940 fs = unless (length (places_940 0 false fs) == length fs) (fault_at fs (length (places_940 0 false fs)) (code "P22"))

-- what is wrong with the content of a field at a place, where the amounts of 61 have so many decimals
abbrev pub content_test_940 : Tables → ℕ → ℕ → Field → Option Code
content_test_940 t decimals k f = if k == at_note then note_fault f else content_test t decimals k f

-- the decimals of the amounts of 61: those of the currency of 60a
abbrev pub decimals_940 : Tables → List Field → ℕ
decimals_940 t fs = entry_decimals t (fields_beside fs) (places_from order_950 0 (fields_beside fs))

-- what is wrong with the contents, in the text's order
abbrev pub contents_940 : Tables → List Field → List (Option Fault)
contents_940 t fs = contents_from (content_test_940 t (decimals_940 t fs)) fs 0 (places_940 0 false fs) fs

-- the tests of the fields of an MT940: structure, then contents in the text's order. No 86 must be there, so that what is missing is
-- what an MT950 lacks
abbrev pub tests_940 : Tables → List Field → List (Option Fault)
tests_940 t fs = misplaced_940 fs ∷ lacking order_950 (fields_beside fs) ∷ contents_940 t fs

-- what the fields of an MT940 say, or the first test that fails: structure, contents, and then the rules of the MT950 that it is
-- without its 86
unfoldable pub mt940_of : Tables → List Field → Result Page940 Fault
mt940_of t fs = do
  _ ← passed (tests_940 t fs)
  page ← mt950_of t (fields_beside fs)
  Ok (record { page = page; notes = notes_of fs })
