-- What an MT900 and an MT910 say, or the first test that they fail.
use Rattle.std.specs.Prelude.{ℕ, ◌==◌, ◌&&◌, ◌||◌, Bool, List, [], ◌∷◌, length, take, drop, Option, Result, Ok, nat_le, codes, is_some, unwrap_or, if◌then◌else◌}
use Rattle.std.specs.List.{list_all}
use Rattle.corr_text.specs.Codes.{code}
use Rattle.corr_text.specs.First.{check, fault_of, or_fault, unless, ◌>>=◌}
use Rattle.corr_text.specs.Sets.{is_in}
use Rattle.corr_text.specs.declared.fault.Code.{Code}
use Rattle.corr_text.specs.declared.fault.Fault.{Fault}
use Rattle.corr_text.specs.declared.set.Set.TheVariants.{N}
use Rattle.ref_tables.specs.Seen.{Tables}
use Rattle.fin_fields.specs.declared.field.Field.{Field}
use Rattle.fin_layout.specs.Contents.{in_option, in_place}
use Rattle.fin_layout.specs.Order.{places_from}
use Rattle.fin_layout.specs.Tests.{passed, tests}
use Rattle.fin_contents.specs.Money.{value_of}
use Rattle.fin_contents.specs.Parties.{known_party_of}
use Rattle.fin_contents.specs.Plain.{is_clock, one_line, reference_of, short_line_of, texts_of}
use Rattle.mt9_advice.specs.declared.credit.Mt910.{Mt910}
use Rattle.mt9_advice.specs.declared.debit.Mt900.{Mt900}
use Rattle.mt9_advice.specs.Order.{at_account, at_intermediary, at_notes_900, at_notes_910, at_ordering_900, at_ordering_910, at_payer, at_reference, at_related, at_stamp, at_value, order_900, order_910}

-- `10!n`, a sign, `4!n`
abbrev pub is_stamp : List ℕ → Bool
is_stamp line = nat_le 6 (length line) && list_all (is_in N) (take 6 line) && is_clock (drop 6 line)

-- 13D
unfoldable pub stamp_of : Field → Result (List ℕ) Code
stamp_of f = do
  line ← or_fault (one_line f) (code "P24")
  _ ← check (is_stamp line) (code "P24")
  Ok line

-- what is wrong with the content of a field at a place, where 72 has the place `last`
abbrev pub content_test : ℕ → Tables → ℕ → Field → Option Code
content_test last t k f =
    if k == at_reference then fault_of (reference_of f)
    else if k == at_related then fault_of (short_line_of 16 f)
    else if k == at_account then fault_of (short_line_of 35 f)
    else if k == at_stamp then fault_of (stamp_of f)
    else if k == at_value then fault_of (value_of t f)
    else if k == last then fault_of (texts_of 6 f)
    else fault_of (known_party_of t f)

-- ---- MT900

-- what fields at these places say, place by place
unfoldable pub contents_900 : Tables → List Field → List ℕ → Result Mt900 Fault
contents_900 t fs found = do
  reference ← in_place order_900 fs found at_reference reference_of
  related ← in_place order_900 fs found at_related (short_line_of 16)
  account ← in_place order_900 fs found at_account (short_line_of 35)
  at ← in_option fs found at_stamp stamp_of
  value ← in_place order_900 fs found at_value (value_of t)
  p52 ← in_option fs found at_ordering_900 (known_party_of t)
  notes ← in_option fs found at_notes_900 (texts_of 6)
  Ok (record {
    reference = reference;
    related = related;
    account = account;
    at = at;
    value = value.day;
    amount = value.amount;
    p52 = p52;
    notes = unwrap_or notes [];
  })

-- the tests of the fields of an MT900: structure, then contents in the text's order
abbrev pub tests_900 : Tables → List Field → List (Option Fault)
tests_900 t fs = tests order_900 (content_test at_notes_900 t) fs

-- what the fields of an MT900 say, or the first test that fails
unfoldable pub mt900_of : Tables → List Field → Result Mt900 Fault
mt900_of t fs = do
  _ ← passed (tests_900 t fs)
  contents_900 t fs (places_from order_900 0 fs)

-- ---- MT910

-- what fields at these places say, place by place
unfoldable pub contents_910 : Tables → List Field → List ℕ → Result Mt910 Fault
contents_910 t fs found = do
  reference ← in_place order_910 fs found at_reference reference_of
  related ← in_place order_910 fs found at_related (short_line_of 16)
  account ← in_place order_910 fs found at_account (short_line_of 35)
  at ← in_option fs found at_stamp stamp_of
  value ← in_place order_910 fs found at_value (value_of t)
  payer ← in_option fs found at_payer (known_party_of t)
  p52 ← in_option fs found at_ordering_910 (known_party_of t)
  p56 ← in_option fs found at_intermediary (known_party_of t)
  notes ← in_option fs found at_notes_910 (texts_of 6)
  Ok (record {
    reference = reference;
    related = related;
    account = account;
    at = at;
    value = value.day;
    amount = value.amount;
    payer = payer;
    p52 = p52;
    p56 = p56;
    notes = unwrap_or notes [];
  })

-- the tests of the fields of an MT910: structure, then contents in the text's order
abbrev pub tests_910 : Tables → List Field → List (Option Fault)
tests_910 t fs = tests order_910 (content_test at_notes_910 t) fs

-- C06: neither 50a nor 52a is there
abbrev pub c06 : Mt910 → Option Fault
c06 m = unless (is_some m.payer || is_some m.p52) (record { code = code "C06"; tag = codes "50 "; nth = 0 })

-- what the fields of an MT910 say, or the first test that fails: structure, contents, and the rule
unfoldable pub mt910_of : Tables → List Field → Result Mt910 Fault
mt910_of t fs = do
  _ ← passed (tests_910 t fs)
  m ← contents_910 t fs (places_from order_910 0 fs)
  _ ← passed (c06 m ∷ [])
  Ok m
