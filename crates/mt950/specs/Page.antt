-- An MT950: what its fields say, or its first fault.
use Rattle.std.specs.Prelude.{ℕ, ◌==◌, List, Option, option_map, Result, Ok, Err, if◌then◌else◌}
use Rattle.corr_text.specs.First.{fault_of, ◌>>=◌}
use Rattle.corr_text.specs.declared.fault.Code.{Code}
use Rattle.corr_text.specs.declared.fault.Fault.{Fault}
use Rattle.ref_tables.specs.Seen.{Tables}
use Rattle.fin_fields.specs.declared.field.Field.{Field}
use Rattle.fin_layout.specs.Contents.{all_from, in_option, in_place}
use Rattle.fin_layout.specs.Order.{places_from}
use Rattle.fin_layout.specs.Tests.{passed, tests}
use Rattle.fin_contents.specs.Plain.{reference_of, short_line_of}
use Rattle.mt950.specs.Balances.{stated_of}
use Rattle.mt950.specs.Entry.{line_of}
use Rattle.mt950.specs.Number.{numbers_of}
use Rattle.mt950.specs.Order.{at_account, at_available, at_closing, at_lines, at_number, at_opening, at_reference, order_950}
use Rattle.mt950.specs.Rules.{currency_rules}
use Rattle.mt950.specs.declared.balance.Stated.{Stated}
use Rattle.mt950.specs.declared.page.Page950.{Page950}
use Rattle.mt950.specs.declared.said.Said.{Said}

-- the decimals of the currency that an opening names; without one its own test fails before any of 61, whatever is said here
abbrev pub decimals_with : Result Stated Fault → ℕ
decimals_with (Ok stated) = stated.decimals
decimals_with (Err fault) = 0

-- the decimals of the amounts of 61: those of the currency of 60a
abbrev pub entry_decimals : Tables → List Field → List ℕ → ℕ
entry_decimals t fs found = decimals_with (in_place order_950 fs found at_opening (stated_of t))

-- what is wrong with the content of a field at a place of the order, where the amounts of 61 have so many decimals
abbrev pub content_test : Tables → ℕ → ℕ → Field → Option Code
content_test t decimals k f =
    if k == at_reference then fault_of (reference_of f)
    else if k == at_account then fault_of (short_line_of 35 f)
    else if k == at_number then fault_of (numbers_of f)
    else if k == at_lines then fault_of (line_of decimals f)
    else fault_of (stated_of t f)

-- the tests of the fields of an MT950: structure, then contents in the text's order
abbrev pub tests_950 : Tables → List Field → List (Option Fault)
tests_950 t fs = tests order_950 (content_test t (entry_decimals t fs (places_from order_950 0 fs))) fs

-- what fields at these places say
unfoldable pub said_of : Tables → List Field → List ℕ → Result Said Fault
said_of t fs found = do
  reference ← in_place order_950 fs found at_reference reference_of
  account ← in_place order_950 fs found at_account (short_line_of 35)
  numbers ← in_place order_950 fs found at_number numbers_of
  opening ← in_place order_950 fs found at_opening (stated_of t)
  lines ← all_from fs at_lines (line_of opening.decimals) 0 found fs
  closing ← in_place order_950 fs found at_closing (stated_of t)
  available ← in_option fs found at_available (stated_of t)
  Ok (record { reference = reference; account = account; numbers = numbers; opening = opening; lines = lines; closing = closing; available = available })

-- the page, in the currency of its opening
abbrev pub page_of : Said → Page950
page_of said = record {
  reference = said.reference;
  account = said.account;
  number = said.numbers.number;
  page = said.numbers.page;
  ccy = said.opening.ccy;
  decimals = said.opening.decimals;
  opening = said.opening.balance;
  lines = said.lines;
  closing = said.closing.balance;
  available = option_map (λ stated. stated.balance) said.available;
}

-- what the fields of an MT950 say, or the first test that fails: structure, contents, and the currencies together
unfoldable pub mt950_of : Tables → List Field → Result Page950 Fault
mt950_of t fs = do
  _ ← passed (tests_950 t fs)
  said ← said_of t fs (places_from order_950 0 fs)
  _ ← passed (currency_rules said)
  Ok (page_of said)
