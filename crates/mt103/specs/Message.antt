-- An MT103: what its fields say, or its first fault.
use Rattle.std.specs.Prelude.{ℕ, ◌==◌, ◌||◌, List, [], ◌∷◌, Option, Result, Ok, unwrap_or, if◌then◌else◌}
use Rattle.corr_text.specs.First.{fault_of, ◌>>=◌}
use Rattle.corr_text.specs.declared.fault.Code.{Code}
use Rattle.corr_text.specs.declared.fault.Fault.{Fault}
use Rattle.ref_tables.specs.Seen.{Tables}
use Rattle.fin_fields.specs.declared.field.Field.{Field}
use Rattle.fin_layout.specs.Contents.{all_from, in_option, in_place}
use Rattle.fin_layout.specs.Order.{places_from}
use Rattle.fin_layout.specs.Tests.{passed, tests}
use Rattle.fin_contents.specs.Money.{ccy_amount_of, rate_of, value_of}
use Rattle.fin_contents.specs.Parties.{known_party_of}
use Rattle.fin_contents.specs.Plain.{reference_of, texts_of, time_of}
use Rattle.mt103.specs.Codes.{charge_of, instr_of, kind_of, operation_of}
use Rattle.mt103.specs.Instructions.{d98, e46}
use Rattle.mt103.specs.declared.message.Mt103.{Mt103}
use Rattle.mt103.specs.Order.{at_account_bank, at_charge, at_given, at_info, at_instructions, at_intermediary, at_kind, at_notes, at_operation, at_ordered, at_ordering, at_payee, at_payer, at_rate, at_receivers_bank, at_reference, at_regulatory, at_senders_bank, at_taken, at_third_bank, at_times, at_value, order_103}

-- what is wrong with the content of a field at a place of the order
abbrev pub content_test : Tables → ℕ → Field → Option Code
content_test t k f =
    if k == at_reference then fault_of (reference_of f)
    else if k == at_times then fault_of (time_of f)
    else if k == at_operation then fault_of (operation_of f)
    else if k == at_instructions then fault_of (instr_of f)
    else if k == at_kind then fault_of (kind_of f)
    else if k == at_value then fault_of (value_of t f)
    else if (k == at_ordered) || (k == at_taken) || (k == at_given) then fault_of (ccy_amount_of t f)
    else if k == at_rate then fault_of (rate_of f)
    else if k == at_info then fault_of (texts_of 4 f)
    else if k == at_charge then fault_of (charge_of f)
    else if k == at_notes then fault_of (texts_of 6 f)
    else if k == at_regulatory then fault_of (texts_of 3 f)
    else fault_of (known_party_of t f)

-- what fields at these places say, place by place
unfoldable pub contents_of : Tables → List Field → List ℕ → Result Mt103 Fault
contents_of t fs found = do
  reference ← in_place order_103 fs found at_reference reference_of
  times ← all_from fs at_times time_of 0 found fs
  op ← in_place order_103 fs found at_operation operation_of
  instrs ← all_from fs at_instructions instr_of 0 found fs
  kind ← in_option fs found at_kind kind_of
  value ← in_place order_103 fs found at_value (value_of t)
  ordered ← in_option fs found at_ordered (ccy_amount_of t)
  rate ← in_option fs found at_rate rate_of
  payer ← in_place order_103 fs found at_payer (known_party_of t)
  p52 ← in_option fs found at_ordering (known_party_of t)
  p53 ← in_option fs found at_senders_bank (known_party_of t)
  p54 ← in_option fs found at_receivers_bank (known_party_of t)
  p55 ← in_option fs found at_third_bank (known_party_of t)
  p56 ← in_option fs found at_intermediary (known_party_of t)
  p57 ← in_option fs found at_account_bank (known_party_of t)
  payee ← in_place order_103 fs found at_payee (known_party_of t)
  info ← in_option fs found at_info (texts_of 4)
  charge ← in_place order_103 fs found at_charge charge_of
  taken ← all_from fs at_taken (ccy_amount_of t) 0 found fs
  given ← in_option fs found at_given (ccy_amount_of t)
  notes ← in_option fs found at_notes (texts_of 6)
  regulatory ← in_option fs found at_regulatory (texts_of 3)
  Ok (record {
    reference = reference;
    times = times;
    op = op;
    instrs = instrs;
    kind = kind;
    value = value.day;
    amount = value.amount;
    ordered = ordered;
    rate = rate;
    payer = payer;
    p52 = p52;
    p53 = p53;
    p54 = p54;
    p55 = p55;
    p56 = p56;
    p57 = p57;
    payee = payee;
    info = unwrap_or info [];
    charge = charge;
    taken = taken;
    given = given;
    notes = unwrap_or notes [];
    regulatory = unwrap_or regulatory [];
  })

-- the tests of the fields of an MT103: structure, then contents in the text's order
abbrev pub field_tests : Tables → List Field → List (Option Fault)
field_tests t fs = tests order_103 (content_test t) fs

-- what the fields of an MT103 say, or the first test that fails: structure, contents, and the instructions together
unfoldable pub mt103_of : Tables → List Field → Result Mt103 Fault
mt103_of t fs = do
  _ ← passed (field_tests t fs)
  m ← contents_of t fs (places_from order_103 0 fs)
  _ ← passed (e46 m.instrs ∷ d98 m.instrs ∷ [])
  Ok m
