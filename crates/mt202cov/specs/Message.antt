-- An MT202 COV: what its fields say, or its first fault.
use Rattle.std.specs.Prelude.{ℕ, ◌==◌, ◌||◌, List, [], Option, Result, Ok, unwrap_or, if◌then◌else◌}
use Rattle.corr_text.specs.First.{fault_of, ◌>>=◌}
use Rattle.corr_text.specs.declared.fault.Code.{Code}
use Rattle.corr_text.specs.declared.fault.Fault.{Fault}
use Rattle.ref_tables.specs.Seen.{Tables}
use Rattle.fin_fields.specs.declared.field.Field.{Field}
use Rattle.fin_layout.specs.Contents.{all_from, in_option, in_place}
use Rattle.fin_layout.specs.Order.{places_from}
use Rattle.fin_layout.specs.Tests.{passed, tests}
use Rattle.fin_contents.specs.Money.{ccy_amount_of, value_of}
use Rattle.fin_contents.specs.Parties.{known_party_of}
use Rattle.fin_contents.specs.Plain.{reference_of, texts_of, time_of}
use Rattle.mt202cov.specs.Rules.{all_rules}
use Rattle.mt202cov.specs.declared.message.Mt202Cov.{Mt202Cov}
use Rattle.mt202cov.specs.Order.{at_a_account_bank, at_a_intermediary, at_a_notes, at_a_ordering, at_a_receivers_bank, at_a_senders_bank, at_b_account_bank, at_b_intermediary, at_b_notes, at_b_ordering, at_beneficiary, at_info, at_ordered, at_payee, at_payer, at_reference, at_related, at_times, at_value, order_202}

-- what is wrong with the content of a field at a place of the order
abbrev pub content_test : Tables → ℕ → Field → Option Code
content_test t k f =
    if (k == at_reference) || (k == at_related) then fault_of (reference_of f)
    else if k == at_times then fault_of (time_of f)
    else if k == at_value then fault_of (value_of t f)
    else if (k == at_a_notes) || (k == at_b_notes) then fault_of (texts_of 6 f)
    else if k == at_info then fault_of (texts_of 4 f)
    else if k == at_ordered then fault_of (ccy_amount_of t f)
    else fault_of (known_party_of t f)

-- what fields at these places say, place by place
unfoldable pub contents_of : Tables → List Field → List ℕ → Result Mt202Cov Fault
contents_of t fs found = do
  reference ← in_place order_202 fs found at_reference reference_of
  related ← in_place order_202 fs found at_related reference_of
  times ← all_from fs at_times time_of 0 found fs
  value ← in_place order_202 fs found at_value (value_of t)
  a52 ← in_option fs found at_a_ordering (known_party_of t)
  a53 ← in_option fs found at_a_senders_bank (known_party_of t)
  a54 ← in_option fs found at_a_receivers_bank (known_party_of t)
  a56 ← in_option fs found at_a_intermediary (known_party_of t)
  a57 ← in_option fs found at_a_account_bank (known_party_of t)
  a58 ← in_place order_202 fs found at_beneficiary (known_party_of t)
  a_notes ← in_option fs found at_a_notes (texts_of 6)
  payer ← in_place order_202 fs found at_payer (known_party_of t)
  b52 ← in_option fs found at_b_ordering (known_party_of t)
  b56 ← in_option fs found at_b_intermediary (known_party_of t)
  b57 ← in_option fs found at_b_account_bank (known_party_of t)
  payee ← in_place order_202 fs found at_payee (known_party_of t)
  info ← in_option fs found at_info (texts_of 4)
  b_notes ← in_option fs found at_b_notes (texts_of 6)
  ordered ← in_option fs found at_ordered (ccy_amount_of t)
  Ok (record {
    reference = reference;
    related = related;
    times = times;
    value = value.day;
    amount = value.amount;
    a52 = a52;
    a53 = a53;
    a54 = a54;
    a56 = a56;
    a57 = a57;
    a58 = a58;
    a_notes = unwrap_or a_notes [];
    payer = payer;
    b52 = b52;
    b56 = b56;
    b57 = b57;
    payee = payee;
    info = unwrap_or info [];
    b_notes = unwrap_or b_notes [];
    ordered = ordered;
  })

-- the tests of the fields of an MT202 COV: structure, then contents in the text's order
abbrev pub field_tests : Tables → List Field → List (Option Fault)
field_tests t fs = tests order_202 (content_test t) fs

-- what the fields of an MT202 COV say, or the first test that fails: structure, contents, and the rules
unfoldable pub mt202cov_of : Tables → List Field → Result Mt202Cov Fault
mt202cov_of t fs = do
  _ ← passed (field_tests t fs)
  m ← contents_of t fs (places_from order_202 0 fs)
  _ ← passed (all_rules m)
  Ok m
