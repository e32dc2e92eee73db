-- How the private readers share the fields of an MT202 COV: sequence A of terms, banks and notes, then sequence B of customers and
-- details. No public contract cites them.
use Rattle.std.specs.Prelude.{ℕ, List, [], Result, Ok, unwrap_or}
use Rattle.corr_text.specs.First.{◌>>=◌}
use Rattle.corr_text.specs.declared.fault.Fault.{Fault}
use Rattle.ref_tables.specs.Seen.{Tables}
use Rattle.fin_fields.specs.declared.field.Field.{Field}
use Rattle.fin_layout.specs.Contents.{all_from, in_option, in_place}
use Rattle.fin_contents.specs.Money.{ccy_amount_of, value_of}
use Rattle.fin_contents.specs.Parties.{known_party_of}
use Rattle.fin_contents.specs.Plain.{reference_of, texts_of, time_of}
use Rattle.mt202cov.specs.Order.{at_a_account_bank, at_a_intermediary, at_a_notes, at_a_ordering, at_a_receivers_bank, at_a_senders_bank, at_b_account_bank, at_b_intermediary, at_b_notes, at_b_ordering, at_beneficiary, at_info, at_ordered, at_payee, at_payer, at_reference, at_related, at_times, at_value, order_202}
use Rattle.mt202cov.specs.declared.banks.Banks.{Banks}
use Rattle.mt202cov.specs.declared.banks.BeneficiarySide.{BeneficiarySide}
use Rattle.mt202cov.specs.declared.banks.SenderSide.{SenderSide}
use Rattle.mt202cov.specs.declared.customers.Customers.{Customers}
use Rattle.mt202cov.specs.declared.customers.PayeeSide.{PayeeSide}
use Rattle.mt202cov.specs.declared.customers.PayerSide.{PayerSide}
use Rattle.mt202cov.specs.declared.details.Details.{Details}
use Rattle.mt202cov.specs.declared.message.Mt202Cov.{Mt202Cov}
use Rattle.mt202cov.specs.declared.sequences.SequenceA.{SequenceA}
use Rattle.mt202cov.specs.declared.sequences.SequenceB.{SequenceB}
use Rattle.mt202cov.specs.declared.terms.Terms.{Terms}

-- what 20 to 32A say
unfoldable pub terms_of : Tables → List Field → List ℕ → Result Terms Fault
terms_of t fs found = do
  reference ← in_place order_202 fs found at_reference reference_of
  related ← in_place order_202 fs found at_related reference_of
  times ← all_from fs at_times time_of 0 found fs
  value ← in_place order_202 fs found at_value (value_of t)
  Ok (record { reference = reference; related = related; times = times; value = value })

-- what 52a to 54a of sequence A say
unfoldable pub sender_side_of : Tables → List Field → List ℕ → Result SenderSide Fault
sender_side_of t fs found = do
  p52 ← in_option fs found at_a_ordering (known_party_of t)
  p53 ← in_option fs found at_a_senders_bank (known_party_of t)
  p54 ← in_option fs found at_a_receivers_bank (known_party_of t)
  Ok (record { p52 = p52; p53 = p53; p54 = p54 })

-- what 56a to 58a of sequence A say
unfoldable pub beneficiary_side_of : Tables → List Field → List ℕ → Result BeneficiarySide Fault
beneficiary_side_of t fs found = do
  p56 ← in_option fs found at_a_intermediary (known_party_of t)
  p57 ← in_option fs found at_a_account_bank (known_party_of t)
  p58 ← in_place order_202 fs found at_beneficiary (known_party_of t)
  Ok (record { p56 = p56; p57 = p57; p58 = p58 })

-- what 52a to 58a of sequence A say
unfoldable pub banks_of : Tables → List Field → List ℕ → Result Banks Fault
banks_of t fs found = do
  s ← sender_side_of t fs found
  b ← beneficiary_side_of t fs found
  Ok (record { p52 = s.p52; p53 = s.p53; p54 = s.p54; p56 = b.p56; p57 = b.p57; p58 = b.p58 })

-- what 50a and 52a of sequence B say
unfoldable pub payer_side_of : Tables → List Field → List ℕ → Result PayerSide Fault
payer_side_of t fs found = do
  payer ← in_place order_202 fs found at_payer (known_party_of t)
  p52 ← in_option fs found at_b_ordering (known_party_of t)
  Ok (record { payer = payer; p52 = p52 })

-- what 56a to 59a of sequence B say
unfoldable pub payee_side_of : Tables → List Field → List ℕ → Result PayeeSide Fault
payee_side_of t fs found = do
  p56 ← in_option fs found at_b_intermediary (known_party_of t)
  p57 ← in_option fs found at_b_account_bank (known_party_of t)
  payee ← in_place order_202 fs found at_payee (known_party_of t)
  Ok (record { p56 = p56; p57 = p57; payee = payee })

-- what 50a to 59a of sequence B say
unfoldable pub customers_of : Tables → List Field → List ℕ → Result Customers Fault
customers_of t fs found = do
  from ← payer_side_of t fs found
  to ← payee_side_of t fs found
  Ok (record { payer = from.payer; p52 = from.p52; p56 = to.p56; p57 = to.p57; payee = to.payee })

-- what 70, 72 and 33B of sequence B say
unfoldable pub details_of : Tables → List Field → List ℕ → Result Details Fault
details_of t fs found = do
  info ← in_option fs found at_info (texts_of 4)
  notes ← in_option fs found at_b_notes (texts_of 6)
  ordered ← in_option fs found at_ordered (ccy_amount_of t)
  Ok (record { info = unwrap_or info []; notes = unwrap_or notes []; ordered = ordered })

-- what sequence A says
unfoldable pub sequence_a_of : Tables → List Field → List ℕ → Result SequenceA Fault
sequence_a_of t fs found = do
  terms ← terms_of t fs found
  banks ← banks_of t fs found
  notes ← in_option fs found at_a_notes (texts_of 6)
  Ok (record { terms = terms; banks = banks; notes = unwrap_or notes [] })

-- what sequence B says
unfoldable pub sequence_b_of : Tables → List Field → List ℕ → Result SequenceB Fault
sequence_b_of t fs found = do
  customers ← customers_of t fs found
  details ← details_of t fs found
  Ok (record { customers = customers; details = details })

-- a cover of its sequences
abbrev pub cover_of_parts : SequenceA → SequenceB → Mt202Cov
cover_of_parts a b = record {
  reference = a.terms.reference;
  related = a.terms.related;
  times = a.terms.times;
  value = a.terms.value.day;
  amount = a.terms.value.amount;
  a52 = a.banks.p52;
  a53 = a.banks.p53;
  a54 = a.banks.p54;
  a56 = a.banks.p56;
  a57 = a.banks.p57;
  a58 = a.banks.p58;
  a_notes = a.notes;
  payer = b.customers.payer;
  b52 = b.customers.p52;
  b56 = b.customers.p56;
  b57 = b.customers.p57;
  payee = b.customers.payee;
  info = b.details.info;
  b_notes = b.details.notes;
  ordered = b.details.ordered;
}

-- what fields at these places say, part by part
unfoldable pub contents_in_parts : Tables → List Field → List ℕ → Result Mt202Cov Fault
contents_in_parts t fs found = do
  a ← sequence_a_of t fs found
  b ← sequence_b_of t fs found
  Ok (cover_of_parts a b)
