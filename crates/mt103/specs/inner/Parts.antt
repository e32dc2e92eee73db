-- How the private readers share the fields of an MT103: three parts, one after another. No public contract cites them.
use Rattle.std.specs.Prelude.{ℕ, List, [], Option, Result, Ok, unwrap_or}
use Rattle.corr_text.specs.First.{◌>>=◌}
use Rattle.corr_text.specs.declared.fault.Fault.{Fault}
use Rattle.ref_tables.specs.Seen.{Tables}
use Rattle.fin_fields.specs.declared.field.Field.{Field}
use Rattle.fin_layout.specs.Contents.{all_from, in_option, in_place}
use Rattle.fin_contents.specs.Money.{ccy_amount_of, rate_of, value_of}
use Rattle.fin_contents.specs.Parties.{known_party_of}
use Rattle.fin_contents.specs.Plain.{reference_of, texts_of, time_of}
use Rattle.mt103.specs.Codes.{charge_of, instr_of, kind_of, operation_of}
use Rattle.mt103.specs.Order.{at_account_bank, at_charge, at_given, at_info, at_instructions, at_intermediary, at_kind, at_notes, at_operation, at_ordered, at_ordering, at_payee, at_payer, at_rate, at_receivers_bank, at_reference, at_regulatory, at_senders_bank, at_taken, at_third_bank, at_times, at_value, order_103}
use Rattle.mt103.specs.declared.instruction.Instr.{Instr}
use Rattle.mt103.specs.declared.message.Mt103.{Mt103}
use Rattle.corr_money.specs.declared.amount.Amount.{Amount}
use Rattle.fin_contents.specs.declared.value.Value.{Value}
use Rattle.fin_parties.specs.declared.party.Party.{Party}

-- what 20 to 36 say
pub record Terms : Type 0 where
  pub reference : List ℕ
  pub times : List (List ℕ)
  pub op : List ℕ
  pub instrs : List Instr
  pub kind : Option (List ℕ)
  pub value : Value
  pub ordered : Option Amount
  pub rate : Option (List ℕ)

-- what 50a to 59a say
pub record Parties : Type 0 where
  pub payer : Party
  pub p52 : Option Party
  pub p53 : Option Party
  pub p54 : Option Party
  pub p55 : Option Party
  pub p56 : Option Party
  pub p57 : Option Party
  pub payee : Party

-- what 70 to 77B say
pub record Details : Type 0 where
  pub info : List (List ℕ)
  pub charge : List ℕ
  pub taken : List Amount
  pub given : Option Amount
  pub notes : List (List ℕ)
  pub regulatory : List (List ℕ)

-- what 20 to 36 say
unfoldable pub terms_of : Tables → List Field → List ℕ → Result Terms Fault
terms_of t fs found = do
  reference ← in_place order_103 fs found at_reference reference_of
  times ← all_from fs at_times time_of 0 found fs
  op ← in_place order_103 fs found at_operation operation_of
  instrs ← all_from fs at_instructions instr_of 0 found fs
  kind ← in_option fs found at_kind kind_of
  value ← in_place order_103 fs found at_value (value_of t)
  ordered ← in_option fs found at_ordered (ccy_amount_of t)
  rate ← in_option fs found at_rate rate_of
  Ok (record { reference = reference; times = times; op = op; instrs = instrs; kind = kind; value = value; ordered = ordered; rate = rate })

-- what 50a to 59a say
unfoldable pub parties_of : Tables → List Field → List ℕ → Result Parties Fault
parties_of t fs found = do
  payer ← in_place order_103 fs found at_payer (known_party_of t)
  p52 ← in_option fs found at_ordering (known_party_of t)
  p53 ← in_option fs found at_senders_bank (known_party_of t)
  p54 ← in_option fs found at_receivers_bank (known_party_of t)
  p55 ← in_option fs found at_third_bank (known_party_of t)
  p56 ← in_option fs found at_intermediary (known_party_of t)
  p57 ← in_option fs found at_account_bank (known_party_of t)
  payee ← in_place order_103 fs found at_payee (known_party_of t)
  Ok (record { payer = payer; p52 = p52; p53 = p53; p54 = p54; p55 = p55; p56 = p56; p57 = p57; payee = payee })

-- what 70 to 77B say
unfoldable pub details_of : Tables → List Field → List ℕ → Result Details Fault
details_of t fs found = do
  info ← in_option fs found at_info (texts_of 4)
  charge ← in_place order_103 fs found at_charge charge_of
  taken ← all_from fs at_taken (ccy_amount_of t) 0 found fs
  given ← in_option fs found at_given (ccy_amount_of t)
  notes ← in_option fs found at_notes (texts_of 6)
  regulatory ← in_option fs found at_regulatory (texts_of 3)
  Ok (record { info = unwrap_or info []; charge = charge; taken = taken; given = given; notes = unwrap_or notes []; regulatory = unwrap_or regulatory [] })

-- a message of its parts
abbrev pub transfer_of_parts : Terms → Parties → Details → Mt103
transfer_of_parts terms parties details = record {
  reference = terms.reference;
  times = terms.times;
  op = terms.op;
  instrs = terms.instrs;
  kind = terms.kind;
  value = terms.value.day;
  amount = terms.value.amount;
  ordered = terms.ordered;
  rate = terms.rate;
  payer = parties.payer;
  p52 = parties.p52;
  p53 = parties.p53;
  p54 = parties.p54;
  p55 = parties.p55;
  p56 = parties.p56;
  p57 = parties.p57;
  payee = parties.payee;
  info = details.info;
  charge = details.charge;
  taken = details.taken;
  given = details.given;
  notes = details.notes;
  regulatory = details.regulatory;
}

-- what fields at these places say, part by part
unfoldable pub contents_in_parts : Tables → List Field → List ℕ → Result Mt103 Fault
contents_in_parts t fs found = do
  terms ← terms_of t fs found
  parties ← parties_of t fs found
  details ← details_of t fs found
  Ok (transfer_of_parts terms parties details)

-- ---- parts put into a message, whatever it said

-- the message with these terms, and what it said else
abbrev pub with_terms : Mt103 → Terms → Mt103
with_terms m terms = record {
  reference = terms.reference;
  times = terms.times;
  op = terms.op;
  instrs = terms.instrs;
  kind = terms.kind;
  value = terms.value.day;
  amount = terms.value.amount;
  ordered = terms.ordered;
  rate = terms.rate;
  payer = m.payer;
  p52 = m.p52;
  p53 = m.p53;
  p54 = m.p54;
  p55 = m.p55;
  p56 = m.p56;
  p57 = m.p57;
  payee = m.payee;
  info = m.info;
  charge = m.charge;
  taken = m.taken;
  given = m.given;
  notes = m.notes;
  regulatory = m.regulatory;
}

-- the message with the terms that the fields say
unfoldable pub terms_into : Tables → List Field → List ℕ → Mt103 → Result Mt103 Fault
terms_into t fs found m = do
  terms ← terms_of t fs found
  Ok (with_terms m terms)

-- the message with these parties, and what it said else
abbrev pub with_parties : Mt103 → Parties → Mt103
with_parties m parties = record {
  reference = m.reference;
  times = m.times;
  op = m.op;
  instrs = m.instrs;
  kind = m.kind;
  value = m.value;
  amount = m.amount;
  ordered = m.ordered;
  rate = m.rate;
  payer = parties.payer;
  p52 = parties.p52;
  p53 = parties.p53;
  p54 = parties.p54;
  p55 = parties.p55;
  p56 = parties.p56;
  p57 = parties.p57;
  payee = parties.payee;
  info = m.info;
  charge = m.charge;
  taken = m.taken;
  given = m.given;
  notes = m.notes;
  regulatory = m.regulatory;
}

-- another payer
abbrev pub with_payer : Mt103 → Party → Mt103
with_payer m payer = with_parties m (record { payer = payer; p52 = m.p52; p53 = m.p53; p54 = m.p54; p55 = m.p55; p56 = m.p56; p57 = m.p57; payee = m.payee })

-- other banks in 52a to 57a
abbrev pub with_banks : Mt103 → Option Party → Option Party → Option Party → Option Party → Option Party → Option Party → Mt103
with_banks m p52 p53 p54 p55 p56 p57 = with_parties m (record { payer = m.payer; p52 = p52; p53 = p53; p54 = p54; p55 = p55; p56 = p56; p57 = p57; payee = m.payee })

-- another payee
abbrev pub with_payee : Mt103 → Party → Mt103
with_payee m payee = with_parties m (record { payer = m.payer; p52 = m.p52; p53 = m.p53; p54 = m.p54; p55 = m.p55; p56 = m.p56; p57 = m.p57; payee = payee })

-- what 52a to 57a say
unfoldable pub banks_into : Tables → List Field → List ℕ → Mt103 → Result Mt103 Fault
banks_into t fs found m = do
  p52 ← in_option fs found at_ordering (known_party_of t)
  p53 ← in_option fs found at_senders_bank (known_party_of t)
  p54 ← in_option fs found at_receivers_bank (known_party_of t)
  p55 ← in_option fs found at_third_bank (known_party_of t)
  p56 ← in_option fs found at_intermediary (known_party_of t)
  p57 ← in_option fs found at_account_bank (known_party_of t)
  Ok (with_banks m p52 p53 p54 p55 p56 p57)

-- the payer, the banks, the payee
unfoldable pub parties_into : Tables → List Field → List ℕ → Mt103 → Result Mt103 Fault
parties_into t fs found m = do
  payer ← in_place order_103 fs found at_payer (known_party_of t)
  banks ← banks_into t fs found (with_payer m payer)
  payee ← in_place order_103 fs found at_payee (known_party_of t)
  Ok (with_payee banks payee)

-- the message with these details, and what it said else
abbrev pub with_details : Mt103 → Details → Mt103
with_details m details = record {
  reference = m.reference;
  times = m.times;
  op = m.op;
  instrs = m.instrs;
  kind = m.kind;
  value = m.value;
  amount = m.amount;
  ordered = m.ordered;
  rate = m.rate;
  payer = m.payer;
  p52 = m.p52;
  p53 = m.p53;
  p54 = m.p54;
  p55 = m.p55;
  p56 = m.p56;
  p57 = m.p57;
  payee = m.payee;
  info = details.info;
  charge = details.charge;
  taken = details.taken;
  given = details.given;
  notes = details.notes;
  regulatory = details.regulatory;
}

-- other information in 70 and another 71A
abbrev pub with_info : Mt103 → List (List ℕ) → List ℕ → Mt103
with_info m info charge = with_details m (record { info = info; charge = charge; taken = m.taken; given = m.given; notes = m.notes; regulatory = m.regulatory })

-- other closing fields: 71F to 77B
abbrev pub with_closing : Mt103 → List Amount → Option Amount → List (List ℕ) → List (List ℕ) → Mt103
with_closing m taken given notes regulatory = with_details m (record { info = m.info; charge = m.charge; taken = taken; given = given; notes = notes; regulatory = regulatory })

-- what 71F to 77B say
unfoldable pub closing_into : Tables → List Field → List ℕ → Mt103 → Result Mt103 Fault
closing_into t fs found m = do
  taken ← all_from fs at_taken (ccy_amount_of t) 0 found fs
  given ← in_option fs found at_given (ccy_amount_of t)
  notes ← in_option fs found at_notes (texts_of 6)
  regulatory ← in_option fs found at_regulatory (texts_of 3)
  Ok (with_closing m taken given (unwrap_or notes []) (unwrap_or regulatory []))

-- the lines of 70, none without the field
unfoldable pub info_of : List Field → List ℕ → Result (List (List ℕ)) Fault
info_of fs found = do
  info ← in_option fs found at_info (texts_of 4)
  Ok (unwrap_or info [])

-- 70 and 71A, then the closing fields
unfoldable pub details_into : Tables → List Field → List ℕ → Mt103 → Result Mt103 Fault
details_into t fs found m = do
  info ← info_of fs found
  charge ← in_place order_103 fs found at_charge charge_of
  closing_into t fs found (with_info m info charge)

-- one part after another
unfoldable pub contents_into : Tables → List Field → List ℕ → Mt103 → Result Mt103 Fault
contents_into t fs found m = do
  first ← terms_into t fs found m
  second ← parties_into t fs found first
  details_into t fs found second
