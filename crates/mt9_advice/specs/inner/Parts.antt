-- How the private readers share the fields of an advice: the booking, which both types have, and the others. No public contract
-- cites them.
use Rattle.std.specs.Prelude.{ℕ, List, [], Option, Result, Ok, unwrap_or}
use Rattle.corr_text.specs.First.{◌>>=◌}
use Rattle.corr_text.specs.declared.fault.Fault.{Fault}
use Rattle.ref_tables.specs.Seen.{Tables}
use Rattle.fin_fields.specs.declared.field.Field.{Field}
use Rattle.fin_layout.specs.declared.place.Place.{Place}
use Rattle.fin_layout.specs.Contents.{in_option, in_place}
use Rattle.fin_parties.specs.declared.party.Party.{Party}
use Rattle.fin_contents.specs.Money.{value_of}
use Rattle.fin_contents.specs.Parties.{known_party_of}
use Rattle.fin_contents.specs.Plain.{reference_of, short_line_of, texts_of}
use Rattle.mt9_advice.specs.Advice.{stamp_of}
use Rattle.mt9_advice.specs.Order.{at_account, at_intermediary, at_notes_900, at_notes_910, at_ordering_900, at_ordering_910, at_payer, at_reference, at_related, at_stamp, at_value, order_900, order_910}
use Rattle.mt9_advice.specs.declared.booking.Booking.{Booking}
use Rattle.mt9_advice.specs.declared.credit.Ending.{Ending}
use Rattle.mt9_advice.specs.declared.credit.Mt910.{Mt910}
use Rattle.mt9_advice.specs.declared.credit.Orderers.{Orderers}
use Rattle.mt9_advice.specs.declared.debit.Mt900.{Mt900}

-- what both say first: 20, 21, 25, 13D and 32A
unfoldable pub booking_of : List Place → Tables → List Field → List ℕ → Result Booking Fault
booking_of order t fs found = do
  reference ← in_place order fs found at_reference reference_of
  related ← in_place order fs found at_related (short_line_of 16)
  account ← in_place order fs found at_account (short_line_of 35)
  at ← in_option fs found at_stamp stamp_of
  value ← in_place order fs found at_value (value_of t)
  Ok (record { reference = reference; related = related; account = account; at = at; value = value })

-- an MT900 of its parts
abbrev pub mt900 : Booking → Option Party → List (List ℕ) → Mt900
mt900 b p52 notes = record {
  reference = b.reference;
  related = b.related;
  account = b.account;
  at = b.at;
  value = b.value.day;
  amount = b.value.amount;
  p52 = p52;
  notes = notes;
}

-- what the fields of an MT900 at these places say, part by part
unfoldable pub parts_900 : Tables → List Field → List ℕ → Result Mt900 Fault
parts_900 t fs found = do
  b ← booking_of order_900 t fs found
  p52 ← in_option fs found at_ordering_900 (known_party_of t)
  notes ← in_option fs found at_notes_900 (texts_of 6)
  Ok (mt900 b p52 (unwrap_or notes []))

-- who ordered a credit: 50a and 52a
unfoldable pub orderers_of : Tables → List Field → List ℕ → Result Orderers Fault
orderers_of t fs found = do
  payer ← in_option fs found at_payer (known_party_of t)
  p52 ← in_option fs found at_ordering_910 (known_party_of t)
  Ok (record { payer = payer; p52 = p52 })

-- what 56a and 72 say
unfoldable pub ending_of : Tables → List Field → List ℕ → Result Ending Fault
ending_of t fs found = do
  p56 ← in_option fs found at_intermediary (known_party_of t)
  notes ← in_option fs found at_notes_910 (texts_of 6)
  Ok (record { p56 = p56; notes = unwrap_or notes [] })

-- an MT910 of its parts
abbrev pub mt910 : Booking → Option Party → Option Party → Option Party → List (List ℕ) → Mt910
mt910 b payer p52 p56 notes = record {
  reference = b.reference;
  related = b.related;
  account = b.account;
  at = b.at;
  value = b.value.day;
  amount = b.value.amount;
  payer = payer;
  p52 = p52;
  p56 = p56;
  notes = notes;
}

-- what the fields of an MT910 at these places say, part by part
unfoldable pub parts_910 : Tables → List Field → List ℕ → Result Mt910 Fault
parts_910 t fs found = do
  b ← booking_of order_910 t fs found
  o ← orderers_of t fs found
  e ← ending_of t fs found
  Ok (mt910 b o.payer o.p52 e.p56 e.notes)
