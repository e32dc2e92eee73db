-- Where no test of an MT103's fields fails, its fields say a message.
use Rattle.std.proofs.Common.{◌≡◌, ℕ, List, [], None, Ok, refl, sym, ◌∙◌}
use Rattle.std.specs.Prelude.{unwrap_or}
use Rattle.corr_text.specs.First.{first_of}
use Rattle.ref_tables.specs.Seen.{Tables}
use Rattle.fin_fields.specs.declared.field.Field.{Field}
use Rattle.fin_layout.specs.Order.{places_from}
use Rattle.fin_layout.proofs.laws.Fine.{AllHold, all-hold, may-fine, many-fine, must-fine}
use Rattle.fin_contents.specs.Money.{ccy_amount_of, rate_of, value_of}
use Rattle.fin_contents.specs.Parties.{known_party_of}
use Rattle.fin_contents.specs.Plain.{reference_of, texts_of, time_of}
use Rattle.mt103.specs.Codes.{charge_of, instr_of, kind_of, operation_of}
use Rattle.mt103.specs.Message.{content_test, contents_of, field_tests}
use Rattle.mt103.specs.inner.Parts.{Details, Parties, Terms, contents_in_parts, details_of, transfer_of_parts, parties_of, terms_of}
use Rattle.mt103.specs.declared.message.Mt103.{Mt103}
use Rattle.mt103.specs.Order.{order_103}
use Rattle.mt103.proofs.Says.{DetailsSay, PartiesSay, TermsSay, details-said, parties-said, terms-said}
use Rattle.mt103.proofs.laws.Parts.{contents-are}

module _ (t : Tables) (fs : List Field) (found : List ℕ) (hold : AllHold order_103 (content_test t) fs found) where
  terms-fine : (x : Terms) × (terms_of t fs found ≡ Ok x)
  terms-fine =
      let x0 = must-fine hold 0 reference_of (λ f. refl) _ refl refl in
      let x1 = many-fine hold 1 time_of (λ f. refl) in
      let x2 = must-fine hold 2 operation_of (λ f. refl) _ refl refl in
      let x3 = many-fine hold 3 instr_of (λ f. refl) in
      let x4 = may-fine hold 4 kind_of (λ f. refl) in
      let x5 = must-fine hold 5 (value_of t) (λ f. refl) _ refl refl in
      let x6 = may-fine hold 6 (ccy_amount_of t) (λ f. refl) in
      let x7 = may-fine hold 7 rate_of (λ f. refl) in
      let x : Terms = record { reference = x0.0; times = x1.0; op = x2.0; instrs = x3.0; kind = x4.0; value = x5.0; ordered = x6.0; rate = x7.0 } in
      let say : TermsSay t fs found x =
      record { reference = x0.1; times = x1.1; op = x2.1; instrs = x3.1; kind = x4.1; value = x5.1; ordered = x6.1; rate = x7.1 } in
      (x, terms-said t fs found x say)

  parties-fine : (x : Parties) × (parties_of t fs found ≡ Ok x)
  parties-fine =
      let x8 = must-fine hold 8 (known_party_of t) (λ f. refl) _ refl refl in
      let x9 = may-fine hold 9 (known_party_of t) (λ f. refl) in
      let x10 = may-fine hold 10 (known_party_of t) (λ f. refl) in
      let x11 = may-fine hold 11 (known_party_of t) (λ f. refl) in
      let x12 = may-fine hold 12 (known_party_of t) (λ f. refl) in
      let x13 = may-fine hold 13 (known_party_of t) (λ f. refl) in
      let x14 = may-fine hold 14 (known_party_of t) (λ f. refl) in
      let x15 = must-fine hold 15 (known_party_of t) (λ f. refl) _ refl refl in
      let x : Parties = record { payer = x8.0; p52 = x9.0; p53 = x10.0; p54 = x11.0; p55 = x12.0; p56 = x13.0; p57 = x14.0; payee = x15.0 } in
      let say : PartiesSay t fs found x =
      record { payer = x8.1; p52 = x9.1; p53 = x10.1; p54 = x11.1; p55 = x12.1; p56 = x13.1; p57 = x14.1; payee = x15.1 } in
      (x, parties-said t fs found x say)

  details-fine : (x : Details) × (details_of t fs found ≡ Ok x)
  details-fine =
      let x16 = may-fine hold 16 (texts_of 4) (λ f. refl) in
      let x17 = must-fine hold 17 charge_of (λ f. refl) _ refl refl in
      let x18 = many-fine hold 18 (ccy_amount_of t) (λ f. refl) in
      let x19 = may-fine hold 19 (ccy_amount_of t) (λ f. refl) in
      let x20 = may-fine hold 20 (texts_of 6) (λ f. refl) in
      let x21 = may-fine hold 21 (texts_of 3) (λ f. refl) in
      let x : Details = record {
        info = unwrap_or x16.0 [];
        charge = x17.0;
        taken = x18.0;
        given = x19.0;
        notes = unwrap_or x20.0 [];
        regulatory = unwrap_or x21.0 [];
      } in
      let say : DetailsSay t fs found x = record {
        info = record { said = x16.0; read = x16.1; same = refl };
        charge = x17.1;
        taken = x18.1;
        given = x19.1;
        notes = record { said = x20.0; read = x20.1; same = refl };
        regulatory = record { said = x21.0; read = x21.1; same = refl };
      } in
      (x, details-said t fs found x say)

  contents-fine : (m : Mt103) × (contents_of t fs found ≡ Ok m)
  unfolding contents_in_parts
  contents-fine =
      let terms = terms-fine in
      let parties = parties-fine in
      let details = details-fine in
      let m : Mt103 = transfer_of_parts terms.0 parties.0 details.0 in
      let parts : contents_in_parts t fs found ≡ Ok m = rw (terms.1, parties.1, details.1) refl in
      (m, sym (contents-are t fs found) ∙ parts)

pub complete : (t : Tables) (fs : List Field) → first_of (field_tests t fs) ≡ None → (m : Mt103) × (contents_of t fs (places_from order_103 0 fs) ≡ Ok m)
complete t fs none = contents-fine t fs (places_from order_103 0 fs) (all-hold order_103 (content_test t) fs none)
