-- Where no test of a cover's fields fails, its fields say a cover.
use Rattle.std.proofs.Common.{◌≡◌, ℕ, List, [], None, Ok, refl}
use Rattle.std.specs.Prelude.{unwrap_or}
use Rattle.corr_text.specs.First.{first_of}
use Rattle.ref_tables.specs.Seen.{Tables}
use Rattle.fin_fields.specs.declared.field.Field.{Field}
use Rattle.fin_layout.specs.Order.{places_from}
use Rattle.fin_layout.proofs.laws.Fine.{AllHold, all-hold, may-fine, many-fine, must-fine}
use Rattle.fin_contents.specs.Money.{ccy_amount_of, value_of}
use Rattle.fin_contents.specs.Parties.{known_party_of}
use Rattle.fin_contents.specs.Plain.{reference_of, texts_of, time_of}
use Rattle.mt202cov.specs.Message.{content_test, contents_of, field_tests}
use Rattle.mt202cov.specs.declared.message.Mt202Cov.{Mt202Cov}
use Rattle.mt202cov.specs.Order.{order_202}
use Rattle.mt202cov.proofs.Readings.{Readings, said-by}

contents-fine : (t : Tables) (fs : List Field) (found : List ℕ) → AllHold order_202 (content_test t) fs found → (m : Mt202Cov) × Readings t fs found m
contents-fine t fs found hold =
    let reference = must-fine hold 0 reference_of (λ f. refl) _ refl refl in
    let related = must-fine hold 1 reference_of (λ f. refl) _ refl refl in
    let times = many-fine hold 2 time_of (λ f. refl) in
    let value = must-fine hold 3 (value_of t) (λ f. refl) _ refl refl in
    let a52 = may-fine hold 4 (known_party_of t) (λ f. refl) in
    let a53 = may-fine hold 5 (known_party_of t) (λ f. refl) in
    let a54 = may-fine hold 6 (known_party_of t) (λ f. refl) in
    let a56 = may-fine hold 7 (known_party_of t) (λ f. refl) in
    let a57 = may-fine hold 8 (known_party_of t) (λ f. refl) in
    let a58 = must-fine hold 9 (known_party_of t) (λ f. refl) _ refl refl in
    let a_notes = may-fine hold 10 (texts_of 6) (λ f. refl) in
    let payer = must-fine hold 11 (known_party_of t) (λ f. refl) _ refl refl in
    let b52 = may-fine hold 12 (known_party_of t) (λ f. refl) in
    let b56 = may-fine hold 13 (known_party_of t) (λ f. refl) in
    let b57 = may-fine hold 14 (known_party_of t) (λ f. refl) in
    let payee = must-fine hold 15 (known_party_of t) (λ f. refl) _ refl refl in
    let info = may-fine hold 16 (texts_of 4) (λ f. refl) in
    let b_notes = may-fine hold 17 (texts_of 6) (λ f. refl) in
    let ordered = may-fine hold 18 (ccy_amount_of t) (λ f. refl) in (
      record {
        reference = reference.0;
        related = related.0;
        times = times.0;
        value = value.0.day;
        amount = value.0.amount;
        a52 = a52.0;
        a53 = a53.0;
        a54 = a54.0;
        a56 = a56.0;
        a57 = a57.0;
        a58 = a58.0;
        a_notes = unwrap_or a_notes.0 [];
        payer = payer.0;
        b52 = b52.0;
        b56 = b56.0;
        b57 = b57.0;
        payee = payee.0;
        info = unwrap_or info.0 [];
        b_notes = unwrap_or b_notes.0 [];
        ordered = ordered.0;
      },
      record {
        reference = reference.1;
        related = related.1;
        times = times.1;
        value = value.1;
        a52 = a52.1;
        a53 = a53.1;
        a54 = a54.1;
        a56 = a56.1;
        a57 = a57.1;
        a58 = a58.1;
        a_notes = (a_notes.0, a_notes.1, refl);
        payer = payer.1;
        b52 = b52.1;
        b56 = b56.1;
        b57 = b57.1;
        payee = payee.1;
        info = (info.0, info.1, refl);
        b_notes = (b_notes.0, b_notes.1, refl);
        ordered = ordered.1;
      },
    )

pub complete : (t : Tables) (fs : List Field) → first_of (field_tests t fs) ≡ None → (m : Mt202Cov) × (contents_of t fs (places_from order_202 0 fs) ≡ Ok m)
complete t fs none =
    let found : List ℕ = places_from order_202 0 fs in
    let c = contents-fine t fs found (all-hold order_202 (content_test t) fs none) in
    (c.0, said-by t fs found c.0 c.1)
