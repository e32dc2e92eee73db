-- Where no test of an advice's fields fails, its fields say an advice.
use Rattle.std.proofs.Common.{◌≡◌, ℕ, List, [], None, Ok, refl}
use Rattle.std.specs.Prelude.{unwrap_or}
use Rattle.corr_text.specs.First.{first_of}
use Rattle.ref_tables.specs.Seen.{Tables}
use Rattle.fin_fields.specs.declared.field.Field.{Field}
use Rattle.fin_layout.specs.declared.place.Place.{Place}
use Rattle.fin_layout.specs.Order.{places_from}
use Rattle.fin_layout.proofs.laws.Fine.{AllHold, all-hold, may-fine, must-fine}
use Rattle.fin_contents.specs.Money.{value_of}
use Rattle.fin_contents.specs.Parties.{known_party_of}
use Rattle.fin_contents.specs.Plain.{reference_of, short_line_of, texts_of}
use Rattle.mt9_advice.specs.Advice.{content_test, contents_900, contents_910, stamp_of, tests_900, tests_910}
use Rattle.mt9_advice.specs.inner.Parts.{mt900, mt910}
use Rattle.mt9_advice.specs.declared.booking.Booking.{Booking}
use Rattle.mt9_advice.specs.declared.credit.Mt910.{Mt910}
use Rattle.mt9_advice.specs.declared.debit.Mt900.{Mt900}
use Rattle.mt9_advice.specs.Order.{order_900, order_910}
use Rattle.mt9_advice.proofs.Again.{SaysBooking, says-900, says-910}
use Rattle.mt9_advice.proofs.Refused.{begun}

booking-fine : (rest : List Place) (last : ℕ) (t : Tables) (fs : List Field) (found : List ℕ) → AllHold (begun rest) (content_test last t) fs found
    → (b : Booking) × SaysBooking (begun rest) t fs found b
booking-fine rest last t fs found hold =
    let reference = must-fine hold 0 reference_of (λ f. refl) _ refl refl in
    let related = must-fine hold 1 (short_line_of 16) (λ f. refl) _ refl refl in
    let account = must-fine hold 2 (short_line_of 35) (λ f. refl) _ refl refl in
    let at = may-fine hold 3 stamp_of (λ f. refl) in
    let value = must-fine hold 4 (value_of t) (λ f. refl) _ refl refl in (
      record { reference = reference.0; related = related.0; account = account.0; at = at.0; value = value.0 },
      record { reference = reference.1; related = related.1; account = account.1; at = at.1; value = value.1 },
    )

pub complete_900 : (t : Tables) (fs : List Field) → first_of (tests_900 t fs) ≡ None
    → (m : Mt900) × (contents_900 t fs (places_from order_900 0 fs) ≡ Ok m)
complete_900 t fs none =
    let found = places_from order_900 0 fs in
    let hold = all-hold order_900 (content_test 6 t) fs none in
    let b = booking-fine _ 6 t fs found hold in
    let p52 = may-fine hold 5 (known_party_of t) (λ f. refl) in
    let notes = may-fine hold 6 (texts_of 6) (λ f. refl) in
    let m = mt900 b.0 p52.0 (unwrap_or notes.0 []) in
    (m, says-900 t fs found m (record { booking = b.1; p52 = p52.1; lines = notes.0; notes = notes.1; same = refl }))

pub complete_910 : (t : Tables) (fs : List Field) → first_of (tests_910 t fs) ≡ None
    → (m : Mt910) × (contents_910 t fs (places_from order_910 0 fs) ≡ Ok m)
complete_910 t fs none =
    let found = places_from order_910 0 fs in
    let hold = all-hold order_910 (content_test 8 t) fs none in
    let b = booking-fine _ 8 t fs found hold in
    let payer = may-fine hold 5 (known_party_of t) (λ f. refl) in
    let p52 = may-fine hold 6 (known_party_of t) (λ f. refl) in
    let p56 = may-fine hold 7 (known_party_of t) (λ f. refl) in
    let notes = may-fine hold 8 (texts_of 6) (λ f. refl) in
    let m = mt910 b.0 payer.0 p52.0 p56.0 (unwrap_or notes.0 []) in
    (m, says-910 t fs found m (record { booking = b.1; payer = payer.1; p52 = p52.1; p56 = p56.1; lines = notes.0; notes = notes.1; same = refl }))
