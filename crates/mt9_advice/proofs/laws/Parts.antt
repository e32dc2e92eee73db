-- An advice that is read part by part is what its fields say place by place.
use Rattle.std.proofs.Common.{◌≡◌, ℕ, List, [], Option, Ok, refl, ◌∙◌}
use Rattle.std.specs.Prelude.{unwrap_or}
use Rattle.corr_text.specs.First.{◌>>=◌}
use Rattle.ref_tables.specs.Seen.{Tables}
use Rattle.fin_fields.specs.declared.field.Field.{Field}
use Rattle.fin_layout.specs.Contents.{in_option, in_place}
use Rattle.fin_contents.specs.Money.{value_of}
use Rattle.fin_contents.specs.Parties.{known_party_of}
use Rattle.fin_contents.specs.Plain.{reference_of, short_line_of, texts_of}
use Rattle.fin_contents.specs.declared.value.Value.{Value}
use Rattle.fin_contents.proofs.laws.Grouped.{alike, five-apart, steps-joined}
use Rattle.mt9_advice.specs.Advice.{contents_900, contents_910, stamp_of}
use Rattle.mt9_advice.specs.Order.{order_900, order_910}
use Rattle.mt9_advice.specs.inner.Parts.{booking_of, ending_of, mt900, mt910, orderers_of, parts_900, parts_910}
use Rattle.mt9_advice.specs.declared.booking.Booking.{Booking}
use Rattle.mt9_advice.specs.declared.credit.Ending.{Ending}
use Rattle.mt9_advice.specs.declared.credit.Orderers.{Orderers}

abbrev booking : List ℕ → List ℕ → List ℕ → Option (List ℕ) → Value → Booking
booking reference related account at value = record { reference = reference; related = related; account = account; at = at; value = value }

-- reading an MT900 part by part gives what reading place by place gives
pub contents-are-900 : (t : Tables) (fs : List Field) (found : List ℕ) → parts_900 t fs found ≡ contents_900 t fs found
unfolding parts_900 contents_900 booking_of
contents-are-900 t fs found =
    five-apart (in_place order_900 fs found 0 reference_of) (in_place order_900 fs found 1 (short_line_of 16))
    (in_place order_900 fs found 2 (short_line_of 35)) (in_option fs found 3 stamp_of) (in_place order_900 fs found 4 (value_of t))
    booking
    (λ (b : Booking).
    in_option fs found 5 (known_party_of t) >>= λ p52. in_option fs found 6 (texts_of 6) >>= λ notes. Ok (mt900 b p52 (unwrap_or notes []))) _
    (λ a0 a1 a2 a3 a4. refl)

-- the same of an MT910
pub contents-are-910 : (t : Tables) (fs : List Field) (found : List ℕ) → parts_910 t fs found ≡ contents_910 t fs found
unfolding parts_910 contents_910 booking_of orderers_of ending_of
contents-are-910 t fs found =
    five-apart (in_place order_910 fs found 0 reference_of) (in_place order_910 fs found 1 (short_line_of 16))
    (in_place order_910 fs found 2 (short_line_of 35)) (in_option fs found 3 stamp_of) (in_place order_910 fs found 4 (value_of t))
    booking
    (λ (b : Booking). orderers_of t fs found >>= λ (o : Orderers). ending_of t fs found >>= λ (e : Ending). Ok (mt910 b o.payer o.p52 e.p56 e.notes)) _
    (λ a0 a1 a2 a3 a4.
    steps-joined (in_option fs found 5 (known_party_of t)) _ _ ∙ alike (in_option fs found 5 (known_party_of t)) _ _ (λ payer.
    steps-joined (in_option fs found 6 (known_party_of t)) _ _ ∙ alike (in_option fs found 6 (known_party_of t)) _ _ (λ p52.
    steps-joined (in_option fs found 7 (known_party_of t)) _ _ ∙ alike (in_option fs found 7 (known_party_of t)) _ _ (λ p56.
    steps-joined (in_option fs found 8 (texts_of 6)) _ _))))
