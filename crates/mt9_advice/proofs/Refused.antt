-- The contents of an advice, read place by place, meet the first fault of the text.
use Rattle.std.proofs.Common.{◌≡◌, ℕ, List, ◌∷◌, Result, Err, refl, sym, ◌∙◌}
use Rattle.corr_text.specs.First.{◌>>=◌}
use Rattle.corr_text.specs.declared.fault.Fault.{Fault}
use Rattle.ref_tables.specs.Seen.{Tables}
use Rattle.fin_fields.specs.declared.field.Field.{Field}
use Rattle.fin_layout.specs.declared.place.Place.{Place}
use Rattle.fin_layout.proofs.laws.InOrder.{LiesFrom, none-left, one-in, option-in, option-met}
use Rattle.fin_contents.specs.Money.{value_of}
use Rattle.fin_contents.specs.Parties.{known_party_of}
use Rattle.fin_contents.specs.Plain.{reference_of, short_line_of, texts_of}
use Rattle.mt9_advice.specs.Advice.{content_test, contents_900, contents_910, stamp_of}
use Rattle.mt9_advice.specs.inner.Parts.{booking_of, ending_of, orderers_of, parts_900, parts_910}
use Rattle.mt9_advice.specs.declared.booking.Booking.{Booking}
use Rattle.mt9_advice.specs.declared.credit.Ending.{Ending}
use Rattle.mt9_advice.specs.declared.credit.Orderers.{Orderers}
use Rattle.mt9_advice.specs.Order.{order_900, order_910}
use Rattle.mt9_advice.proofs.laws.Parts.{contents-are-900, contents-are-910}
use Rattle.mt9_advice.proofs.Rows.{row_13, row_20, row_21, row_25, row_32}

-- an order that begins with 20, 21, 25, 13D and 32A
abbrev pub begun : List Place → List Place
begun rest = row_20 ∷ row_21 ∷ row_25 ∷ row_13 ∷ row_32 ∷ rest

module _ (t : Tables) (fs : List Field) (found : List ℕ) (fault : Fault) where
  abbrev Lies : List Place → ℕ → ℕ → Type 0
  Lies order last k = LiesFrom order (content_test last t) fs found fault k

  booking-refused : {B : Type 0} (rest : List Place) (last : ℕ) → Lies (begun rest) last 0 → (next : Booking → Result B Fault)
      → ((b : Booking) → Lies (begun rest) last 5 → next b ≡ Err fault) → (booking_of (begun rest) t fs found >>= next) ≡ Err fault
  unfolding booking_of
  booking-refused rest last l0 next on =
      one-in l0 reference_of (λ f. refl) refl _ refl refl _ next (λ _ l1.
      one-in l1 (short_line_of 16) (λ f. refl) refl _ refl refl _ next (λ _ l2.
      one-in l2 (short_line_of 35) (λ f. refl) refl _ refl refl _ next (λ _ l3.
      option-in l3 stamp_of (λ f. refl) refl _ next (λ _ l4.
      one-in l4 (value_of t) (λ f. refl) refl _ refl refl _ next (λ _ l5. on _ l5)))))

  pub refused-900 : LiesFrom order_900 (content_test 6 t) fs found fault 0 → contents_900 t fs found ≡ Err fault
  unfolding parts_900
  refused-900 l0 =
      let parts : parts_900 t fs found ≡ Err fault = booking-refused _ 6 l0 _ (λ _ l5.
      option-met l5 (known_party_of t) (λ f. refl) refl _ (λ _ l6.
      option-met l6 (texts_of 6) (λ f. refl) refl _ (λ _ l7. none-left l7))) in
      sym (contents-are-900 t fs found) ∙ parts

  orderers-refused : {B : Type 0} → Lies order_910 8 5 → (next : Orderers → Result B Fault) → ((o : Orderers) → Lies order_910 8 7 → next o ≡ Err fault)
      → (orderers_of t fs found >>= next) ≡ Err fault
  unfolding orderers_of
  orderers-refused l5 next on =
      option-in l5 (known_party_of t) (λ f. refl) refl _ next (λ _ l6.
      option-in l6 (known_party_of t) (λ f. refl) refl _ next (λ _ l7. on _ l7))

  ending-refused : {B : Type 0} → Lies order_910 8 7 → (next : Ending → Result B Fault) → ((e : Ending) → Lies order_910 8 9 → next e ≡ Err fault)
      → (ending_of t fs found >>= next) ≡ Err fault
  unfolding ending_of
  ending-refused l7 next on =
      option-in l7 (known_party_of t) (λ f. refl) refl _ next (λ _ l8.
      option-in l8 (texts_of 6) (λ f. refl) refl _ next (λ _ l9. on _ l9))

  pub refused-910 : LiesFrom order_910 (content_test 8 t) fs found fault 0 → contents_910 t fs found ≡ Err fault
  unfolding parts_910
  refused-910 l0 =
      let parts : parts_910 t fs found ≡ Err fault = booking-refused _ 8 l0 _ (λ _ l5.
      orderers-refused l5 _ (λ _ l7.
      ending-refused l7 _ (λ _ l9. none-left l9))) in
      sym (contents-are-910 t fs found) ∙ parts
