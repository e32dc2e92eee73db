-- The contents of an MT202 COV, read place by place, meet the first fault of the text.
use Rattle.std.proofs.Common.{◌≡◌, ℕ, List, Result, Ok, Err, refl, sym, ◌∙◌}
use Rattle.corr_text.specs.First.{◌>>=◌}
use Rattle.corr_text.specs.declared.fault.Fault.{Fault}
use Rattle.ref_tables.specs.Seen.{Tables}
use Rattle.fin_fields.specs.declared.field.Field.{Field}
use Rattle.fin_layout.proofs.laws.InOrder.{LiesFrom, all-in, none-left, one-in, option-in}
use Rattle.fin_contents.specs.Money.{ccy_amount_of, value_of}
use Rattle.fin_contents.specs.Parties.{known_party_of}
use Rattle.fin_contents.specs.Plain.{reference_of, texts_of, time_of}
use Rattle.mt202cov.specs.Message.{content_test, contents_of}
use Rattle.mt202cov.specs.inner.Parts.{banks_of, beneficiary_side_of, contents_in_parts, customers_of, details_of, payee_side_of, payer_side_of, sender_side_of, sequence_a_of, sequence_b_of, terms_of}
use Rattle.mt202cov.specs.declared.banks.Banks.{Banks}
use Rattle.mt202cov.specs.declared.banks.BeneficiarySide.{BeneficiarySide}
use Rattle.mt202cov.specs.declared.banks.SenderSide.{SenderSide}
use Rattle.mt202cov.specs.declared.customers.Customers.{Customers}
use Rattle.mt202cov.specs.declared.customers.PayeeSide.{PayeeSide}
use Rattle.mt202cov.specs.declared.customers.PayerSide.{PayerSide}
use Rattle.mt202cov.specs.declared.details.Details.{Details}
use Rattle.mt202cov.specs.Order.{order_202}
use Rattle.mt202cov.specs.declared.sequences.SequenceA.{SequenceA}
use Rattle.mt202cov.specs.declared.sequences.SequenceB.{SequenceB}
use Rattle.mt202cov.specs.declared.terms.Terms.{Terms}
use Rattle.mt202cov.proofs.laws.Parts.{contents-are}

module _ (t : Tables) (fs : List Field) (found : List ℕ) (fault : Fault) where
  abbrev Lies : ℕ → Type 0
  Lies k = LiesFrom order_202 (content_test t) fs found fault k

  -- a part within a larger one, whose steps are a step of the whole
  within : {X A B : Type 0} (part : Result X Fault) (after : ℕ) → ((next : X → Result B Fault) → ((x : X) → Lies after → next x ≡ Err fault) → (part >>= next) ≡ Err fault) → (next : X → Result A Fault) (further : A → Result B Fault)
      → ((x : X) → Lies after → (next x >>= further) ≡ Err fault) → (part >>= next >>= further) ≡ Err fault
  within (Ok x) after refused next further on = refused (λ y. next y >>= further) on
  within (Err e) after refused next further on = refused (λ y. next y >>= further) on

  terms-refused : {B : Type 0} → Lies 0 → (next : Terms → Result B Fault) → ((x : Terms) → Lies 4 → next x ≡ Err fault) → (terms_of t fs found >>= next) ≡ Err fault
  unfolding terms_of
  terms-refused l0 next on =
      one-in l0 reference_of (λ f. refl) refl _ refl refl _ next (λ _ l1.
      one-in l1 reference_of (λ f. refl) refl _ refl refl _ next (λ _ l2.
      all-in l2 time_of (λ f. refl) _ next (λ _ l3.
      one-in l3 (value_of t) (λ f. refl) refl _ refl refl _ next (λ _ l4. on _ l4))))

  sender_side-refused : {B : Type 0} → Lies 4 → (next : SenderSide → Result B Fault) → ((x : SenderSide) → Lies 7 → next x ≡ Err fault) → (sender_side_of t fs found >>= next) ≡ Err fault
  unfolding sender_side_of
  sender_side-refused l4 next on =
      option-in l4 (known_party_of t) (λ f. refl) refl _ next (λ _ l5.
      option-in l5 (known_party_of t) (λ f. refl) refl _ next (λ _ l6.
      option-in l6 (known_party_of t) (λ f. refl) refl _ next (λ _ l7. on _ l7)))

  beneficiary_side-refused : {B : Type 0} → Lies 7 → (next : BeneficiarySide → Result B Fault) → ((x : BeneficiarySide) → Lies 10 → next x ≡ Err fault) → (beneficiary_side_of t fs found >>= next) ≡ Err fault
  unfolding beneficiary_side_of
  beneficiary_side-refused l7 next on =
      option-in l7 (known_party_of t) (λ f. refl) refl _ next (λ _ l8.
      option-in l8 (known_party_of t) (λ f. refl) refl _ next (λ _ l9.
      one-in l9 (known_party_of t) (λ f. refl) refl _ refl refl _ next (λ _ l10. on _ l10)))

  banks-refused : {B : Type 0} → Lies 4 → (next : Banks → Result B Fault) → ((x : Banks) → Lies 10 → next x ≡ Err fault) → (banks_of t fs found >>= next) ≡ Err fault
  unfolding banks_of
  banks-refused l4 next on =
      within (sender_side_of t fs found) 7 (sender_side-refused l4) _ next (λ _ l7.
      within (beneficiary_side_of t fs found) 10 (beneficiary_side-refused l7) _ next (λ _ l10. on _ l10))

  payer_side-refused : {B : Type 0} → Lies 11 → (next : PayerSide → Result B Fault) → ((x : PayerSide) → Lies 13 → next x ≡ Err fault) → (payer_side_of t fs found >>= next) ≡ Err fault
  unfolding payer_side_of
  payer_side-refused l11 next on =
      one-in l11 (known_party_of t) (λ f. refl) refl _ refl refl _ next (λ _ l12.
      option-in l12 (known_party_of t) (λ f. refl) refl _ next (λ _ l13. on _ l13))

  payee_side-refused : {B : Type 0} → Lies 13 → (next : PayeeSide → Result B Fault) → ((x : PayeeSide) → Lies 16 → next x ≡ Err fault) → (payee_side_of t fs found >>= next) ≡ Err fault
  unfolding payee_side_of
  payee_side-refused l13 next on =
      option-in l13 (known_party_of t) (λ f. refl) refl _ next (λ _ l14.
      option-in l14 (known_party_of t) (λ f. refl) refl _ next (λ _ l15.
      one-in l15 (known_party_of t) (λ f. refl) refl _ refl refl _ next (λ _ l16. on _ l16)))

  customers-refused : {B : Type 0} → Lies 11 → (next : Customers → Result B Fault) → ((x : Customers) → Lies 16 → next x ≡ Err fault) → (customers_of t fs found >>= next) ≡ Err fault
  unfolding customers_of
  customers-refused l11 next on =
      within (payer_side_of t fs found) 13 (payer_side-refused l11) _ next (λ _ l13.
      within (payee_side_of t fs found) 16 (payee_side-refused l13) _ next (λ _ l16. on _ l16))

  details-refused : {B : Type 0} → Lies 16 → (next : Details → Result B Fault) → ((x : Details) → Lies 19 → next x ≡ Err fault) → (details_of t fs found >>= next) ≡ Err fault
  unfolding details_of
  details-refused l16 next on =
      option-in l16 (texts_of 4) (λ f. refl) refl _ next (λ _ l17.
      option-in l17 (texts_of 6) (λ f. refl) refl _ next (λ _ l18.
      option-in l18 (ccy_amount_of t) (λ f. refl) refl _ next (λ _ l19. on _ l19)))

  sequence_a-refused : {B : Type 0} → Lies 0 → (next : SequenceA → Result B Fault) → ((x : SequenceA) → Lies 11 → next x ≡ Err fault) → (sequence_a_of t fs found >>= next) ≡ Err fault
  unfolding sequence_a_of
  sequence_a-refused l0 next on =
      within (terms_of t fs found) 4 (terms-refused l0) _ next (λ _ l4.
      within (banks_of t fs found) 10 (banks-refused l4) _ next (λ _ l10.
      option-in l10 (texts_of 6) (λ f. refl) refl _ next (λ _ l11. on _ l11)))

  sequence_b-refused : {B : Type 0} → Lies 11 → (next : SequenceB → Result B Fault) → ((x : SequenceB) → Lies 19 → next x ≡ Err fault) → (sequence_b_of t fs found >>= next) ≡ Err fault
  unfolding sequence_b_of
  sequence_b-refused l11 next on =
      within (customers_of t fs found) 16 (customers-refused l11) _ next (λ _ l16.
      within (details_of t fs found) 19 (details-refused l16) _ next (λ _ l19. on _ l19))

  pub contents-refused : Lies 0 → contents_of t fs found ≡ Err fault
  unfolding contents_in_parts
  contents-refused l0 =
      let parts : contents_in_parts t fs found ≡ Err fault = sequence_a-refused l0 _ (λ _ l11. sequence_b-refused l11 _ (λ _ l19. none-left l19)) in
      sym (contents-are t fs found) ∙ parts
