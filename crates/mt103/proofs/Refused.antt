-- The contents of an MT103, read place by place, meet the first fault of the text.
use Rattle.std.proofs.Common.{◌≡◌, ℕ, List, Result, Err, refl, sym, ◌∙◌}
use Rattle.corr_text.specs.First.{◌>>=◌}
use Rattle.corr_text.specs.declared.fault.Fault.{Fault}
use Rattle.ref_tables.specs.Seen.{Tables}
use Rattle.fin_fields.specs.declared.field.Field.{Field}
use Rattle.fin_layout.proofs.laws.InOrder.{LiesFrom, all-in, none-left, one-in, option-in}
use Rattle.fin_contents.specs.Money.{ccy_amount_of, rate_of, value_of}
use Rattle.fin_contents.specs.Parties.{known_party_of}
use Rattle.fin_contents.specs.Plain.{reference_of, texts_of, time_of}
use Rattle.mt103.specs.Codes.{charge_of, instr_of, kind_of, operation_of}
use Rattle.mt103.specs.Message.{content_test, contents_of}
use Rattle.mt103.specs.inner.Parts.{Details, Parties, Terms, contents_in_parts, details_of, parties_of, terms_of}
use Rattle.mt103.specs.Order.{order_103}
use Rattle.mt103.proofs.laws.Parts.{contents-are}

module _ (t : Tables) (fs : List Field) (found : List ℕ) (fault : Fault) where
  abbrev Lies : ℕ → Type 0
  Lies k = LiesFrom order_103 (content_test t) fs found fault k

  terms-refused : {B : Type 0} → Lies 0 → (next : Terms → Result B Fault) → ((x : Terms) → Lies 8 → next x ≡ Err fault) → (terms_of t fs found >>= next) ≡ Err fault
  unfolding terms_of
  terms-refused l0 next on =
      one-in l0 reference_of (λ f. refl) refl _ refl refl _ next (λ _ l1.
      all-in l1 time_of (λ f. refl) _ next (λ _ l2.
      one-in l2 operation_of (λ f. refl) refl _ refl refl _ next (λ _ l3.
      all-in l3 instr_of (λ f. refl) _ next (λ _ l4.
      option-in l4 kind_of (λ f. refl) refl _ next (λ _ l5.
      one-in l5 (value_of t) (λ f. refl) refl _ refl refl _ next (λ _ l6.
      option-in l6 (ccy_amount_of t) (λ f. refl) refl _ next (λ _ l7.
      option-in l7 rate_of (λ f. refl) refl _ next (λ _ l8. on _ l8))))))))

  parties-refused : {B : Type 0} → Lies 8 → (next : Parties → Result B Fault) → ((x : Parties) → Lies 16 → next x ≡ Err fault) → (parties_of t fs found >>= next) ≡ Err fault
  unfolding parties_of
  parties-refused l8 next on =
      one-in l8 (known_party_of t) (λ f. refl) refl _ refl refl _ next (λ _ l9.
      option-in l9 (known_party_of t) (λ f. refl) refl _ next (λ _ l10.
      option-in l10 (known_party_of t) (λ f. refl) refl _ next (λ _ l11.
      option-in l11 (known_party_of t) (λ f. refl) refl _ next (λ _ l12.
      option-in l12 (known_party_of t) (λ f. refl) refl _ next (λ _ l13.
      option-in l13 (known_party_of t) (λ f. refl) refl _ next (λ _ l14.
      option-in l14 (known_party_of t) (λ f. refl) refl _ next (λ _ l15.
      one-in l15 (known_party_of t) (λ f. refl) refl _ refl refl _ next (λ _ l16. on _ l16))))))))

  details-refused : {B : Type 0} → Lies 16 → (next : Details → Result B Fault) → ((x : Details) → Lies 22 → next x ≡ Err fault) → (details_of t fs found >>= next) ≡ Err fault
  unfolding details_of
  details-refused l16 next on =
      option-in l16 (texts_of 4) (λ f. refl) refl _ next (λ _ l17.
      one-in l17 charge_of (λ f. refl) refl _ refl refl _ next (λ _ l18.
      all-in l18 (ccy_amount_of t) (λ f. refl) _ next (λ _ l19.
      option-in l19 (ccy_amount_of t) (λ f. refl) refl _ next (λ _ l20.
      option-in l20 (texts_of 6) (λ f. refl) refl _ next (λ _ l21.
      option-in l21 (texts_of 3) (λ f. refl) refl _ next (λ _ l22. on _ l22))))))

  pub contents-refused : Lies 0 → contents_of t fs found ≡ Err fault
  unfolding contents_in_parts
  contents-refused l0 =
      let parts : contents_in_parts t fs found ≡ Err fault = terms-refused l0 _ (λ _ l8. parties-refused l8 _ (λ _ l16. details-refused l16 _ (λ _ l22. none-left l22))) in
      sym (contents-are t fs found) ∙ parts
