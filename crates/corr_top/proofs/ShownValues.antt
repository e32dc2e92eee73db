-- The value date and the amount of a message that was read can be written.
use Rattle.std.proofs.Common.{◌≡◌, ℕ, List, [], ◌∷◌, Ok, subst, ◌∙◌}
use Rattle.std.specs.Prelude.{IsTrue, unwrap_or}
use Rattle.fin_contents.specs.Money.{ccy_amount_of, rate_of, value_of}
use Rattle.fin_contents.specs.Plain.{reference_of, texts_of, time_of}
use Rattle.fin_contents.specs.Writing.{IsValue}
use Rattle.fin_contents.specs.declared.value.Value.{Value}
use Rattle.fin_contents.proofs.laws.Again.{value-is}
use Rattle.fin_contents.proofs.laws.Steps.{read-then, told-is}
use Rattle.fin_fields.specs.declared.field.Field.{Field}
use Rattle.fin_layout.specs.Contents.{all_from, in_option, in_place}
use Rattle.fin_layout.specs.declared.place.Place.{Place}
use Rattle.fin_layout.specs.Order.{field_in, places_from}
use Rattle.fin_layout.specs.Tests.{passed}
use Rattle.fin_layout.proofs.laws.ReadBack.{must-ok}
use Rattle.ref_tables.specs.Seen.{Tables, few_decimals}
use Rattle.mt103.specs.Codes.{instr_of, kind_of, operation_of}
use Rattle.mt103.specs.Instructions.{d98, e46}
use Rattle.mt103.specs.Message as m103
use Rattle.mt103.specs.Order.{order_103}
use Rattle.mt103.specs.inner.Parts as p103
use Rattle.mt103.specs.declared.message.Mt103.{Mt103}
use Rattle.mt103.proofs.laws.Parts as laws103
use Rattle.mt202cov.specs.Message as m202
use Rattle.mt202cov.specs.Order.{order_202}
use Rattle.mt202cov.specs.inner.Parts as p202
use Rattle.mt202cov.specs.Rules.{all_rules}
use Rattle.mt202cov.specs.declared.message.Mt202Cov.{Mt202Cov}
use Rattle.mt202cov.specs.declared.sequences.SequenceA.{SequenceA}
use Rattle.mt202cov.specs.declared.terms.Terms.{Terms}
use Rattle.mt202cov.proofs.laws.Parts as laws202

module _ (t : Tables) (few : IsTrue (few_decimals t.ccys)) (fs : List Field) where
  -- so is what stands in the place of 32A
  place-is : (order : List Place) (found : List ℕ) (k : ℕ) (v : Value) → in_place order fs found k (value_of t) ≡ Ok v → IsValue v
  place-is order found k v e = let f = must-ok order fs k (value_of t) (field_in fs found k) v e in value-is t f.0 v few f.1

  -- ---- a transfer

  terms-103 : (found : List ℕ) (x : p103.Terms) → p103.terms_of t fs found ≡ Ok x → IsValue x.value
  unfolding p103.terms_of
  terms-103 found x e =
      let r0 = read-then (in_place order_103 fs found 0 reference_of) _ x e in
      let r1 = read-then (all_from fs 1 time_of 0 found fs) _ x r0.2 in
      let r2 = read-then (in_place order_103 fs found 2 operation_of) _ x r1.2 in
      let r3 = read-then (all_from fs 3 instr_of 0 found fs) _ x r2.2 in
      let r4 = read-then (in_option fs found 4 kind_of) _ x r3.2 in
      let r5 = read-then (in_place order_103 fs found 5 (value_of t)) _ x r4.2 in
      let r6 = read-then (in_option fs found 6 (ccy_amount_of t)) _ x r5.2 in
      let r7 = read-then (in_option fs found 7 rate_of) _ x r6.2 in
      let same : record { reference = r0.0; times = r1.0; op = r2.0; instrs = r3.0; kind = r4.0; value = r5.0; ordered = r6.0; rate = r7.0 } ≡ x = told-is _ x r7.2 in
      subst (λ (y : p103.Terms). IsValue y.value) same (place-is order_103 found 5 r5.0 r5.1)

  contents-103 : (found : List ℕ) (m : Mt103) → m103.contents_of t fs found ≡ Ok m → IsValue (record { day = m.value; amount = m.amount })
  unfolding p103.contents_in_parts
  contents-103 found m e =
      let whole : p103.contents_in_parts t fs found ≡ Ok m = laws103.contents-are t fs found ∙ e in
      let terms = read-then (p103.terms_of t fs found) _ m whole in
      let parties = read-then (p103.parties_of t fs found) _ m terms.2 in
      let details = read-then (p103.details_of t fs found) _ m parties.2 in
      let same : p103.transfer_of_parts terms.0 parties.0 details.0 ≡ m = told-is _ m details.2 in
      subst (λ (y : Mt103). IsValue (record { day = y.value; amount = y.amount })) same (terms-103 found terms.0 terms.1)

  pub transfer-value : (m : Mt103) → m103.mt103_of t fs ≡ Ok m → IsValue (record { day = m.value; amount = m.amount })
  unfolding m103.mt103_of
  transfer-value m e =
      let structure = read-then (passed (m103.field_tests t fs)) _ m e in
      let contents = read-then (m103.contents_of t fs (places_from order_103 0 fs)) _ m structure.2 in
      let more = read-then (passed (e46 contents.0.instrs ∷ d98 contents.0.instrs ∷ [])) _ m contents.2 in
      subst (λ (y : Mt103). IsValue (record { day = y.value; amount = y.amount })) (told-is contents.0 m more.2) (contents-103 (places_from order_103 0 fs) contents.0 contents.1)

  -- ---- a cover

  terms-202 : (found : List ℕ) (x : Terms) → p202.terms_of t fs found ≡ Ok x → IsValue x.value
  unfolding p202.terms_of
  terms-202 found x e =
      let r0 = read-then (in_place order_202 fs found 0 reference_of) _ x e in
      let r1 = read-then (in_place order_202 fs found 1 reference_of) _ x r0.2 in
      let r2 = read-then (all_from fs 2 time_of 0 found fs) _ x r1.2 in
      let r3 = read-then (in_place order_202 fs found 3 (value_of t)) _ x r2.2 in
      let same : record { reference = r0.0; related = r1.0; times = r2.0; value = r3.0 } ≡ x = told-is _ x r3.2 in
      subst (λ (y : Terms). IsValue y.value) same (place-is order_202 found 3 r3.0 r3.1)

  sequence-202 : (found : List ℕ) (x : SequenceA) → p202.sequence_a_of t fs found ≡ Ok x → IsValue x.terms.value
  unfolding p202.sequence_a_of
  sequence-202 found x e =
      let terms = read-then (p202.terms_of t fs found) _ x e in
      let banks = read-then (p202.banks_of t fs found) _ x terms.2 in
      let notes = read-then (in_option fs found 10 (texts_of 6)) _ x banks.2 in
      let same : record { terms = terms.0; banks = banks.0; notes = unwrap_or notes.0 [] } ≡ x = told-is _ x notes.2 in
      subst (λ (y : SequenceA). IsValue y.terms.value) same (terms-202 found terms.0 terms.1)

  contents-202 : (found : List ℕ) (m : Mt202Cov) → m202.contents_of t fs found ≡ Ok m → IsValue (record { day = m.value; amount = m.amount })
  unfolding p202.contents_in_parts
  contents-202 found m e =
      let whole : p202.contents_in_parts t fs found ≡ Ok m = laws202.contents-are t fs found ∙ e in
      let a = read-then (p202.sequence_a_of t fs found) _ m whole in
      let b = read-then (p202.sequence_b_of t fs found) _ m a.2 in
      let same : p202.cover_of_parts a.0 b.0 ≡ m = told-is _ m b.2 in
      subst (λ (y : Mt202Cov). IsValue (record { day = y.value; amount = y.amount })) same (sequence-202 found a.0 a.1)

  pub cover-value : (m : Mt202Cov) → m202.mt202cov_of t fs ≡ Ok m → IsValue (record { day = m.value; amount = m.amount })
  unfolding m202.mt202cov_of
  cover-value m e =
      let structure = read-then (passed (m202.field_tests t fs)) _ m e in
      let contents = read-then (m202.contents_of t fs (places_from order_202 0 fs)) _ m structure.2 in
      let more = read-then (passed (all_rules contents.0)) _ m contents.2 in
      subst (λ (y : Mt202Cov). IsValue (record { day = y.value; amount = y.amount })) (told-is contents.0 m more.2) (contents-202 (places_from order_202 0 fs) contents.0 contents.1)
