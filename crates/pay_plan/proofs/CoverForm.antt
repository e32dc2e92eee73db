-- The form of a cover that was read: its references, its value date, and the banks of 56a, 57a and 58a.
use Rattle.std.proofs.Common.{◌≡◌, ℕ, IfSome, List, [], Ok, subst, ◌∙◌}
use Rattle.std.specs.Prelude.{unwrap_or}
use Rattle.corr_ids.specs.Day.{InCentury}
use Rattle.day_model.specs.Shape.{IsReference}
use Rattle.ref_tables.specs.Seen.{Tables}
use Rattle.fin_fields.specs.declared.field.Field.{Field}
use Rattle.fin_layout.specs.Contents.{all_from, in_option, in_place}
use Rattle.fin_layout.specs.Order.{field_in, places_from}
use Rattle.fin_layout.specs.Tests.{passed}
use Rattle.fin_layout.proofs.laws.ReadBack.{must-ok}
use Rattle.fin_contents.proofs.laws.Again.{value-day}
use Rattle.fin_contents.proofs.laws.Steps.{read-then}
use Rattle.fin_contents.specs.Money.{value_of}
use Rattle.fin_contents.specs.Parties.{known_party_of}
use Rattle.fin_contents.specs.Plain.{reference_of, texts_of, time_of}
use Rattle.mt202cov.specs.Rules.{all_rules}
use Rattle.mt202cov.specs.Message.{contents_of, field_tests, mt202cov_of}
use Rattle.mt202cov.specs.inner.Parts.{banks_of, beneficiary_side_of, contents_in_parts, cover_of_parts, sender_side_of, sequence_a_of, sequence_b_of, terms_of}
use Rattle.mt202cov.specs.declared.banks.Banks.{Banks}
use Rattle.mt202cov.specs.declared.banks.BeneficiarySide.{BeneficiarySide}
use Rattle.mt202cov.specs.declared.message.Mt202Cov.{Mt202Cov}
use Rattle.mt202cov.specs.Order.{order_202}
use Rattle.mt202cov.specs.declared.sequences.SequenceA.{SequenceA}
use Rattle.mt202cov.specs.declared.terms.Terms.{Terms}
use Rattle.mt202cov.proofs.laws.Parts.{contents-are}
use Rattle.pay_plan.specs.Readable.{IsCoverRead}
use Rattle.pay_plan.proofs.Parties.{HasBank, bank-form, ok-is, party-bank}
use Rattle.pay_plan.proofs.Words.{reference-form}

pub record CoverForm (t : Tables) (m : Mt202Cov) : Type 0 where
  pub reference : IsReference m.reference
  pub related : IsReference m.related
  pub value : InCentury m.value
  pub a56 : IfSome m.a56 (HasBank t)
  pub a57 : IfSome m.a57 (HasBank t)
  pub a58 : HasBank t m.a58

record TermsForm (x : Terms) : Type 0 where
  reference : IsReference x.reference
  related : IsReference x.related
  value : InCentury x.value.day

record SideForm (t : Tables) (x : BeneficiarySide) : Type 0 where
  p56 : IfSome x.p56 (HasBank t)
  p57 : IfSome x.p57 (HasBank t)
  p58 : HasBank t x.p58

record BanksForm (t : Tables) (x : Banks) : Type 0 where
  p56 : IfSome x.p56 (HasBank t)
  p57 : IfSome x.p57 (HasBank t)
  p58 : HasBank t x.p58

record SequenceForm (t : Tables) (x : SequenceA) : Type 0 where
  terms : TermsForm x.terms
  banks : BanksForm t x.banks

terms-form : (t : Tables) (fs : List Field) (found : List ℕ) (x : Terms) → terms_of t fs found ≡ Ok x → TermsForm x
unfolding terms_of
terms-form t fs found x e =
    let r0 = read-then (in_place order_202 fs found 0 reference_of) _ x e in
    let r1 = read-then (in_place order_202 fs found 1 reference_of) _ x r0.2 in
    let r2 = read-then (all_from fs 2 time_of 0 found fs) _ x r1.2 in
    let r3 = read-then (in_place order_202 fs found 3 (value_of t)) _ x r2.2 in
    let same : record { reference = r0.0; related = r1.0; times = r2.0; value = r3.0 } ≡ x = ok-is _ x r3.2 in
    let f = must-ok order_202 fs 0 reference_of (field_in fs found 0) r0.0 r0.1 in
    let g = must-ok order_202 fs 1 reference_of (field_in fs found 1) r1.0 r1.1 in
    let h = must-ok order_202 fs 3 (value_of t) (field_in fs found 3) r3.0 r3.1 in
    subst TermsForm same (record { reference = reference-form f.0 r0.0 f.1; related = reference-form g.0 r1.0 g.1; value = value-day t h.0 r3.0 h.1 })

side-form : (t : Tables) (fs : List Field) (found : List ℕ) (x : BeneficiarySide) → beneficiary_side_of t fs found ≡ Ok x → SideForm t x
unfolding beneficiary_side_of
side-form t fs found x e =
    let r0 = read-then (in_option fs found 7 (known_party_of t)) _ x e in
    let r1 = read-then (in_option fs found 8 (known_party_of t)) _ x r0.2 in
    let r2 = read-then (in_place order_202 fs found 9 (known_party_of t)) _ x r1.2 in
    let same : record { p56 = r0.0; p57 = r1.0; p58 = r2.0 } ≡ x = ok-is _ x r2.2 in
    let f = must-ok order_202 fs 9 (known_party_of t) (field_in fs found 9) r2.0 r2.1 in
    subst (SideForm t) same (record { p56 = bank-form t fs found 7 r0.0 r0.1; p57 = bank-form t fs found 8 r1.0 r1.1; p58 = party-bank t f.0 r2.0 f.1 })

banks-form : (t : Tables) (fs : List Field) (found : List ℕ) (x : Banks) → banks_of t fs found ≡ Ok x → BanksForm t x
unfolding banks_of
banks-form t fs found x e =
    let s = read-then (sender_side_of t fs found) _ x e in
    let b = read-then (beneficiary_side_of t fs found) _ x s.2 in
    let same : record { p52 = s.0.p52; p53 = s.0.p53; p54 = s.0.p54; p56 = b.0.p56; p57 = b.0.p57; p58 = b.0.p58 } ≡ x = ok-is _ x b.2 in
    let side = side-form t fs found b.0 b.1 in
    subst (BanksForm t) same (record { p56 = side.p56; p57 = side.p57; p58 = side.p58 })

sequence-form : (t : Tables) (fs : List Field) (found : List ℕ) (x : SequenceA) → sequence_a_of t fs found ≡ Ok x → SequenceForm t x
unfolding sequence_a_of
sequence-form t fs found x e =
    let terms = read-then (terms_of t fs found) _ x e in
    let banks = read-then (banks_of t fs found) _ x terms.2 in
    let notes = read-then (in_option fs found 10 (texts_of 6)) _ x banks.2 in
    let same : record { terms = terms.0; banks = banks.0; notes = unwrap_or notes.0 [] } ≡ x = ok-is _ x notes.2 in
    subst (SequenceForm t) same (record { terms = terms-form t fs found terms.0 terms.1; banks = banks-form t fs found banks.0 banks.1 })

contents-form : (t : Tables) (fs : List Field) (found : List ℕ) (m : Mt202Cov) → contents_of t fs found ≡ Ok m → CoverForm t m
unfolding contents_in_parts
contents-form t fs found m e =
    let whole : contents_in_parts t fs found ≡ Ok m = contents-are t fs found ∙ e in
    let a = read-then (sequence_a_of t fs found) _ m whole in
    let b = read-then (sequence_b_of t fs found) _ m a.2 in
    let same : cover_of_parts a.0 b.0 ≡ m = ok-is _ m b.2 in
    let s = sequence-form t fs found a.0 a.1 in
    subst (CoverForm t) same (record {
      reference = s.terms.reference;
      related = s.terms.related;
      value = s.terms.value;
      a56 = s.banks.p56;
      a57 = s.banks.p57;
      a58 = s.banks.p58;
    })

message-form : (t : Tables) (fs : List Field) (m : Mt202Cov) → mt202cov_of t fs ≡ Ok m → CoverForm t m
unfolding mt202cov_of
message-form t fs m e =
    let structure = read-then (passed (field_tests t fs)) _ m e in
    let contents = read-then (contents_of t fs (places_from order_202 0 fs)) _ m structure.2 in
    let more = read-then (passed (all_rules contents.0)) _ m contents.2 in
    subst (CoverForm t) (ok-is contents.0 m more.2) (contents-form t fs (places_from order_202 0 fs) contents.0 contents.1)

pub cover-form : (t : Tables) (m : Mt202Cov) → IsCoverRead t m → CoverForm t m
cover-form t m is = message-form t is.fields m is.read
