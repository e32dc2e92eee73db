-- What the fields of a cover say: where they pass their tests and 56a stands with 57a in each sequence, a cover is read of them.
use Rattle.std.proofs.Common.{◌≡◌, ◌&&◌, not, Bool, false, List, [], ◌∷◌, ℕ, Option, Some, None, Ok, refl, sym, ap, ◌∙◌, subst}
use Rattle.std.specs.Prelude.{is_none, is_some, unwrap_or}
use Rattle.corr_text.specs.First.{first_of}
use Rattle.ref_tables.specs.Seen.{Tables}
use Rattle.fin_fields.specs.declared.field.Field.{Field}
use Rattle.fin_layout.specs.Contents.{in_option, in_place}
use Rattle.fin_layout.specs.Order.{places_from}
use Rattle.fin_layout.specs.Tests.{passed}
use Rattle.fin_layout.proofs.laws.Fine.{all-hold, first-none, holds-none, many-fine, may-fine, must-fine}
use Rattle.fin_contents.specs.Money.{ccy_amount_of, value_of}
use Rattle.fin_contents.specs.Parties.{known_party_of}
use Rattle.fin_contents.specs.Plain.{reference_of, texts_of, time_of}
use Rattle.fin_contents.proofs.laws.Steps.{read-then, told-is}
use Rattle.fin_parties.specs.declared.party.Party.{Party}
use Rattle.mt202cov.specs.Message.{content_test, contents_of, field_tests, mt202cov_of}
use Rattle.mt202cov.specs.inner.Parts.{banks_of, beneficiary_side_of, contents_in_parts, customers_of, details_of, cover_of_parts, payee_side_of, payer_side_of, sender_side_of, sequence_a_of, sequence_b_of, terms_of}
use Rattle.mt202cov.specs.Order.{order_202}
use Rattle.mt202cov.specs.Rules.{all_rules, c68, c81}
use Rattle.mt202cov.specs.declared.banks.Banks.{Banks}
use Rattle.mt202cov.specs.declared.banks.BeneficiarySide.{BeneficiarySide}
use Rattle.mt202cov.specs.declared.banks.SenderSide.{SenderSide}
use Rattle.mt202cov.specs.declared.customers.Customers.{Customers}
use Rattle.mt202cov.specs.declared.customers.PayeeSide.{PayeeSide}
use Rattle.mt202cov.specs.declared.customers.PayerSide.{PayerSide}
use Rattle.mt202cov.specs.declared.details.Details.{Details}
use Rattle.mt202cov.specs.declared.message.Mt202Cov.{Mt202Cov}
use Rattle.mt202cov.specs.declared.sequences.SequenceA.{SequenceA}
use Rattle.mt202cov.specs.declared.sequences.SequenceB.{SequenceB}
use Rattle.mt202cov.specs.declared.terms.Terms.{Terms}
use Rattle.mt202cov.proofs.laws.Parts.{contents-are}
use Rattle.mt202cov.proofs.laws.Passed.{fields-pass, rules-pass}
use Rattle.advices.proofs.laws.Said.{at_place, option-there}
use Rattle.advices.proofs.laws.Finding.{not-true}

-- a field is there and another isn't
abbrev pub lacks : Option Field → Option Field → Bool
lacks one two = is_some one && is_none two

-- 56a and 57a are there where they are told to be
record IsThere (t : Tables) (fs : List Field) (m : Mt202Cov) : Type 0 where
  a56 : in_option fs (places_from order_202 0 fs) 7 (known_party_of t) ≡ Ok m.a56
  a57 : in_option fs (places_from order_202 0 fs) 8 (known_party_of t) ≡ Ok m.a57
  b56 : in_option fs (places_from order_202 0 fs) 13 (known_party_of t) ≡ Ok m.b56
  b57 : in_option fs (places_from order_202 0 fs) 14 (known_party_of t) ≡ Ok m.b57

none-of : {A : Type 0} (o : Option A) → is_none o ≡ not (is_some o)
none-of None = refl
none-of (Some x) = refl

module _ (t : Tables) (fs : List Field) where
  abbrev found : List ℕ
  found = places_from order_202 0 fs

  beneficiary_side-there : (x : BeneficiarySide) → beneficiary_side_of t fs found ≡ Ok x
      → (in_option fs found 7 (known_party_of t) ≡ Ok x.p56) × (in_option fs found 8 (known_party_of t) ≡ Ok x.p57)
  unfolding beneficiary_side_of
  beneficiary_side-there x e =
      let a = read-then (in_option fs found 7 (known_party_of t)) _ x e in
      let b = read-then (in_option fs found 8 (known_party_of t)) _ x a.2 in
      let c = read-then (in_place order_202 fs found 9 (known_party_of t)) _ x b.2 in
      let same : record { p56 = a.0; p57 = b.0; p58 = c.0 } ≡ x = told-is _ x c.2 in
      rw (← same) (a.1, b.1)

  banks-there : (x : Banks) → banks_of t fs found ≡ Ok x
      → (in_option fs found 7 (known_party_of t) ≡ Ok x.p56) × (in_option fs found 8 (known_party_of t) ≡ Ok x.p57)
  unfolding banks_of
  banks-there x e =
      let s = read-then (sender_side_of t fs found) _ x e in
      let b = read-then (beneficiary_side_of t fs found) _ x s.2 in
      let same : record { p52 = s.0.p52; p53 = s.0.p53; p54 = s.0.p54; p56 = b.0.p56; p57 = b.0.p57; p58 = b.0.p58 } ≡ x = told-is _ x b.2 in
      rw (← same) (beneficiary_side-there b.0 b.1)

  payee_side-there : (x : PayeeSide) → payee_side_of t fs found ≡ Ok x
      → (in_option fs found 13 (known_party_of t) ≡ Ok x.p56) × (in_option fs found 14 (known_party_of t) ≡ Ok x.p57)
  unfolding payee_side_of
  payee_side-there x e =
      let a = read-then (in_option fs found 13 (known_party_of t)) _ x e in
      let b = read-then (in_option fs found 14 (known_party_of t)) _ x a.2 in
      let c = read-then (in_place order_202 fs found 15 (known_party_of t)) _ x b.2 in
      let same : record { p56 = a.0; p57 = b.0; payee = c.0 } ≡ x = told-is _ x c.2 in
      rw (← same) (a.1, b.1)

  customers-there : (x : Customers) → customers_of t fs found ≡ Ok x
      → (in_option fs found 13 (known_party_of t) ≡ Ok x.p56) × (in_option fs found 14 (known_party_of t) ≡ Ok x.p57)
  unfolding customers_of
  customers-there x e =
      let from = read-then (payer_side_of t fs found) _ x e in
      let to = read-then (payee_side_of t fs found) _ x from.2 in
      let same : record { payer = from.0.payer; p52 = from.0.p52; p56 = to.0.p56; p57 = to.0.p57; payee = to.0.payee } ≡ x = told-is _ x to.2 in
      rw (← same) (payee_side-there to.0 to.1)

  sequence-a-there : (x : SequenceA) → sequence_a_of t fs found ≡ Ok x
      → (in_option fs found 7 (known_party_of t) ≡ Ok x.banks.p56) × (in_option fs found 8 (known_party_of t) ≡ Ok x.banks.p57)
  unfolding sequence_a_of
  sequence-a-there x e =
      let terms = read-then (terms_of t fs found) _ x e in
      let banks = read-then (banks_of t fs found) _ x terms.2 in
      let notes = read-then (in_option fs found 10 (texts_of 6)) _ x banks.2 in
      let made : SequenceA = record { terms = terms.0; banks = banks.0; notes = unwrap_or notes.0 [] } in
      let same : made ≡ x = told-is made x notes.2 in
      subst
      (λ (y : SequenceA). (in_option fs found 7 (known_party_of t) ≡ Ok y.banks.p56) × (in_option fs found 8 (known_party_of t) ≡ Ok y.banks.p57)) same
      (banks-there banks.0 banks.1)

  sequence-b-there : (x : SequenceB) → sequence_b_of t fs found ≡ Ok x
      → (in_option fs found 13 (known_party_of t) ≡ Ok x.customers.p56) × (in_option fs found 14 (known_party_of t) ≡ Ok x.customers.p57)
  unfolding sequence_b_of
  sequence-b-there x e =
      let customers = read-then (customers_of t fs found) _ x e in
      let details = read-then (details_of t fs found) _ x customers.2 in
      let made : SequenceB = record { customers = customers.0; details = details.0 } in
      let same : made ≡ x = told-is made x details.2 in
      subst
      (λ (y : SequenceB).
      (in_option fs found 13 (known_party_of t) ≡ Ok y.customers.p56) × (in_option fs found 14 (known_party_of t) ≡ Ok y.customers.p57)) same
      (customers-there customers.0 customers.1)

  contents-there : (m : Mt202Cov) → contents_of t fs found ≡ Ok m → IsThere t fs m
  unfolding contents_in_parts
  contents-there m e =
      let whole : contents_in_parts t fs found ≡ Ok m = contents-are t fs found ∙ e in
      let a = read-then (sequence_a_of t fs found) _ m whole in
      let b = read-then (sequence_b_of t fs found) _ m a.2 in
      let same : cover_of_parts a.0 b.0 ≡ m = told-is (cover_of_parts a.0 b.0) m b.2 in
      let one = sequence-a-there a.0 a.1 in
      let two = sequence-b-there b.0 b.1 in
      subst (IsThere t fs) same (record { a56 = one.0; a57 = one.1; b56 = two.0; b57 = two.1 })

  -- ---- of fields that pass their tests

  module _ (none : first_of (field_tests t fs) ≡ None) where
    terms-fine : (x : Terms) × (terms_of t fs found ≡ Ok x)
    unfolding terms_of
    terms-fine =
        let hold = all-hold order_202 (content_test t) fs none in
        let a = must-fine hold 0 reference_of (λ f. refl) _ refl refl in
        let b = must-fine hold 1 reference_of (λ f. refl) _ refl refl in
        let c = many-fine hold 2 time_of (λ f. refl) in
        let d = must-fine hold 3 (value_of t) (λ f. refl) _ refl refl in
        (record { reference = a.0; related = b.0; times = c.0; value = d.0 }, rw (a.1, b.1, c.1, d.1) refl)

    sender_side-fine : (x : SenderSide) × (sender_side_of t fs found ≡ Ok x)
    unfolding sender_side_of
    sender_side-fine =
        let hold = all-hold order_202 (content_test t) fs none in
        let a = may-fine hold 4 (known_party_of t) (λ f. refl) in
        let b = may-fine hold 5 (known_party_of t) (λ f. refl) in
        let c = may-fine hold 6 (known_party_of t) (λ f. refl) in
        (record { p52 = a.0; p53 = b.0; p54 = c.0 }, rw (a.1, b.1, c.1) refl)

    beneficiary_side-fine : (x : BeneficiarySide) × (beneficiary_side_of t fs found ≡ Ok x)
    unfolding beneficiary_side_of
    beneficiary_side-fine =
        let hold = all-hold order_202 (content_test t) fs none in
        let a = may-fine hold 7 (known_party_of t) (λ f. refl) in
        let b = may-fine hold 8 (known_party_of t) (λ f. refl) in
        let c = must-fine hold 9 (known_party_of t) (λ f. refl) _ refl refl in
        (record { p56 = a.0; p57 = b.0; p58 = c.0 }, rw (a.1, b.1, c.1) refl)

    banks-fine : (x : Banks) × (banks_of t fs found ≡ Ok x)
    unfolding banks_of
    banks-fine =
        let s = sender_side-fine in
        let b = beneficiary_side-fine in
        (record { p52 = s.0.p52; p53 = s.0.p53; p54 = s.0.p54; p56 = b.0.p56; p57 = b.0.p57; p58 = b.0.p58 }, rw (s.1, b.1) refl)

    payer_side-fine : (x : PayerSide) × (payer_side_of t fs found ≡ Ok x)
    unfolding payer_side_of
    payer_side-fine =
        let hold = all-hold order_202 (content_test t) fs none in
        let a = must-fine hold 11 (known_party_of t) (λ f. refl) _ refl refl in
        let b = may-fine hold 12 (known_party_of t) (λ f. refl) in
        (record { payer = a.0; p52 = b.0 }, rw (a.1, b.1) refl)

    payee_side-fine : (x : PayeeSide) × (payee_side_of t fs found ≡ Ok x)
    unfolding payee_side_of
    payee_side-fine =
        let hold = all-hold order_202 (content_test t) fs none in
        let a = may-fine hold 13 (known_party_of t) (λ f. refl) in
        let b = may-fine hold 14 (known_party_of t) (λ f. refl) in
        let c = must-fine hold 15 (known_party_of t) (λ f. refl) _ refl refl in
        (record { p56 = a.0; p57 = b.0; payee = c.0 }, rw (a.1, b.1, c.1) refl)

    customers-fine : (x : Customers) × (customers_of t fs found ≡ Ok x)
    unfolding customers_of
    customers-fine =
        let from = payer_side-fine in
        let to = payee_side-fine in
        (record { payer = from.0.payer; p52 = from.0.p52; p56 = to.0.p56; p57 = to.0.p57; payee = to.0.payee }, rw (from.1, to.1) refl)

    details-fine : (x : Details) × (details_of t fs found ≡ Ok x)
    unfolding details_of
    details-fine =
        let hold = all-hold order_202 (content_test t) fs none in
        let a = may-fine hold 16 (texts_of 4) (λ f. refl) in
        let b = may-fine hold 17 (texts_of 6) (λ f. refl) in
        let c = may-fine hold 18 (ccy_amount_of t) (λ f. refl) in
        (record { info = unwrap_or a.0 []; notes = unwrap_or b.0 []; ordered = c.0 }, rw (a.1, b.1, c.1) refl)

    sequence-a-fine : (x : SequenceA) × (sequence_a_of t fs found ≡ Ok x)
    unfolding sequence_a_of
    sequence-a-fine =
        let hold = all-hold order_202 (content_test t) fs none in
        let notes = may-fine hold 10 (texts_of 6) (λ f. refl) in
        (record { terms = terms-fine.0; banks = banks-fine.0; notes = unwrap_or notes.0 [] }, rw (terms-fine.1, banks-fine.1, notes.1) refl)

    sequence-b-fine : (x : SequenceB) × (sequence_b_of t fs found ≡ Ok x)
    unfolding sequence_b_of
    sequence-b-fine = (record { customers = customers-fine.0; details = details-fine.0 }, rw (customers-fine.1, details-fine.1) refl)

    contents-fine : (m : Mt202Cov) × (contents_of t fs found ≡ Ok m)
    unfolding contents_in_parts
    contents-fine =
        let m : Mt202Cov = cover_of_parts sequence-a-fine.0 sequence-b-fine.0 in
        let whole : contents_in_parts t fs found ≡ Ok m = rw (sequence-a-fine.1, sequence-b-fine.1) refl in
        (m, sym (contents-are t fs found) ∙ whole)

    -- a party is told just where there is a field
    told : (m : Mt202Cov) (k : ℕ) (x : Option Party) → in_option fs found k (known_party_of t) ≡ Ok x → is_some x ≡ is_some (at_place fs found k)
    told m k x e = option-there fs found k (known_party_of t) x e

    none-told : (m : Mt202Cov) (k : ℕ) (x : Option Party) → in_option fs found k (known_party_of t) ≡ Ok x → is_none x ≡ is_none (at_place fs found k)
    none-told m k x e = none-of x ∙ ap (λ (b : Bool). not b) (told m k x e) ∙ sym (none-of (at_place fs found k))

    -- so they are read as a cover where the two rules are kept
    pub cover-reads : lacks (at_place fs found 7) (at_place fs found 8) ≡ false → lacks (at_place fs found 13) (at_place fs found 14) ≡ false
        → (m : Mt202Cov) × (mt202cov_of t fs ≡ Ok m)
    unfolding mt202cov_of
    cover-reads one two =
        let m = contents-fine.0 in
        let s = contents-there m contents-fine.1 in
        let first : (is_some m.a56 && is_none m.a57) ≡ false = rw (told m 7 m.a56 s.a56, none-told m 8 m.a57 s.a57) one in
        let second : (is_some m.b56 && is_none m.b57) ≡ false = rw (told m 13 m.b56 s.b56, none-told m 14 m.b57 s.b57) two in
        let kept : first_of (all_rules m) ≡ None = rw (first, second) refl in
        (m, rw (none, contents-fine.1, kept) refl)

  -- and one that was read kept them
  pub cover-kept : (m : Mt202Cov) → mt202cov_of t fs ≡ Ok m
      → (lacks (at_place fs found 7) (at_place fs found 8) ≡ false) × (lacks (at_place fs found 13) (at_place fs found 14) ≡ false)
  unfolding mt202cov_of
  cover-kept m e =
      let none = fields-pass t fs m e in
      let rules = rules-pass t fs m e in
      let one = read-then (passed (field_tests t fs)) _ m e in
      let two = read-then (contents_of t fs found) _ m one.2 in
      let three = read-then (passed (all_rules two.0)) _ m two.2 in
      let same : two.0 ≡ m = told-is two.0 m three.2 in
      let s = subst (IsThere t fs) same (contents-there two.0 two.1) in
      let first = first-none (c81 m) (c68 m ∷ []) rules in
      let second = first-none (c68 m) [] first.1 in
      let a = not-true (is_some m.a56 && is_none m.a57) (holds-none (not (is_some m.a56 && is_none m.a57)) _ first.0) in
      let b = not-true (is_some m.b56 && is_none m.b57) (holds-none (not (is_some m.b56 && is_none m.b57)) _ second.0) in
      (rw (← told none m 7 m.a56 s.a56, ← none-told none m 8 m.a57 s.a57) a, rw (← told none m 13 m.b56 s.b56, ← none-told none m 14 m.b57 s.b57) b)
