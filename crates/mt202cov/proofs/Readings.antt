-- What is read at the places of a cover's fields, and the cover that it makes.
use Rattle.std.proofs.Common.{◌≡◌, ℕ, List, [], Option, Result, Ok, refl, sym, ◌∙◌}
use Rattle.std.specs.Prelude.{unwrap_or}
use Rattle.corr_text.specs.declared.fault.Code.{Code}
use Rattle.ref_tables.specs.Seen.{Tables}
use Rattle.fin_fields.specs.declared.field.Field.{Field}
use Rattle.fin_layout.specs.Contents.{all_from, in_option, in_place}
use Rattle.fin_contents.specs.Money.{ccy_amount_of, value_of}
use Rattle.fin_contents.specs.Parties.{known_party_of}
use Rattle.fin_contents.specs.Plain.{reference_of, texts_of, time_of}
use Rattle.fin_contents.proofs.laws.Steps.{read-then}
use Rattle.mt202cov.specs.Message.{contents_of}
use Rattle.mt202cov.specs.inner.Parts.{banks_of, beneficiary_side_of, contents_in_parts, customers_of, details_of, cover_of_parts, payee_side_of, payer_side_of, sender_side_of, sequence_a_of, sequence_b_of, terms_of}
use Rattle.mt202cov.specs.Writing.{value_said}
use Rattle.mt202cov.specs.declared.banks.Banks.{Banks}
use Rattle.mt202cov.specs.declared.banks.BeneficiarySide.{BeneficiarySide}
use Rattle.mt202cov.specs.declared.banks.SenderSide.{SenderSide}
use Rattle.mt202cov.specs.declared.customers.Customers.{Customers}
use Rattle.mt202cov.specs.declared.customers.PayeeSide.{PayeeSide}
use Rattle.mt202cov.specs.declared.customers.PayerSide.{PayerSide}
use Rattle.mt202cov.specs.declared.details.Details.{Details}
use Rattle.mt202cov.specs.declared.message.Mt202Cov.{Mt202Cov}
use Rattle.mt202cov.specs.Order.{order_202}
use Rattle.mt202cov.specs.declared.sequences.SequenceA.{SequenceA}
use Rattle.mt202cov.specs.declared.sequences.SequenceB.{SequenceB}
use Rattle.mt202cov.specs.declared.terms.Terms.{Terms}
use Rattle.mt202cov.proofs.laws.Parts.{contents-are}

-- lines that may be none
abbrev pub LinesRead : List Field → List ℕ → ℕ → ℕ → List (List ℕ) → Type 0
LinesRead fs found k most lines = (o : Option (List (List ℕ))) × (in_option fs found k (texts_of most) ≡ Ok o) × (unwrap_or o [] ≡ lines)

-- what each place says
pub record Readings (t : Tables) (fs : List Field) (found : List ℕ) (m : Mt202Cov) : Type 0 where
  pub reference : in_place order_202 fs found 0 reference_of ≡ Ok m.reference
  pub related : in_place order_202 fs found 1 reference_of ≡ Ok m.related
  pub times : all_from fs 2 time_of 0 found fs ≡ Ok m.times
  pub value : in_place order_202 fs found 3 (value_of t) ≡ Ok (value_said m)
  pub a52 : in_option fs found 4 (known_party_of t) ≡ Ok m.a52
  pub a53 : in_option fs found 5 (known_party_of t) ≡ Ok m.a53
  pub a54 : in_option fs found 6 (known_party_of t) ≡ Ok m.a54
  pub a56 : in_option fs found 7 (known_party_of t) ≡ Ok m.a56
  pub a57 : in_option fs found 8 (known_party_of t) ≡ Ok m.a57
  pub a58 : in_place order_202 fs found 9 (known_party_of t) ≡ Ok m.a58
  pub a_notes : LinesRead fs found 10 6 m.a_notes
  pub payer : in_place order_202 fs found 11 (known_party_of t) ≡ Ok m.payer
  pub b52 : in_option fs found 12 (known_party_of t) ≡ Ok m.b52
  pub b56 : in_option fs found 13 (known_party_of t) ≡ Ok m.b56
  pub b57 : in_option fs found 14 (known_party_of t) ≡ Ok m.b57
  pub payee : in_place order_202 fs found 15 (known_party_of t) ≡ Ok m.payee
  pub info : LinesRead fs found 16 4 m.info
  pub b_notes : LinesRead fs found 17 6 m.b_notes
  pub ordered : in_option fs found 18 (ccy_amount_of t) ≡ Ok m.ordered

-- ---- from a cover to what its places say

module _ (t : Tables) (fs : List Field) (found : List ℕ) where
  -- what a place says, where a field must stand there, and where one may
  abbrev Must : {A : Type 0} → ℕ → (Field → Result A Code) → A → Type 0
  Must k read x = in_place order_202 fs found k read ≡ Ok x

  abbrev May : {A : Type 0} → ℕ → (Field → Result A Code) → Option A → Type 0
  May k read o = in_option fs found k read ≡ Ok o

  terms-read : (x : Terms) → terms_of t fs found ≡ Ok x
      → Must 0 reference_of x.reference × Must 1 reference_of x.related × (all_from fs 2 time_of 0 found fs ≡ Ok x.times) × Must 3 (value_of t) x.value
  unfolding terms_of
  terms-read x e =
      let r0 = read-then (in_place order_202 fs found 0 reference_of) _ x e in
      let r1 = read-then (in_place order_202 fs found 1 reference_of) _ x r0.2 in
      let r2 = read-then (all_from fs 2 time_of 0 found fs) _ x r1.2 in
      let r3 = read-then (in_place order_202 fs found 3 (value_of t)) _ x r2.2 in
      let same : record { reference = r0.0; related = r1.0; times = r2.0; value = r3.0 } ≡ x = cc r3.2 in
      rw (← same) (r0.1, r1.1, r2.1, r3.1)

  sender_side-read : (x : SenderSide) → sender_side_of t fs found ≡ Ok x
      → May 4 (known_party_of t) x.p52 × May 5 (known_party_of t) x.p53 × May 6 (known_party_of t) x.p54
  unfolding sender_side_of
  sender_side-read x e =
      let r0 = read-then (in_option fs found 4 (known_party_of t)) _ x e in
      let r1 = read-then (in_option fs found 5 (known_party_of t)) _ x r0.2 in
      let r2 = read-then (in_option fs found 6 (known_party_of t)) _ x r1.2 in
      let same : record { p52 = r0.0; p53 = r1.0; p54 = r2.0 } ≡ x = cc r2.2 in
      rw (← same) (r0.1, r1.1, r2.1)

  beneficiary_side-read : (x : BeneficiarySide) → beneficiary_side_of t fs found ≡ Ok x
      → May 7 (known_party_of t) x.p56 × May 8 (known_party_of t) x.p57 × Must 9 (known_party_of t) x.p58
  unfolding beneficiary_side_of
  beneficiary_side-read x e =
      let r0 = read-then (in_option fs found 7 (known_party_of t)) _ x e in
      let r1 = read-then (in_option fs found 8 (known_party_of t)) _ x r0.2 in
      let r2 = read-then (in_place order_202 fs found 9 (known_party_of t)) _ x r1.2 in
      let same : record { p56 = r0.0; p57 = r1.0; p58 = r2.0 } ≡ x = cc r2.2 in
      rw (← same) (r0.1, r1.1, r2.1)

  banks-read : (x : Banks) → banks_of t fs found ≡ Ok x
      → May 4 (known_party_of t) x.p52 × May 5 (known_party_of t) x.p53 × May 6 (known_party_of t) x.p54 × May 7 (known_party_of t) x.p56
      × May 8 (known_party_of t) x.p57 × Must 9 (known_party_of t) x.p58
  unfolding banks_of
  banks-read x e =
      let r0 = read-then (sender_side_of t fs found) _ x e in
      let r1 = read-then (beneficiary_side_of t fs found) _ x r0.2 in
      let s = sender_side-read r0.0 r0.1 in
      let b = beneficiary_side-read r1.0 r1.1 in
      let same : record { p52 = r0.0.p52; p53 = r0.0.p53; p54 = r0.0.p54; p56 = r1.0.p56; p57 = r1.0.p57; p58 = r1.0.p58 } ≡ x = cc r1.2 in
      rw (← same) (s.0, s.1, s.2, b.0, b.1, b.2)

  payer_side-read : (x : PayerSide) → payer_side_of t fs found ≡ Ok x → Must 11 (known_party_of t) x.payer × May 12 (known_party_of t) x.p52
  unfolding payer_side_of
  payer_side-read x e =
      let r0 = read-then (in_place order_202 fs found 11 (known_party_of t)) _ x e in
      let r1 = read-then (in_option fs found 12 (known_party_of t)) _ x r0.2 in
      let same : record { payer = r0.0; p52 = r1.0 } ≡ x = cc r1.2 in
      rw (← same) (r0.1, r1.1)

  payee_side-read : (x : PayeeSide) → payee_side_of t fs found ≡ Ok x
      → May 13 (known_party_of t) x.p56 × May 14 (known_party_of t) x.p57 × Must 15 (known_party_of t) x.payee
  unfolding payee_side_of
  payee_side-read x e =
      let r0 = read-then (in_option fs found 13 (known_party_of t)) _ x e in
      let r1 = read-then (in_option fs found 14 (known_party_of t)) _ x r0.2 in
      let r2 = read-then (in_place order_202 fs found 15 (known_party_of t)) _ x r1.2 in
      let same : record { p56 = r0.0; p57 = r1.0; payee = r2.0 } ≡ x = cc r2.2 in
      rw (← same) (r0.1, r1.1, r2.1)

  customers-read : (x : Customers) → customers_of t fs found ≡ Ok x
      → Must 11 (known_party_of t) x.payer × May 12 (known_party_of t) x.p52 × May 13 (known_party_of t) x.p56 × May 14 (known_party_of t) x.p57
      × Must 15 (known_party_of t) x.payee
  unfolding customers_of
  customers-read x e =
      let r0 = read-then (payer_side_of t fs found) _ x e in
      let r1 = read-then (payee_side_of t fs found) _ x r0.2 in
      let p = payer_side-read r0.0 r0.1 in
      let q = payee_side-read r1.0 r1.1 in
      let same : record { payer = r0.0.payer; p52 = r0.0.p52; p56 = r1.0.p56; p57 = r1.0.p57; payee = r1.0.payee } ≡ x = cc r1.2 in
      rw (← same) (p.0, p.1, q.0, q.1, q.2)

  details-read : (x : Details) → details_of t fs found ≡ Ok x
      → LinesRead fs found 16 4 x.info × LinesRead fs found 17 6 x.notes × May 18 (ccy_amount_of t) x.ordered
  unfolding details_of
  details-read x e =
      let r0 = read-then (in_option fs found 16 (texts_of 4)) _ x e in
      let r1 = read-then (in_option fs found 17 (texts_of 6)) _ x r0.2 in
      let r2 = read-then (in_option fs found 18 (ccy_amount_of t)) _ x r1.2 in
      let same : record { info = unwrap_or r0.0 []; notes = unwrap_or r1.0 []; ordered = r2.0 } ≡ x = cc r2.2 in
      rw (← same) ((r0.0, r0.1, refl), (r1.0, r1.1, refl), r2.1)

  sequence_a-read : (x : SequenceA) → sequence_a_of t fs found ≡ Ok x
      → (terms_of t fs found ≡ Ok x.terms) × (banks_of t fs found ≡ Ok x.banks) × LinesRead fs found 10 6 x.notes
  unfolding sequence_a_of
  sequence_a-read x e =
      let r0 = read-then (terms_of t fs found) _ x e in
      let r1 = read-then (banks_of t fs found) _ x r0.2 in
      let r2 = read-then (in_option fs found 10 (texts_of 6)) _ x r1.2 in
      let same : record { terms = r0.0; banks = r1.0; notes = unwrap_or r2.0 [] } ≡ x = cc r2.2 in
      rw (← same) (r0.1, r1.1, (r2.0, r2.1, refl))

  sequence_b-read : (x : SequenceB) → sequence_b_of t fs found ≡ Ok x → (customers_of t fs found ≡ Ok x.customers) × (details_of t fs found ≡ Ok x.details)
  unfolding sequence_b_of
  sequence_b-read x e =
      let r0 = read-then (customers_of t fs found) _ x e in
      let r1 = read-then (details_of t fs found) _ x r0.2 in
      let same : record { customers = r0.0; details = r1.0 } ≡ x = cc r1.2 in
      rw (← same) (r0.1, r1.1)

  of-sequences : (a : SequenceA) (b : SequenceB) → sequence_a_of t fs found ≡ Ok a → sequence_b_of t fs found ≡ Ok b → Readings t fs found (cover_of_parts a b)
  of-sequences a b ea eb =
      let sa = sequence_a-read a ea in
      let sb = sequence_b-read b eb in
      let terms = terms-read a.terms sa.0 in
      let banks = banks-read a.banks sa.1 in
      let customers = customers-read b.customers sb.0 in
      let details = details-read b.details sb.1 in
      record {
        reference = terms.0;
        related = terms.1;
        times = terms.2;
        value = terms.3;
        a52 = banks.0;
        a53 = banks.1;
        a54 = banks.2;
        a56 = banks.3;
        a57 = banks.4;
        a58 = banks.5;
        a_notes = sa.2;
        payer = customers.0;
        b52 = customers.1;
        b56 = customers.2;
        b57 = customers.3;
        payee = customers.4;
        info = details.0;
        b_notes = details.1;
        ordered = details.2;
      }

  pub readings : (m : Mt202Cov) → contents_of t fs found ≡ Ok m → Readings t fs found m
  unfolding contents_in_parts
  readings m e =
      let parts : contents_in_parts t fs found ≡ Ok m = contents-are t fs found ∙ e in
      let a = read-then (sequence_a_of t fs found) _ m parts in
      let b = read-then (sequence_b_of t fs found) _ m a.2 in
      let same : cover_of_parts a.0 b.0 ≡ m = cc b.2 in
      rw (← same) (of-sequences a.0 b.0 a.1 b.1)

  -- ---- and back

  pub said-by : (m : Mt202Cov) → Readings t fs found m → contents_of t fs found ≡ Ok m
  unfolding contents_in_parts sequence_a_of sequence_b_of terms_of banks_of sender_side_of beneficiary_side_of customers_of payer_side_of payee_side_of details_of
  said-by m r =
      let (a, ea, sa) = r.a_notes in
      let (i, ei, si) = r.info in
      let (b, eb, sb) = r.b_notes in
      let parts : contents_in_parts t fs found ≡ Ok m =
      rw (r.reference, r.related, r.times, r.value, r.a52, r.a53, r.a54, r.a56, r.a57, r.a58, ea)
      (rw (r.payer, r.b52, r.b56, r.b57, r.payee, ei, eb, r.ordered) (rw (sa, si, sb) refl)) in
      sym (contents-are t fs found) ∙ parts
