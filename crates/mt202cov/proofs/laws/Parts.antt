-- A cover that is read part by part is what its fields say place by place.
use Rattle.std.proofs.Common.{◌≡◌, ℕ, List, [], Option, Ok, refl, ◌∙◌}
use Rattle.std.specs.Prelude.{unwrap_or}
use Rattle.corr_text.specs.First.{◌>>=◌}
use Rattle.corr_money.specs.declared.amount.Amount.{Amount}
use Rattle.ref_tables.specs.Seen.{Tables}
use Rattle.fin_fields.specs.declared.field.Field.{Field}
use Rattle.fin_layout.specs.Contents.{all_from, in_option, in_place}
use Rattle.fin_parties.specs.declared.party.Party.{Party}
use Rattle.fin_contents.specs.Money.{ccy_amount_of, value_of}
use Rattle.fin_contents.specs.Parties.{known_party_of}
use Rattle.fin_contents.specs.Plain.{reference_of, texts_of, time_of}
use Rattle.fin_contents.specs.declared.value.Value.{Value}
use Rattle.fin_contents.proofs.laws.Grouped.{alike, four-apart, steps-joined, three-apart}
use Rattle.mt202cov.specs.Message.{contents_of}
use Rattle.mt202cov.specs.Order.{order_202}
use Rattle.mt202cov.specs.inner.Parts.{banks_of, beneficiary_side_of, contents_in_parts, customers_of, details_of, cover_of_parts, payee_side_of, payer_side_of, sender_side_of, sequence_a_of, sequence_b_of, terms_of}
use Rattle.mt202cov.specs.declared.banks.Banks.{Banks}
use Rattle.mt202cov.specs.declared.banks.BeneficiarySide.{BeneficiarySide}
use Rattle.mt202cov.specs.declared.banks.SenderSide.{SenderSide}
use Rattle.mt202cov.specs.declared.customers.Customers.{Customers}
use Rattle.mt202cov.specs.declared.customers.PayeeSide.{PayeeSide}
use Rattle.mt202cov.specs.declared.customers.PayerSide.{PayerSide}
use Rattle.mt202cov.specs.declared.details.Details.{Details}
use Rattle.mt202cov.specs.declared.sequences.SequenceA.{SequenceA}
use Rattle.mt202cov.specs.declared.sequences.SequenceB.{SequenceB}
use Rattle.mt202cov.specs.declared.terms.Terms.{Terms}

abbrev terms : List ℕ → List ℕ → List (List ℕ) → Value → Terms
terms reference related times value = record { reference = reference; related = related; times = times; value = value }

abbrev sender_side : Option Party → Option Party → Option Party → SenderSide
sender_side p52 p53 p54 = record { p52 = p52; p53 = p53; p54 = p54 }

abbrev beneficiary_side : Option Party → Option Party → Party → BeneficiarySide
beneficiary_side p56 p57 p58 = record { p56 = p56; p57 = p57; p58 = p58 }

abbrev banks : SenderSide → BeneficiarySide → Banks
banks s b = record { p52 = s.p52; p53 = s.p53; p54 = s.p54; p56 = b.p56; p57 = b.p57; p58 = b.p58 }

abbrev payer_side : Party → Option Party → PayerSide
payer_side payer p52 = record { payer = payer; p52 = p52 }

abbrev payee_side : Option Party → Option Party → Party → PayeeSide
payee_side p56 p57 payee = record { p56 = p56; p57 = p57; payee = payee }

abbrev customers : PayerSide → PayeeSide → Customers
customers from to = record { payer = from.payer; p52 = from.p52; p56 = to.p56; p57 = to.p57; payee = to.payee }

abbrev details : Option (List (List ℕ)) → Option (List (List ℕ)) → Option Amount → Details
details info notes ordered = record { info = unwrap_or info []; notes = unwrap_or notes []; ordered = ordered }

abbrev sequence_a : Terms → Banks → Option (List (List ℕ)) → SequenceA
sequence_a terms banks notes = record { terms = terms; banks = banks; notes = unwrap_or notes [] }

abbrev sequence_b : Customers → Details → SequenceB
sequence_b customers details = record { customers = customers; details = details }

-- reading part by part gives what reading place by place gives
pub contents-are : (t : Tables) (fs : List Field) (found : List ℕ) → contents_in_parts t fs found ≡ contents_of t fs found
unfolding contents_in_parts contents_of sequence_a_of sequence_b_of terms_of banks_of sender_side_of beneficiary_side_of customers_of payer_side_of payee_side_of details_of
contents-are t fs found =
    steps-joined (terms_of t fs found) _ _ ∙
    four-apart (in_place order_202 fs found 0 reference_of) (in_place order_202 fs found 1 reference_of) (all_from fs 2 time_of 0 found fs) (in_place order_202 fs found 3 (value_of t))
    terms (λ (x : Terms). (banks_of t fs found >>= λ (y : Banks). in_option fs found 10 (texts_of 6) >>= λ n. Ok (sequence_a x y n)) >>= λ (a : SequenceA). sequence_b_of t fs found >>= λ (b : SequenceB). Ok (cover_of_parts a b)) _ (λ a0 a1 a2 a3.
    let x : Terms = terms a0 a1 a2 a3 in
    steps-joined (banks_of t fs found) _ _ ∙
    steps-joined (sender_side_of t fs found) _ _ ∙
    three-apart (in_option fs found 4 (known_party_of t)) (in_option fs found 5 (known_party_of t)) (in_option fs found 6 (known_party_of t))
    sender_side (λ (s : SenderSide). (beneficiary_side_of t fs found >>= λ (b : BeneficiarySide). Ok (banks s b)) >>= λ (y : Banks). (in_option fs found 10 (texts_of 6) >>= λ n. Ok (sequence_a x y n)) >>= λ (a : SequenceA). sequence_b_of t fs found >>= λ (b : SequenceB). Ok (cover_of_parts a b)) _ (λ b0 b1 b2.
    let s : SenderSide = sender_side b0 b1 b2 in
    steps-joined (beneficiary_side_of t fs found) _ _ ∙
    three-apart (in_option fs found 7 (known_party_of t)) (in_option fs found 8 (known_party_of t)) (in_place order_202 fs found 9 (known_party_of t))
    beneficiary_side (λ (b : BeneficiarySide). (in_option fs found 10 (texts_of 6) >>= λ n. Ok (sequence_a x (banks s b) n)) >>= λ (a : SequenceA). sequence_b_of t fs found >>= λ (b : SequenceB). Ok (cover_of_parts a b)) _ (λ b3 b4 b5.
    let y : Banks = banks s (beneficiary_side b3 b4 b5) in
    steps-joined (in_option fs found 10 (texts_of 6)) _ _ ∙
    alike (in_option fs found 10 (texts_of 6)) _ _ (λ n.
    let a : SequenceA = sequence_a x y n in
    steps-joined (customers_of t fs found) _ _ ∙
    steps-joined (payer_side_of t fs found) _ _ ∙
    steps-joined (in_place order_202 fs found 11 (known_party_of t)) _ _ ∙
    alike (in_place order_202 fs found 11 (known_party_of t)) _ _ (λ c0.
    steps-joined (in_option fs found 12 (known_party_of t)) _ _ ∙
    alike (in_option fs found 12 (known_party_of t)) _ _ (λ c1.
    let from : PayerSide = payer_side c0 c1 in
    steps-joined (payee_side_of t fs found) _ _ ∙
    three-apart (in_option fs found 13 (known_party_of t)) (in_option fs found 14 (known_party_of t)) (in_place order_202 fs found 15 (known_party_of t))
    payee_side (λ (to : PayeeSide). (details_of t fs found >>= λ (d : Details). Ok (sequence_b (customers from to) d)) >>= λ (b : SequenceB). Ok (cover_of_parts a b)) _ (λ c2 c3 c4.
    let z : Customers = customers from (payee_side c2 c3 c4) in
    steps-joined (details_of t fs found) _ _ ∙
    three-apart (in_option fs found 16 (texts_of 4)) (in_option fs found 17 (texts_of 6)) (in_option fs found 18 (ccy_amount_of t))
    details (λ (d : Details). Ok (cover_of_parts a (sequence_b z d))) _ (λ d0 d1 d2. refl))))))))
