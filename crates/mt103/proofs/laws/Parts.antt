-- A transfer that is read part by part is what its fields say place by place.
use Rattle.std.proofs.Common.{◌≡◌, ℕ, false, List, [], Option, None, Result, Ok, Err, refl, ◌∙◌, arith}
use Rattle.std.specs.Prelude.{unwrap_or}
use Rattle.std.specs.List.{list_any}
use Rattle.corr_text.specs.First.{◌>>=◌}
use Rattle.corr_money.specs.declared.amount.Amount.{Amount}
use Rattle.ref_tables.specs.Seen.{Tables}
use Rattle.fin_fields.specs.declared.field.Field.{Field}
use Rattle.fin_layout.specs.Contents.{all_from, in_option, in_place}
use Rattle.fin_layout.specs.Order.{is_between}
use Rattle.fin_layout.proofs.laws.NoneTaken.{none-read, none-taken}
use Rattle.fin_parties.specs.declared.party.Party.{Party}
use Rattle.fin_contents.specs.Money.{ccy_amount_of, rate_of, value_of}
use Rattle.fin_contents.specs.Parties.{known_party_of}
use Rattle.fin_contents.specs.Plain.{reference_of, texts_of, time_of}
use Rattle.fin_contents.specs.declared.value.Value.{Value}
use Rattle.fin_contents.proofs.laws.Grouped.{eight-apart, six-apart}
use Rattle.mt103.specs.Codes.{charge_of, instr_of, kind_of, operation_of}
use Rattle.mt103.specs.Message.{contents_of}
use Rattle.mt103.specs.Order.{at_account_bank, at_info, at_ordering, at_regulatory, at_taken, order_103}
use Rattle.mt103.specs.inner.Parts.{banks_into, closing_into, contents_in_parts, contents_into, details_into, details_of, info_of, transfer_of_parts, parties_into, parties_of, terms_into, terms_of, with_banks, with_closing, with_details, with_info, with_parties, with_payee, with_payer, with_terms, Details, Parties, Terms}
use Rattle.corr_text.specs.declared.fault.Fault.{Fault}
use Rattle.mt103.specs.declared.instruction.Instr.{Instr}
use Rattle.mt103.specs.declared.message.Mt103.{Mt103}

abbrev terms : List ℕ → List (List ℕ) → List ℕ → List Instr → Option (List ℕ) → Value → Option Amount → Option (List ℕ) → Terms
terms reference times op instrs kind value ordered rate =
    record { reference = reference; times = times; op = op; instrs = instrs; kind = kind; value = value; ordered = ordered; rate = rate }

abbrev parties : Party → Option Party → Option Party → Option Party → Option Party → Option Party → Option Party → Party → Parties
parties payer p52 p53 p54 p55 p56 p57 payee =
    record { payer = payer; p52 = p52; p53 = p53; p54 = p54; p55 = p55; p56 = p56; p57 = p57; payee = payee }

abbrev details : Option (List (List ℕ)) → List ℕ → List Amount → Option Amount → Option (List (List ℕ)) → Option (List (List ℕ)) → Details
details info charge taken given notes regulatory =
    record { info = unwrap_or info []; charge = charge; taken = taken; given = given; notes = unwrap_or notes []; regulatory = unwrap_or regulatory [] }

-- reading part by part gives what reading place by place gives
pub contents-are : (t : Tables) (fs : List Field) (found : List ℕ) → contents_in_parts t fs found ≡ contents_of t fs found
unfolding contents_in_parts contents_of terms_of parties_of details_of
contents-are t fs found =
    eight-apart (in_place order_103 fs found 0 reference_of) (all_from fs 1 time_of 0 found fs) (in_place order_103 fs found 2 operation_of) (all_from fs 3 instr_of 0 found fs)
    (in_option fs found 4 kind_of) (in_place order_103 fs found 5 (value_of t)) (in_option fs found 6 (ccy_amount_of t)) (in_option fs found 7 rate_of)
    terms (λ (x : Terms). parties_of t fs found >>= λ (y : Parties). details_of t fs found >>= λ (z : Details). Ok (transfer_of_parts x y z)) _ (λ a0 a1 a2 a3 a4 a5 a6 a7.
    eight-apart (in_place order_103 fs found 8 (known_party_of t)) (in_option fs found 9 (known_party_of t)) (in_option fs found 10 (known_party_of t)) (in_option fs found 11 (known_party_of t))
    (in_option fs found 12 (known_party_of t)) (in_option fs found 13 (known_party_of t)) (in_option fs found 14 (known_party_of t)) (in_place order_103 fs found 15 (known_party_of t))
    parties (λ (y : Parties). details_of t fs found >>= λ (z : Details). Ok (transfer_of_parts (terms a0 a1 a2 a3 a4 a5 a6 a7) y z)) _ (λ b0 b1 b2 b3 b4 b5 b6 b7.
    six-apart (in_option fs found 16 (texts_of 4)) (in_place order_103 fs found 17 charge_of) (all_from fs 18 (ccy_amount_of t) 0 found fs) (in_option fs found 19 (ccy_amount_of t))
    (in_option fs found 20 (texts_of 6)) (in_option fs found 21 (texts_of 3))
    details (λ (z : Details). Ok (transfer_of_parts (terms a0 a1 a2 a3 a4 a5 a6 a7) (parties b0 b1 b2 b3 b4 b5 b6 b7) z)) _ (λ c0 c1 c2 c3 c4 c5. refl)))

-- ---- the same in a message that said something else

-- payer, banks and payee one after another are the parties
party-by-party : (m : Mt103) (payer : Result Party Fault) (p52 p53 p54 p55 p56 p57 : Result (Option Party) Fault) (payee : Result Party Fault)
    → (payer >>= λ x. (p52 >>= λ a. p53 >>= λ b. p54 >>= λ c. p55 >>= λ d. p56 >>= λ e. p57 >>= λ f. Ok (with_banks (with_payer m x) a b c d e f)) >>= λ (banks : Mt103). payee >>= λ y. Ok (with_payee banks y))
    ≡ ((payer >>= λ x. p52 >>= λ a. p53 >>= λ b. p54 >>= λ c. p55 >>= λ d. p56 >>= λ e. p57 >>= λ f. payee >>= λ y. Ok (parties x a b c d e f y)) >>= λ (all : Parties). Ok (with_parties m all))
party-by-party m (Err fault) p52 p53 p54 p55 p56 p57 payee = refl
party-by-party m (Ok x) (Err fault) p53 p54 p55 p56 p57 payee = refl
party-by-party m (Ok x) (Ok a) (Err fault) p54 p55 p56 p57 payee = refl
party-by-party m (Ok x) (Ok a) (Ok b) (Err fault) p55 p56 p57 payee = refl
party-by-party m (Ok x) (Ok a) (Ok b) (Ok c) (Err fault) p56 p57 payee = refl
party-by-party m (Ok x) (Ok a) (Ok b) (Ok c) (Ok d) (Err fault) p57 payee = refl
party-by-party m (Ok x) (Ok a) (Ok b) (Ok c) (Ok d) (Ok e) (Err fault) payee = refl
party-by-party m (Ok x) (Ok a) (Ok b) (Ok c) (Ok d) (Ok e) (Ok f) (Err fault) = refl
party-by-party m (Ok x) (Ok a) (Ok b) (Ok c) (Ok d) (Ok e) (Ok f) (Ok y) = refl

parties-are : (t : Tables) (fs : List Field) (found : List ℕ) (m : Mt103) → parties_into t fs found m ≡ (parties_of t fs found >>= λ all. Ok (with_parties m all))
unfolding parties_into banks_into parties_of
parties-are t fs found m =
    party-by-party m (in_place order_103 fs found 8 (known_party_of t)) (in_option fs found 9 (known_party_of t)) (in_option fs found 10 (known_party_of t)) (in_option fs found 11 (known_party_of t))
    (in_option fs found 12 (known_party_of t)) (in_option fs found 13 (known_party_of t)) (in_option fs found 14 (known_party_of t)) (in_place order_103 fs found 15 (known_party_of t))

-- 70, 71A and the closing fields one after another are the details
detail-by-detail : (m : Mt103) (info : Result (Option (List (List ℕ))) Fault) (charge : Result (List ℕ) Fault) (taken : Result (List Amount) Fault) (given : Result (Option Amount) Fault) (notes regulatory : Result (Option (List (List ℕ))) Fault)
    → ((info >>= λ i. Ok (unwrap_or i [])) >>= λ a. charge >>= λ b. taken >>= λ c. given >>= λ d. notes >>= λ e. regulatory >>= λ f. Ok (with_closing (with_info m a b) c d (unwrap_or e []) (unwrap_or f [])))
    ≡ ((info >>= λ a. charge >>= λ b. taken >>= λ c. given >>= λ d. notes >>= λ e. regulatory >>= λ f. Ok (details a b c d e f)) >>= λ (all : Details). Ok (with_details m all))
detail-by-detail m (Err fault) charge taken given notes regulatory = refl
detail-by-detail m (Ok a) (Err fault) taken given notes regulatory = refl
detail-by-detail m (Ok a) (Ok b) (Err fault) given notes regulatory = refl
detail-by-detail m (Ok a) (Ok b) (Ok c) (Err fault) notes regulatory = refl
detail-by-detail m (Ok a) (Ok b) (Ok c) (Ok d) (Err fault) regulatory = refl
detail-by-detail m (Ok a) (Ok b) (Ok c) (Ok d) (Ok e) (Err fault) = refl
detail-by-detail m (Ok a) (Ok b) (Ok c) (Ok d) (Ok e) (Ok f) = refl

details-are : (t : Tables) (fs : List Field) (found : List ℕ) (m : Mt103) → details_into t fs found m ≡ (details_of t fs found >>= λ all. Ok (with_details m all))
unfolding details_into info_of closing_into details_of
details-are t fs found m =
    detail-by-detail m (in_option fs found 16 (texts_of 4)) (in_place order_103 fs found 17 charge_of) (all_from fs 18 (ccy_amount_of t) 0 found fs) (in_option fs found 19 (ccy_amount_of t))
    (in_option fs found 20 (texts_of 6)) (in_option fs found 21 (texts_of 3))

one-by-one : (m : Mt103) (terms : Result Terms Fault) (parties : Result Parties Fault) (details : Result Details Fault) (second third : Mt103 → Result Mt103 Fault)
    → ((n : Mt103) → second n ≡ (parties >>= λ y. Ok (with_parties n y))) → ((n : Mt103) → third n ≡ (details >>= λ z. Ok (with_details n z)))
    → ((terms >>= λ x. Ok (with_terms m x)) >>= λ (n : Mt103). second n >>= third) ≡ (terms >>= λ x. parties >>= λ y. details >>= λ z. Ok (transfer_of_parts x y z))
one-by-one m (Err fault) parties details second third then last = refl
one-by-one m (Ok x) parties details second third then last = rw (then (with_terms m x)) (go parties)
  where
    make : (y : Parties) (details : Result Details Fault) → (details >>= λ z. Ok (with_details (with_parties (with_terms m x) y) z)) ≡ (details >>= λ z. Ok (transfer_of_parts x y z))
    make y (Err fault) = refl
    make y (Ok z) = refl

    go : (parties : Result Parties Fault) → ((parties >>= λ y. Ok (with_parties (with_terms m x) y)) >>= third) ≡ (parties >>= λ y. details >>= λ z. Ok (transfer_of_parts x y z))
    go (Err fault) = refl
    go (Ok y) = last (with_parties (with_terms m x) y) ∙ make y details

pub into-are : (t : Tables) (fs : List Field) (found : List ℕ) (m : Mt103) → contents_into t fs found m ≡ contents_of t fs found
unfolding contents_into terms_into contents_in_parts
into-are t fs found m =
    one-by-one m (terms_of t fs found) (parties_of t fs found) (details_of t fs found) (parties_into t fs found) (details_into t fs found) (parties-are t fs found) (details-are t fs found)
    ∙ contents-are t fs found

-- where no field takes a place of 52a to 57a, a message has no bank
pub no-banks : (t : Tables) (fs : List Field) (found : List ℕ) (m : Mt103) → list_any (is_between at_ordering at_account_bank) found ≡ false → banks_into t fs found m ≡ Ok (with_banks m None None None None None None)
unfolding banks_into
no-banks t fs found m none = rw (none-taken 9 14 9 (omega arith) (omega arith) fs found none, none-taken 9 14 10 (omega arith) (omega arith) fs found none, none-taken 9 14 11 (omega arith) (omega arith) fs found none, none-taken 9 14 12 (omega arith) (omega arith) fs found none, none-taken 9 14 13 (omega arith) (omega arith) fs found none, none-taken 9 14 14 (omega arith) (omega arith) fs found none) refl

-- and where none takes a place of 71F to 77B, it has no closing fields
pub no-closing : (t : Tables) (fs : List Field) (found : List ℕ) (m : Mt103) → list_any (is_between at_taken at_regulatory) found ≡ false → closing_into t fs found m ≡ Ok (with_closing m [] None [] [])
unfolding closing_into
no-closing t fs found m none =
    rw (none-read 18 21 18 (omega arith) (omega arith) fs (ccy_amount_of t) 0 found fs none, none-taken 18 21 19 (omega arith) (omega arith) fs found none, none-taken 18 21 20 (omega arith) (omega arith) fs found none, none-taken 18 21 21 (omega arith) (omega arith) fs found none) refl

-- and where none takes the place of 70, it has no line of it
pub no-info : (fs : List Field) (found : List ℕ) → list_any (is_between at_info at_info) found ≡ false → info_of fs found ≡ Ok []
unfolding info_of
no-info fs found none = rw (none-taken 16 16 16 (omega arith) (omega arith) fs found none) refl
