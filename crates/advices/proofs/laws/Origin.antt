-- What the received message of a pay gives to those that are sent on.
use Rattle.std.proofs.Common.{◌≡◌, ℕ, ◌≤◌, ◌==◌, not, true, false, List, [], ◌∷◌, length, take, drop, Some, None, Ok, refl, ap, ◌∙◌, arith, nat_le, Option, Result, Err, option_map}
use Rattle.std.specs.Prelude.{codes, find, unwrap_or}
use Rattle.std.specs.List.{list_all}
use Rattle.std.proofs.lemmas.Bool.Decides.{nat_tests}
use Rattle.std.proofs.lemmas.List.{length-take-le}
use Rattle.corr_text.specs.Sets.{is_in}
use Rattle.corr_text.specs.declared.set.Set.TheVariants.{X, N, A}
use Rattle.corr_ids.specs.Day.{day_of}
use Rattle.corr_money.specs.declared.amount.Amount.{Amount}
use Rattle.corr_text.specs.declared.fault.Code.{Code}
use Rattle.fin_layout.specs.declared.place.Place.{Place}
use Rattle.ref_tables.specs.Seen.{Tables, decimals_in}
use Rattle.fin_fields.specs.Faults.{field_fault}
use Rattle.fin_fields.specs.Fields.{fields_of}
use Rattle.fin_fields.specs.declared.field.Field.{Field}
use Rattle.fin_layout.specs.Contents.{all_from, in_option, in_place, located, must_read}
use Rattle.fin_layout.specs.Order.{field_in, places_from}
use Rattle.fin_layout.specs.Tests.{passed}
use Rattle.fin_contents.specs.declared.value.Value.{Value}
use Rattle.fin_contents.specs.Money.{ccy_amount_in, ccy_amount_of, is_ccy_amount, is_dated_amount, is_metal, minor_in, rate_of, value_in, value_of}
use Rattle.fin_contents.specs.Plain.{one_line, reference_of, texts_of, time_of}
use Rattle.fin_contents.proofs.laws.Bytes.{and-three}
use Rattle.fin_contents.proofs.laws.Steps.{checked, read-then, there, told_ok, told-is}
use Rattle.fin_message.specs.Sound.{Say}
use Rattle.fin_message.specs.declared.message.Message.{Message}
use Rattle.fin_message.specs.declared.message.Message.TheVariants as message
use Rattle.mt103.specs.Codes.{instr_of, kind_of, operation_of}
use Rattle.mt103.specs.Instructions.{d98, e46}
use Rattle.mt103.specs.Message.{content_test as content_103, contents_of as contents_103, field_tests as tests_103, mt103_of}
use Rattle.mt103.specs.inner.Parts.{Terms as Terms103, contents_in_parts as parts_103, details_of as details_103, transfer_of_parts, parties_of as parties_103, terms_of as terms_103}
use Rattle.mt103.proofs.laws.Parts.{contents-are as contents-are-103}
use Rattle.mt103.specs.Order.{order_103}
use Rattle.mt103.specs.declared.message.Mt103.{Mt103}
use Rattle.mt202cov.specs.Message.{content_test as content_202, contents_of as contents_202, field_tests as tests_202, mt202cov_of}
use Rattle.mt202cov.specs.inner.Parts.{banks_of, contents_in_parts as parts_202, cover_of_parts, sequence_a_of, sequence_b_of, terms_of as terms_202}
use Rattle.mt202cov.proofs.laws.Parts.{contents-are as contents-are-202}
use Rattle.mt202cov.specs.Order.{order_202}
use Rattle.mt202cov.specs.Rules.{all_rules as rules_202}
use Rattle.mt202cov.specs.declared.message.Mt202Cov.{Mt202Cov}
use Rattle.mt202cov.specs.declared.sequences.SequenceA.{SequenceA}
use Rattle.mt202cov.specs.declared.terms.Terms.{Terms as Terms202}
use Rattle.day_model.specs.declared.pay.Pay.{Pay}
use Rattle.advices.specs.Fields.{is_named}
use Rattle.advices.specs.Received.{fields_in}
use Rattle.advices.specs.Valid.{WasReceivedAs, IsTabled, amount_32a}
use Rattle.advices.proofs.laws.Finding.{copied-at, field_of, must-copy, not-true}

-- ---- the currency of 32A

three-of : (n : ℕ) → nat_le 4 n ≡ true → 3 ≤ n
three-of n e = grind (arith, nat_tests)

amount-tabled : (t : Tables) (line : List ℕ) (a : Amount) → is_ccy_amount line ≡ true → is_metal (take 3 line) ≡ false → ccy_amount_in t line ≡ Ok a
    → IsTabled t a
unfolding ccy_amount_in
amount-tabled t line a form metal e =
    let parts = and-three (nat_le 4 (length line)) (list_all (is_in A) (take 3 line)) (list_all (is_in X) (drop 3 line)) form in
    let decimals = there (decimals_in t (take 3 line)) _ _ a e in
    let minor = read-then (minor_in decimals.0 (drop 3 line)) _ a decimals.2 in
    let same : record { ccy = record { 0 = take 3 line }; minor = minor.0; decimals = decimals.0 } ≡ a = cc minor.2 in
    rw (← same) (record { three = length-take-le 3 line (three-of (length line) parts.0); known = decimals.1; metal = metal })

value-tabled : (t : Tables) (line : List ℕ) (v : Value) → is_dated_amount line ≡ true → value_in t line ≡ Ok v → IsTabled t v.amount
unfolding value_in
value-tabled t line v form e =
    let parts = and-three (nat_le 10 (length line)) (list_all (is_in N) (take 6 line)) (is_ccy_amount (drop 6 line)) form in
    let day = there (day_of (take 6 line)) _ _ v e in
    let metal = checked (not (is_metal (take 3 (drop 6 line)))) _ _ v day.2 in
    let amount = read-then (ccy_amount_in t (drop 6 line)) _ v metal.1 in
    let some = checked (not (amount.0.minor.0 == 0)) _ _ v amount.2 in
    let same : record { day = day.0; amount = amount.0 } ≡ v = cc some.1 in
    rw (← same) (amount-tabled t (drop 6 line) amount.0 parts.2 (not-true (is_metal (take 3 (drop 6 line))) metal.0) amount.1)

pub field-tabled : (t : Tables) (f : Field) (v : Value) → value_of t f ≡ Ok v → IsTabled t v.amount
unfolding value_of
field-tabled t f v e =
    let line = there (one_line f) _ _ v e in
    let form = checked (is_dated_amount line.0) _ _ v line.2 in
    value-tabled t line.0 v form.0 form.1

-- an amount of the currency of another that the tables hold
pub like-tabled : (t : Tables) (a b : Amount) → b.ccy ≡ a.ccy → b.decimals ≡ a.decimals → IsTabled t a → IsTabled t b
like-tabled t a b ccy decimals is = record { three = rw ccy is.three; known = rw (ccy, decimals) is.known; metal = rw ccy is.metal }

-- ---- the value of a transfer

terms-value : (t : Tables) (fs : List Field) (found : List ℕ) (terms : Terms103) → terms_103 t fs found ≡ Ok terms
    → in_place order_103 fs found 5 (value_of t) ≡ Ok terms.value
unfolding terms_103
terms-value t fs found terms e =
    let one = read-then (in_place order_103 fs found 0 reference_of) _ terms e in
    let two = read-then (all_from fs 1 time_of 0 found fs) _ terms one.2 in
    let three = read-then (in_place order_103 fs found 2 operation_of) _ terms two.2 in
    let four = read-then (all_from fs 3 instr_of 0 found fs) _ terms three.2 in
    let five = read-then (in_option fs found 4 kind_of) _ terms four.2 in
    let six = read-then (in_place order_103 fs found 5 (value_of t)) _ terms five.2 in
    let seven = read-then (in_option fs found 6 (ccy_amount_of t)) _ terms six.2 in
    let eight = read-then (in_option fs found 7 rate_of) _ terms seven.2 in
    let made : Terms103 =
    record { reference = one.0; times = two.0; op = three.0; instrs = four.0; kind = five.0; value = six.0; ordered = seven.0; rate = eight.0 } in
    let same : made ≡ terms = told-is made terms eight.2 in
    six.1 ∙ ap (λ (x : Terms103). told_ok x.value) same

transfer-value : (t : Tables) (fs : List Field) (m : Mt103) → mt103_of t fs ≡ Ok m
    → (v : Value) × (in_place order_103 fs (places_from order_103 0 fs) 5 (value_of t) ≡ Ok v) × (v.amount ≡ m.amount)
unfolding mt103_of parts_103
transfer-value t fs m e =
    let found = places_from order_103 0 fs in
    let one = read-then (passed (tests_103 t fs)) _ m e in
    let two = read-then (contents_103 t fs found) _ m one.2 in
    let three = read-then (passed (e46 two.0.instrs ∷ d98 two.0.instrs ∷ [])) _ m two.2 in
    let same : two.0 ≡ m = told-is two.0 m three.2 in
    let whole : parts_103 t fs found ≡ Ok two.0 = contents-are-103 t fs found ∙ two.1 in
    let terms = read-then (terms_103 t fs found) _ two.0 whole in
    let parties = read-then (parties_103 t fs found) _ two.0 terms.2 in
    let details = read-then (details_103 t fs found) _ two.0 parties.2 in
    let made : transfer_of_parts terms.0 parties.0 details.0 ≡ two.0 = told-is (transfer_of_parts terms.0 parties.0 details.0) two.0 details.2 in
    (terms.0.value, terms-value t fs found terms.0 terms.1, ap (λ (x : Mt103). x.amount) (made ∙ same))

-- ---- the value of a cover

cover-terms-value : (t : Tables) (fs : List Field) (found : List ℕ) (terms : Terms202) → terms_202 t fs found ≡ Ok terms
    → in_place order_202 fs found 3 (value_of t) ≡ Ok terms.value
unfolding terms_202
cover-terms-value t fs found terms e =
    let one = read-then (in_place order_202 fs found 0 reference_of) _ terms e in
    let two = read-then (in_place order_202 fs found 1 reference_of) _ terms one.2 in
    let three = read-then (all_from fs 2 time_of 0 found fs) _ terms two.2 in
    let four = read-then (in_place order_202 fs found 3 (value_of t)) _ terms three.2 in
    let made : Terms202 = record { reference = one.0; related = two.0; times = three.0; value = four.0 } in
    let same : made ≡ terms = told-is made terms four.2 in
    four.1 ∙ ap (λ (x : Terms202). told_ok x.value) same

cover-value : (t : Tables) (fs : List Field) (m : Mt202Cov) → mt202cov_of t fs ≡ Ok m
    → (v : Value) × (in_place order_202 fs (places_from order_202 0 fs) 3 (value_of t) ≡ Ok v) × (v.amount ≡ m.amount)
unfolding mt202cov_of parts_202 sequence_a_of
cover-value t fs m e =
    let found = places_from order_202 0 fs in
    let one = read-then (passed (tests_202 t fs)) _ m e in
    let two = read-then (contents_202 t fs found) _ m one.2 in
    let three = read-then (passed (rules_202 two.0)) _ m two.2 in
    let same : two.0 ≡ m = told-is two.0 m three.2 in
    let all : parts_202 t fs found ≡ Ok two.0 = contents-are-202 t fs found ∙ two.1 in
    let a = read-then (sequence_a_of t fs found) _ two.0 all in
    let b = read-then (sequence_b_of t fs found) _ two.0 a.2 in
    let made : cover_of_parts a.0 b.0 ≡ two.0 = told-is (cover_of_parts a.0 b.0) two.0 b.2 in
    let terms = read-then (terms_202 t fs found) _ a.0 a.1 in
    let banks = read-then (banks_of t fs found) _ a.0 terms.2 in
    let notes = read-then (in_option fs found 10 (texts_of 6)) _ a.0 banks.2 in
    let whole : SequenceA = record { terms = terms.0; banks = banks.0; notes = unwrap_or notes.0 [] } in
    let parts : whole ≡ a.0 = told-is whole a.0 notes.2 in (
      terms.0.value,
      cover-terms-value t fs found terms.0 terms.1,
      ap (λ (x : SequenceA). x.terms.value.amount) parts ∙ ap (λ (x : Mt202Cov). x.amount) (made ∙ same),
    )

-- ---- of a pay

-- the fields of a pay that came from a message
pub record Given (t : Tables) (pay : Pay) (a : Amount) : Type 0 where
  pub fields : fields_in pay.text ≡ fields_of pay.text
  pub field : Field
  pub reference : List ℕ
  pub found : find (is_named 20 (codes " ")) (fields_of pay.text) ≡ Some field
  pub says : reference_of field ≡ Ok reference
  pub dated : Field
  pub value : Value
  pub found_32 : find (is_named 32 (codes "A")) (fields_of pay.text) ≡ Some dated
  pub says_32 : value_of t dated ≡ Ok value
  pub same : value.amount ≡ a
  pub tabled : IsTabled t a

pub located-read : {A : Type 0} (fs : List Field) (i : ℕ) (r : Result A Code) (x : A) → located fs i r ≡ Ok x → r ≡ Ok x
located-read fs i (Ok y) x e = ap Ok (cc e)
located-read fs i (Err c) x e = absurd (cc e)

-- the field of a place that was read
pub found-read : {A : Type 0} (order : List Place) (fs : List Field) (k : ℕ) (read : Field → Result A Code) (o : Option (ℕ × Field)) (x : A)
    → must_read order fs k read o ≡ Ok x → (f : Field) × (option_map field_of o ≡ Some f) × (read f ≡ Ok x)
found-read order fs k read None x e = absurd (cc e)
found-read order fs k read (Some (n, f)) x e = (f, refl, located-read fs n (read f) x e)

cut-whole : (text : List ℕ) → field_fault text ≡ None → fields_in text ≡ fields_of text
cut-whole text e = rw e refl

tabled-by : (t : Tables) (a b : Amount) → a ≡ b → IsTabled t a → IsTabled t b
tabled-by t a b e is = rw (← e) is

of-transfer : (t : Tables) (pay : Pay) (m : Mt103) → Say tests_103 mt103_of t pay.text m → Given t pay m.amount
of-transfer t pay m s =
    let fs = fields_of pay.text in
    let first = must-copy order_103 (content_103 t) fs s.tests 20 (codes " ") 0 refl reference_of _ (λ f. refl) refl refl in
    let value = transfer-value t fs m s.says in
    let f = found-read order_103 fs 5 (value_of t) (field_in fs (places_from order_103 0 fs) 5) value.0 value.1 in
    let at = copied-at order_103 (content_103 t) fs s.tests 32 (codes "A") 5 refl in
    record {
      fields = cut-whole pay.text s.cut;
      field = first.0;
      reference = first.1;
      found = first.2;
      says = first.3;
      dated = f.0;
      value = value.0;
      found_32 = at ∙ f.1;
      says_32 = f.2;
      same = value.2;
      tabled = tabled-by t value.0.amount m.amount value.2 (field-tabled t f.0 value.0 f.2);
    }

of-cover : (t : Tables) (pay : Pay) (m : Mt202Cov) → Say tests_202 mt202cov_of t pay.text m → Given t pay m.amount
of-cover t pay m s =
    let fs = fields_of pay.text in
    let first = must-copy order_202 (content_202 t) fs s.tests 20 (codes " ") 0 refl reference_of _ (λ f. refl) refl refl in
    let value = cover-value t fs m s.says in
    let f = found-read order_202 fs 3 (value_of t) (field_in fs (places_from order_202 0 fs) 3) value.0 value.1 in
    let at = copied-at order_202 (content_202 t) fs s.tests 32 (codes "A") 3 refl in
    record {
      fields = cut-whole pay.text s.cut;
      field = first.0;
      reference = first.1;
      found = first.2;
      says = first.3;
      dated = f.0;
      value = value.0;
      found_32 = at ∙ f.1;
      says_32 = f.2;
      same = value.2;
      tabled = tabled-by t value.0.amount m.amount value.2 (field-tabled t f.0 value.0 f.2);
    }

pub given : (t : Tables) (pay : Pay) (m : Message) → WasReceivedAs t pay m → Given t pay (amount_32a m)
given t pay (message.Transfer envelope text transfer) r = let same = r.kept.1 in of-transfer t pay transfer (rw (← same) r.said)
given t pay (message.Cover envelope text cover) r = let same = r.kept.1 in of-cover t pay cover (rw (← same) r.said)
given t pay (message.Debit envelope advice) r = absurd r.kept
given t pay (message.Credit envelope advice) r = absurd r.kept
given t pay (message.Page envelope page) r = absurd r.kept
