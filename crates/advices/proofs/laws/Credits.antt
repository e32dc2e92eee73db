-- The notice of a credit passes the tests of an MT910.
use Rattle.std.proofs.Common.{◌≡◌, ℕ, ◌≤◌, true, List, [], ◌∷◌, length, Some, None, Ok, refl, sym, ◌∙◌, arith}
use Rattle.std.specs.Prelude.{codes, find}
use Rattle.corr_text.specs.First.{first_of}
use Rattle.corr_ids.specs.Day.{InCentury}
use Rattle.corr_ids.specs.declared.bic.Bic.{Bic}
use Rattle.ref_tables.specs.Seen.{Tables}
use Rattle.fin_fields.specs.Fields.{fields_of}
use Rattle.fin_fields.specs.declared.field.Field.{Field}
use Rattle.fin_layout.specs.Order.{places_from}
use Rattle.fin_layout.specs.Segments.{joined}
use Rattle.fin_layout.proofs.laws.Grouped.{grouped-places}
use Rattle.fin_parties.specs.declared.party.Party.{Party}
use Rattle.fin_contents.specs.declared.value.Value.{Value}
use Rattle.fin_contents.specs.Money.{value_of}
use Rattle.fin_contents.specs.Parties.{known_party_of}
use Rattle.fin_contents.specs.Plain.{reference_of, short_line_of}
use Rattle.fin_contents.specs.Writing.{line_field, value_field}
use Rattle.mt202cov.specs.Message.{content_test as content_202, field_tests as tests_202, mt202cov_of}
use Rattle.mt202cov.specs.Order.{order_202}
use Rattle.mt202cov.specs.declared.message.Mt202Cov.{Mt202Cov}
use Rattle.mt9_advice.specs.Advice.{content_test, contents_910, mt910_of, tests_910}
use Rattle.mt9_advice.specs.inner.Parts.{booking_of, ending_of, mt910, orderers_of, parts_910}
use Rattle.mt9_advice.proofs.laws.Parts.{contents-are-910}
use Rattle.mt9_advice.specs.Order.{order_910}
use Rattle.mt9_advice.specs.declared.booking.Booking.{Booking}
use Rattle.mt9_advice.specs.declared.credit.Mt910.{Mt910}
use Rattle.fin_message.specs.Sound.{Say}
use Rattle.fin_message.specs.declared.message.Message.TheVariants as message
use Rattle.day_model.specs.Chart.{Chart}
use Rattle.day_model.specs.declared.pay.Order.TheVariants as order
use Rattle.day_model.specs.declared.pay.Pay.{Pay}
use Rattle.advices.specs.declared.received.Received.{Received}
use Rattle.advices.specs.Advice.{credit_fields}
use Rattle.advices.specs.Fields.{is_named, ours}
use Rattle.advices.specs.Legs.{value_of_pay}
use Rattle.advices.specs.Messages.{order_fields}
use Rattle.advices.specs.Received.{fields_in, ordering, received_of}
use Rattle.advices.specs.Valid.{CreditPasses, IsTabled}
use Rattle.advices.proofs.laws.Banks.{OneBank, ordering-of-cover}
use Rattle.advices.proofs.laws.Bytes.{c-plain}
use Rattle.advices.proofs.laws.Finding.{found-passes, must-copy}
use Rattle.advices.proofs.laws.Fitted.{fitted, row}
use Rattle.advices.proofs.laws.Made.{line-read, ours-read, reference-line}
use Rattle.advices.proofs.laws.Orders.{Moved, leg-moved, received-cut}
use Rattle.advices.proofs.laws.Origin.{given, like-tabled}
use Rattle.advices.proofs.laws.Seats.{AllSeated, Seated, ◌▸◌, no-more, none-seated, one-seated}
use Rattle.advices.proofs.laws.Values.{value-made}

-- what the fields say
abbrev booked : List ℕ → List ℕ → List ℕ → Value → Booking
booked reference related account v = record { reference = reference; related = related; account = account; at = None; value = v }

module _ (t : Tables) (reference related account : List ℕ) (v : Value) (f21 f52 : Field) (bank : Party)
    (one : reference_of (line_field 20 None reference) ≡ Ok reference) (is_21 : is_named 21 (codes " ") f21 ≡ true)
    (two : short_line_of 16 f21 ≡ Ok related)
    (three : short_line_of 35 (line_field 25 None account) ≡ Ok account) (four : value_of t (value_field v) ≡ Ok v)
    (is_52 : is_named 52 (codes "AD") f52 ≡ true) (five : known_party_of t f52 ≡ Ok bank) where
  -- the field of each place
  abbrev segs : List (List Field)
  segs = (line_field 20 None reference ∷ []) ∷ (f21 ∷ []) ∷ (line_field 25 None account ∷ []) ∷ [] ∷ (value_field v ∷ []) ∷ [] ∷ (f52 ∷ []) ∷ [] ∷ [] ∷ []

  abbrev found : List ℕ
  found = 0 ∷ 1 ∷ 2 ∷ 4 ∷ 6 ∷ []

  abbrev Here : ℕ → List Field → Type 0
  Here n fs = Seated order_910 (content_test 8 t) 0 n fs

  s0 : Here 0 (line_field 20 None reference ∷ [])
  s0 = one-seated order_910 (content_test 8 t) 0 0 20 (codes " ") reference_of (λ f. refl) refl (line_field 20 None reference) reference refl one

  s1 : Here 1 (f21 ∷ [])
  s1 = one-seated order_910 (content_test 8 t) 0 1 21 (codes " ") (short_line_of 16) (λ f. refl) refl f21 related is_21 two

  s2 : Here 2 (line_field 25 None account ∷ [])
  s2 = one-seated order_910 (content_test 8 t) 0 2 25 (codes " ") (short_line_of 35) (λ f. refl) refl (line_field 25 None account) account refl three

  s4 : Here 4 (value_field v ∷ [])
  s4 = one-seated order_910 (content_test 8 t) 0 4 32 (codes "A") (value_of t) (λ f. refl) refl (value_field v) v refl four

  s6 : Here 6 (f52 ∷ [])
  s6 = one-seated order_910 (content_test 8 t) 0 6 52 (codes "AD") (known_party_of t) (λ f. refl) refl f52 bank is_52 five

  -- at 13D, 50a, 56a and 72 there is none
  no : (n : ℕ) → Here n []
  no n = none-seated order_910 (content_test 8 t) 0 n

  seated : AllSeated order_910 (content_test 8 t) 0 0 segs
  seated = s0 ▸ s1 ▸ s2 ▸ no 3 ▸ s4 ▸ no 5 ▸ s6 ▸ no 7 ▸ no 8 ▸ no-more order_910 (content_test 8 t) 0 9

  pub passes : first_of (tests_910 t (joined segs)) ≡ None
  passes = fitted order_910 row (content_test 8 t) segs seated.placed refl seated.passing

  places : places_from order_910 0 (joined segs) ≡ found
  places = grouped-places order_910 row 0 0 0 segs (omega arith) (omega arith) seated.placed

  says : booking_of order_910 t (joined segs) found ≡ Ok (booked reference related account v)
  unfolding booking_of
  says = rw (one, two, three, four) refl

  contents : contents_910 t (joined segs) found ≡ Ok (mt910 (booked reference related account v) None (Some bank) None [])
  unfolding parts_910 orderers_of ending_of
  contents =
      let parts : parts_910 t (joined segs) found ≡ Ok (mt910 (booked reference related account v) None (Some bank) None []) = rw (says, five) refl in
      sym (contents-are-910 t (joined segs) found) ∙ parts

  -- and 52a is there, so the rule is kept
  pub reads : mt910_of t (joined segs) ≡ Ok (mt910 (booked reference related account v) None (Some bank) None [])
  unfolding mt910_of
  reads = rw (passes, places, contents) refl

-- the fields that are sent are these
five-fields : (r : Received) (fs : List Field) (reference account : List ℕ) (v : Value) (f21 f52 : Field) → r.fields ≡ fs
    → find (is_named 21 (codes " ")) fs ≡ Some f21 → ordering r ≡ f52 ∷ []
    → credit_fields r reference account v ≡ line_field 20 None reference ∷ f21 ∷ line_field 25 None account ∷ value_field v ∷ f52 ∷ []
unfolding credit_fields
five-fields r fs reference account v f21 f52 same found bank = rw (bank, same, found) refl

-- the notice of a credit, of a pay whose text has a reference in its first 21 and which names a known ordering institution, under
-- tables that hold the leg's currency
pub credit-told : (t : Tables) (chart : Chart) (pay : Pay) (place k leg : ℕ) (to : Bic) (fs : List Field) (f : Field) (x : List ℕ) (on : Moved chart pay leg)
    → InCentury pay.value → IsTabled t on.amount → fields_in pay.text ≡ fs → find (is_named 21 (codes " ")) fs ≡ Some f → reference_of f ≡ Ok x
    → OneBank t (ordering (received_of pay)) → place ≤ 100000 → k ≤ 255
    → (first_of (tests_910 t (order_fields chart pay place k (order.Credit to leg))) ≡ None)
    × ((advice : Mt910) × (mt910_of t (order_fields chart pay place k (order.Credit to leg)) ≡ Ok advice))
credit-told t chart pay place k leg to fs f x on day tabled same found says bank small few =
    let v = value_of_pay pay on.amount in
    let is_21 = found-passes (is_named 21 (codes " ")) fs f found in
    let one = ours-read place k small few 20 in
    let two = reference-line f x says in
    let short : length on.account.id ≤ 35 = omega (arith, on.formed.id_short) in
    let three = line-read 35 25 on.account.id on.formed.id_given short (c-plain on.account.id on.formed.id_plain) in
    let four = value-made t v (record { day = day; amount = on.spelled }) tabled on.above in
    let fields_are = five-fields (received_of pay) fs (ours place k) on.account.id v f bank.field same found bank.same in
    let tests = passes t (ours place k) x on.account.id v f bank.field bank.bank one is_21 two three four bank.named bank.says in
    let read = reads t (ours place k) x on.account.id v f bank.field bank.bank one is_21 two three four bank.named bank.says in
    rw (on.on_account, on.of_amount, fields_are) (tests, (mt910 (booked (ours place k) x on.account.id v) None (Some bank.bank) None [], read))

-- the tests that the received cover passed
cover-tests : (t : Tables) (pay : Pay) (cover : Mt202Cov) (text : List ℕ) → text ≡ pay.text → Say tests_202 mt202cov_of t text cover
    → first_of (tests_202 t (fields_of pay.text)) ≡ None
cover-tests t pay cover text same said = rw (← same) (said.tests)

pub credit-passes : CreditPasses
credit-passes t chart pay envelope text cover place k leg to came small few numbered =
    let m = message.Cover envelope text cover in
    let fs = fields_of pay.text in
    let kept = came.received.kept in
    let g = given t pay m came.received in
    let on = leg-moved chart pay leg came.accounts came.fits numbered in
    let money = came.money leg on.account on.on_account in
    let tabled = like-tabled t cover.amount on.amount (on.in_ccy ∙ money.ccy) (on.in_decimals ∙ money.decimals) g.tabled in
    let r = received_of pay in
    let none = cover-tests t pay cover text kept.1 came.received.said in
    let related = must-copy order_202 (content_202 t) fs none 21 (codes " ") 1 refl reference_of _ (λ f. refl) refl refl in
    let bank = ordering-of-cover t r fs kept.0 g.fields none (received-cut pay came.shape).sender came.sender in
    credit-told t chart pay place k leg to fs related.0 related.1 on came.shape.value tabled g.fields related.2 related.3 bank small few
