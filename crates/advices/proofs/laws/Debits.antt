-- The notice of a debit passes the tests of an MT900.
use Rattle.std.proofs.Common.{◌≡◌, ℕ, ◌≤◌, List, [], ◌∷◌, length, Some, None, Ok, refl, sym, ◌∙◌, arith}
use Rattle.std.specs.Prelude.{codes, find}
use Rattle.corr_text.specs.First.{first_of}
use Rattle.corr_ids.specs.Day.{InCentury}
use Rattle.corr_ids.specs.declared.bic.Bic.{Bic}
use Rattle.ref_tables.specs.Seen.{Tables}
use Rattle.fin_fields.specs.declared.field.Field.{Field}
use Rattle.fin_layout.specs.Order.{missing_from, places_from}
use Rattle.fin_layout.specs.Tests.{contents_from}
use Rattle.fin_contents.specs.declared.value.Value.{Value}
use Rattle.fin_contents.specs.Money.{value_of}
use Rattle.fin_contents.specs.Plain.{reference_of, short_line_of}
use Rattle.fin_contents.specs.Writing.{line_field, value_field}
use Rattle.fin_contents.proofs.laws.Again.{reference-kept}
use Rattle.mt9_advice.specs.Advice.{content_test, contents_900, mt900_of, tests_900}
use Rattle.mt9_advice.specs.inner.Parts.{booking_of, mt900, parts_900}
use Rattle.mt9_advice.proofs.laws.Parts.{contents-are-900}
use Rattle.mt9_advice.specs.Order.{order_900}
use Rattle.mt9_advice.specs.declared.booking.Booking.{Booking}
use Rattle.mt9_advice.specs.declared.debit.Mt900.{Mt900}
use Rattle.day_model.specs.Chart.{Chart}
use Rattle.day_model.specs.declared.pay.Order.TheVariants as order
use Rattle.day_model.specs.declared.pay.Pay.{Pay}
use Rattle.advices.specs.declared.received.Received.{Received}
use Rattle.advices.specs.Advice.{debit_fields}
use Rattle.advices.specs.Fields.{is_named, ours}
use Rattle.advices.specs.Legs.{value_of_pay}
use Rattle.advices.specs.Messages.{order_fields}
use Rattle.advices.specs.Received.{fields_in, received_of}
use Rattle.advices.specs.Valid.{DebitPasses, IsTabled, amount_32a}
use Rattle.advices.proofs.laws.Bytes.{c-plain}
use Rattle.advices.proofs.laws.Fitted.{all-pass}
use Rattle.advices.proofs.laws.Made.{line-read, ours-read, reference-short}
use Rattle.advices.proofs.laws.Orders.{Moved, leg-moved}
use Rattle.advices.proofs.laws.Origin.{given, like-tabled}
use Rattle.advices.proofs.laws.Values.{value-made}

-- ---- four fields

-- what they say
abbrev booked : List ℕ → List ℕ → List ℕ → Value → Booking
booked reference related account v = record { reference = reference; related = related; account = account; at = None; value = v }

module _ (t : Tables) (reference related account : List ℕ) (v : Value)
    (one : reference_of (line_field 20 None reference) ≡ Ok reference) (two : short_line_of 16 (line_field 21 None related) ≡ Ok related)
    (three : short_line_of 35 (line_field 25 None account) ≡ Ok account) (four : value_of t (value_field v) ≡ Ok v) where
  abbrev fields : List Field
  fields = line_field 20 None reference ∷ line_field 21 None related ∷ line_field 25 None account ∷ value_field v ∷ []

  abbrev found : List ℕ
  found = 0 ∷ 1 ∷ 2 ∷ 4 ∷ []

  places : places_from order_900 0 fields ≡ found
  unfolding places_from
  places = refl

  whole : missing_from 0 order_900 found ≡ None
  unfolding missing_from
  whole = refl

  fine : first_of (contents_from (content_test 6 t) fields 0 found fields) ≡ None
  unfolding contents_from
  fine = rw (one, two, three, four) refl

  pub passes : first_of (tests_900 t fields) ≡ None
  passes = all-pass order_900 (content_test 6 t) fields found places refl whole fine

  says : booking_of order_900 t fields found ≡ Ok (booked reference related account v)
  unfolding booking_of
  says = rw (one, two, three, four) refl

  contents : contents_900 t fields found ≡ Ok (mt900 (booked reference related account v) None [])
  unfolding parts_900
  contents =
      let parts : parts_900 t fields found ≡ Ok (mt900 (booked reference related account v) None []) = rw says refl in
      sym (contents-are-900 t fields found) ∙ parts

  pub reads : mt900_of t fields ≡ Ok (mt900 (booked reference related account v) None [])
  unfolding mt900_of
  reads = rw (passes, places, contents) refl

-- ---- the fields that are sent

-- they are four: the second has the line of the received 20
four-fields : (r : Received) (fs : List Field) (reference account : List ℕ) (v : Value) (f : Field) (x : List ℕ) → r.fields ≡ fs
    → find (is_named 20 (codes " ")) fs ≡ Some f → f.lines ≡ x ∷ []
    → debit_fields r reference account v ≡ line_field 20 None reference ∷ line_field 21 None x ∷ line_field 25 None account ∷ value_field v ∷ []
unfolding debit_fields
four-fields r fs reference account v f x same found lines = rw (same, found, lines) refl

-- the notice of a debit, of a pay whose text has a reference in its first 20, under tables that hold the leg's currency
pub debit-told : (t : Tables) (chart : Chart) (pay : Pay) (place k leg : ℕ) (to : Bic) (fs : List Field) (f : Field) (x : List ℕ) (on : Moved chart pay leg)
    → InCentury pay.value → IsTabled t on.amount → fields_in pay.text ≡ fs → find (is_named 20 (codes " ")) fs ≡ Some f → reference_of f ≡ Ok x
    → place ≤ 100000 → k ≤ 255
    → (first_of (tests_900 t (order_fields chart pay place k (order.Debit to leg))) ≡ None)
    × ((advice : Mt900) × (mt900_of t (order_fields chart pay place k (order.Debit to leg)) ≡ Ok advice))
debit-told t chart pay place k leg to fs f x on day tabled same found says small few =
    let v = value_of_pay pay on.amount in
    let one = ours-read place k small few 20 in
    let two = reference-short 21 f x says in
    let short : length on.account.id ≤ 35 = omega (arith, on.formed.id_short) in
    let three = line-read 35 25 on.account.id on.formed.id_given short (c-plain on.account.id on.formed.id_plain) in
    let four = value-made t v (record { day = day; amount = on.spelled }) tabled on.above in
    let fields_are = four-fields (received_of pay) fs (ours place k) on.account.id v f x same found (reference-kept f x says) in
    rw (on.on_account, on.of_amount, fields_are) (
      passes t (ours place k) x on.account.id v one two three four,
      (mt900 (booked (ours place k) x on.account.id v) None [], reads t (ours place k) x on.account.id v one two three four),
    )

pub debit-passes : DebitPasses
debit-passes t chart pay m place k leg to came small few numbered =
    let g = given t pay m came.received in
    let on = leg-moved chart pay leg came.accounts came.fits numbered in
    let money = came.money leg on.account on.on_account in
    let tabled = like-tabled t (amount_32a m) on.amount (on.in_ccy ∙ money.ccy) (on.in_decimals ∙ money.decimals) g.tabled in
    debit-told t chart pay place k leg to _ g.field g.reference on came.shape.value tabled g.fields g.found g.says small few
