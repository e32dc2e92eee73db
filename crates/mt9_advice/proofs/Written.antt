-- The fields that an advice is written as stand in its order, may stand in a text, and say the advice.
use Rattle.std.proofs.Common.{◌≡◌, ℕ, ◌+◌, ◌≤◌, ◌==◌, not, true, List, [], ◌∷◌, ◌++◌, length, drop, get_or, Option, Some, None, Result, Ok, Err, refl, sym, ap, ◌∙◌, arith, inl, inr}
use Rattle.std.specs.Prelude.{IfOk, IfSome, IsTrue, unwrap_or}
use Rattle.std.specs.List.{All, AllByRecursion, list_all}
use Rattle.corr_text.specs.First.{first_of}
use Rattle.corr_text.specs.declared.fault.Code.{Code}
use Rattle.corr_text.specs.declared.fault.Fault.{Fault}
use Rattle.ref_tables.specs.Seen.{Tables, few_decimals}
use Rattle.fin_fields.specs.declared.field.Field.{Field}
use Rattle.fin_fields.specs.Fields.{fields_of}
use Rattle.fin_fields.specs.Writing.{IsField, fields_text}
use Rattle.fin_layout.specs.declared.place.Place.{Place}
use Rattle.fin_layout.specs.Contents.{in_option}
use Rattle.fin_layout.specs.Order.{fits, missing_from, places_from}
use Rattle.fin_layout.specs.Segments.{joined}
use Rattle.fin_layout.specs.inner.Segments.{IsFirst, Segment, Segments, places_of}
use Rattle.fin_layout.specs.Tests.{passed}
use Rattle.fin_layout.proofs.laws.FoundField.{grouped-taken}
use Rattle.fin_layout.proofs.laws.Passed.{passed-none}
use Rattle.fin_layout.proofs.laws.PlaceByPlace.{Placed, ◌▸◌, no-more}
use Rattle.fin_layout.proofs.laws.Grouped.{grouped-places, grouped-structure}
use Rattle.fin_parties.specs.Writing.{party_field}
use Rattle.fin_parties.specs.declared.party.Party.{Party}
use Rattle.fin_contents.specs.Money.{value_of}
use Rattle.fin_contents.specs.Parties.{known_party_of}
use Rattle.fin_contents.specs.Plain.{reference_of, short_line_of, texts_of}
use Rattle.fin_contents.specs.Writing.{IsHeading, IsReadable, IsValue, line_field, lines_fields, some_field, value_field}
use Rattle.fin_contents.proofs.laws.Again.{reference-kept, short_line-kept, texts-kept, value-is}
use Rattle.fin_contents.proofs.laws.Back.{some-all, some-weaker}
use Rattle.fin_contents.proofs.laws.Fit.{kept-fit, value-fit}
use Rattle.fin_contents.proofs.laws.Placed.{Each, each-joined, first-of-tag, lines-each, lines-segment, one-segment, party-fit-at, party-fits-at, some-each, some-segment}
use Rattle.fin_contents.proofs.laws.Said.{HoldsInPlaces, Said, Stands, said-one, said-option, stand}
use Rattle.fin_contents.proofs.laws.Steps.{read-then}
use Rattle.mt9_advice.specs.Advice.{c06, contents_900, contents_910, mt900_of, mt910_of, stamp_of, tests_900, tests_910}
use Rattle.mt9_advice.specs.Writing.{booking_fields, fields_900, fields_910, segments_900, segments_910}
use Rattle.mt9_advice.specs.declared.booking.Booking.{Booking}
use Rattle.mt9_advice.specs.declared.credit.Mt910.{Mt910}
use Rattle.mt9_advice.specs.declared.debit.Mt900.{Mt900}
use Rattle.mt9_advice.specs.Order.{order_900, order_910}
use Rattle.mt9_advice.proofs.Rows.{row_13, row_20, row_21, row_25, row_32, row_50, row_52, row_56, row_72}
use Rattle.mt9_advice.proofs.Again.{SaysBooking, booking_900, booking_910, moved-900, moved-910, said-900, said-910, says-900, says-910, stamp-kept}
use Rattle.mt9_advice.proofs.Outcome.{as-contents-900, rule-holds}
use Rattle.mt9_advice.proofs.Refused.{begun}

abbrev written : Booking → List (List Field) → List (List Field)
written b more = booking_fields b.reference b.related b.account b.at b.value ++ more

-- ---- each in its place

-- the fields of a booking, before those of the places from the sixth on
booking-placed : (rest : List Place) (b : Booking) (more : List (List Field)) → Placed (begun rest) 0 5 more → Placed (begun rest) 0 0 (written b more)
booking-placed rest b more later =
    let order = begun rest in
    let after_25 = row_13 ∷ row_32 ∷ rest in
    let reference = first-of-tag order 0 [] row_20 (row_21 ∷ row_25 ∷ after_25) (line_field 20 None b.reference) refl refl refl in
    let related = first-of-tag order 0 (row_20 ∷ []) row_21 (row_25 ∷ after_25) (line_field 21 None b.related) refl refl refl in
    let account = first-of-tag order 0 (row_20 ∷ row_21 ∷ []) row_25 after_25 (line_field 25 None b.account) refl refl refl in
    let value = first-of-tag order 0 (row_20 ∷ row_21 ∷ row_25 ∷ row_13 ∷ []) row_32 rest (value_field b.value) refl refl refl in
    one-segment order 0 0 (line_field 20 None b.reference) reference
    ▸ one-segment order 0 1 (line_field 21 None b.related) related
    ▸ one-segment order 0 2 (line_field 25 None b.account) account
    ▸ some-segment order 0 3 (line_field 13 (Some 68)) b.at (some-all _ b.at stamp)
    ▸ one-segment order 0 4 (value_field b.value) value
    ▸ later
  where
    stamp : (x : List ℕ) → IsFirst (begun rest) 0 3 (line_field 13 (Some 68) x)
    stamp x = first-of-tag (begun rest) 0 (row_20 ∷ row_21 ∷ row_25 ∷ []) row_13 (row_32 ∷ rest) (line_field 13 (Some 68) x) refl refl refl

booking-there : (rest : List Place) (b : Booking) (more : List (List Field))
    → missing_from 0 (begun rest) (places_of 0 (written b more)) ≡ missing_from 5 rest (places_of 0 (written b more))
unfolding missing_from
booking-there rest b more = rw (grouped-taken (written b more) 0 4 (value_field b.value) [] refl) refl

-- a party's field fits its place
abbrev Fits : Place → ℕ → Option Party → Type 0
Fits place tag o = IfSome o (λ p. fits place (party_field tag p) ≡ true)

-- a party's field that fits its place, which others may stand before
party-placed : (order before : List Place) (place : Place) (after : List Place) (k tag : ℕ) (o : Option Party) → drop 0 order ≡ before ++ place ∷ after
    → list_all (λ q. not (q.tag == tag)) before ≡ true → 0 + length before ≡ k → Fits place tag o → Segment order 0 k (some_field (party_field tag) o)
party-placed order before place after k tag o is far here fit =
    some-segment order 0 k (party_field tag) o
    (some-weaker _ _ o fit (λ p e. first-of-tag order 0 before place after (party_field tag p) is far e ∙ ap Some here))

placed-900 : (m : Mt900) → Fits row_52 52 m.p52 → Segments order_900 0 0 (segments_900 m)
placed-900 m p52 =
    (booking-placed (row_52 ∷ row_72 ∷ []) (booking_900 m) (some_field (party_field 52) m.p52 ∷ lines_fields 72 None m.notes ∷ []) later).in_turn
  where
    later : Placed order_900 0 5 (some_field (party_field 52) m.p52 ∷ lines_fields 72 None m.notes ∷ [])
    later =
        party-placed order_900 (begun []) row_52 (row_72 ∷ []) 5 52 m.p52 refl refl refl p52
        ▸ lines-segment order_900 0 6 72 None m.notes refl
        ▸ no-more order_900 0 7

-- the fields of an MT910 after its booking
abbrev others_910 : Mt910 → List (List Field)
others_910 m =
    some_field (party_field 50) m.payer ∷ some_field (party_field 52) m.p52 ∷ some_field (party_field 56) m.p56 ∷ lines_fields 72 None m.notes ∷ []

placed-910 : (m : Mt910) → Fits row_50 50 m.payer → Fits row_52 52 m.p52 → Fits row_56 56 m.p56 → Segments order_910 0 0 (segments_910 m)
placed-910 m payer p52 p56 = (booking-placed (row_50 ∷ row_52 ∷ row_56 ∷ row_72 ∷ []) (booking_910 m) (others_910 m) later).in_turn
  where
    later : Placed order_910 0 5 (others_910 m)
    later =
        party-placed order_910 (begun []) row_50 (row_52 ∷ row_56 ∷ row_72 ∷ []) 5 50 m.payer refl refl refl payer
        ▸ party-placed order_910 (begun (row_50 ∷ [])) row_52 (row_56 ∷ row_72 ∷ []) 6 52 m.p52 refl refl refl p52
        ▸ party-placed order_910 (begun (row_50 ∷ row_52 ∷ [])) row_56 (row_72 ∷ []) 7 56 m.p56 refl refl refl p56
        ▸ lines-segment order_910 0 8 72 None m.notes refl
        ▸ no-more order_910 0 9

there-900 : (m : Mt900) → missing_from 0 order_900 (places_of 0 (segments_900 m)) ≡ None
unfolding missing_from
there-900 m = booking-there (row_52 ∷ row_72 ∷ []) (booking_900 m) (some_field (party_field 52) m.p52 ∷ lines_fields 72 None m.notes ∷ [])

there-910 : (m : Mt910) → missing_from 0 order_910 (places_of 0 (segments_910 m)) ≡ None
unfolding missing_from
there-910 m =
    booking-there (row_50 ∷ row_52 ∷ row_56 ∷ row_72 ∷ []) (booking_910 m) (others_910 m)

-- ---- from the fields that were read

-- the party at a place fits it
party-fits : (order : List Place) (P : Field → Type 0) (t : Tables) (fs : List Field) (found : List ℕ) (k tag : ℕ) (d : Place) (o : Option Party)
    → (get_or order k d).tag ≡ tag → HoldsInPlaces (Stands order P) found fs → in_option fs found k (known_party_of t) ≡ Ok o → Fits (get_or order k d) tag o
party-fits order P t fs found k tag d o at h e =
    some-weaker _ _ o (said-option (Stands order P) fs k (known_party_of t) found o h e) (λ p s. party-fits-at order P k tag d at t p s)

any : (fs : List Field) → All (λ _. Unit {0}) fs
any fs = λ k d lt. tt

stand-any : (order : List Place) (fs : List Field) → HoldsInPlaces (Stands order (λ _. Unit {0})) (places_from order 0 fs) fs
stand-any order fs = stand order (λ _. Unit {0}) 0 fs (any fs)

-- what an MT900 says and is written as is read again
again-so-900 : (t : Tables) (fs : List Field) (m : Mt900) → IsValue (record { day = m.value; amount = m.amount })
    → contents_900 t fs (places_from order_900 0 fs) ≡ Ok m → mt900_of t (joined (segments_900 m)) ≡ Ok m
again-so-900 t fs m is e =
    let h = stand-any order_900 fs in
    let s = said-900 t fs (places_from order_900 0 fs) m e in
    let placed = placed-900 m (party-fits order_900 (λ _. Unit {0}) t fs (places_from order_900 0 fs) 5 52 row_72 m.p52 refl h s.p52) in
    let sound = grouped-structure order_900 row_72 (segments_900 m) placed (there-900 m) in
    let places = grouped-places order_900 row_72 0 0 0 (segments_900 m) (omega arith) (omega arith) placed in
    let says = says-900 t (joined (segments_900 m)) (places_of 0 (segments_900 m)) m (moved-900 t fs (places_from order_900 0 fs) row_72 m h is s) in
    as-contents-900 t (joined (segments_900 m)) sound ∙ rw places says

again-so-910 : (t : Tables) (fs : List Field) (m : Mt910) → IsValue (record { day = m.value; amount = m.amount })
    → contents_910 t fs (places_from order_910 0 fs) ≡ Ok m → c06 m ≡ None → mt910_of t (joined (segments_910 m)) ≡ Ok m
again-so-910 t fs m is e rule =
    let h = stand-any order_910 fs in
    let s = said-910 t fs (places_from order_910 0 fs) m e in
    let payer = party-fits order_910 (λ _. Unit {0}) t fs (places_from order_910 0 fs) 5 50 row_72 m.payer refl h s.payer in
    let p52 = party-fits order_910 (λ _. Unit {0}) t fs (places_from order_910 0 fs) 6 52 row_72 m.p52 refl h s.p52 in
    let p56 = party-fits order_910 (λ _. Unit {0}) t fs (places_from order_910 0 fs) 7 56 row_72 m.p56 refl h s.p56 in
    let placed = placed-910 m payer p52 p56 in
    let sound = grouped-structure order_910 row_72 (segments_910 m) placed (there-910 m) in
    let places = grouped-places order_910 row_72 0 0 0 (segments_910 m) (omega arith) (omega arith) placed in
    let says = says-910 t (joined (segments_910 m)) (places_of 0 (segments_910 m)) m (moved-910 t fs (places_from order_910 0 fs) row_72 m h is s) in
    rule-holds t (joined (segments_910 m)) (places_of 0 (segments_910 m)) sound (sym places) m says rule

-- ---- what was read is what the contents say

pub contents-of-900 : (t : Tables) (fs : List Field) (m : Mt900) → mt900_of t fs ≡ Ok m → contents_900 t fs (places_from order_900 0 fs) ≡ Ok m
unfolding mt900_of
contents-of-900 t fs m e = (read-then (passed (tests_900 t fs)) _ m e).2

passes : (o : Option Fault) → first_of (o ∷ []) ≡ None → o ≡ None
passes None e = refl
passes (Some fault) e = absurd (cc e)

pub contents-of-910 : (t : Tables) (fs : List Field) (m : Mt910) → mt910_of t fs ≡ Ok m
    → (contents_910 t fs (places_from order_910 0 fs) ≡ Ok m) × (c06 m ≡ None)
unfolding mt910_of
contents-of-910 t fs m e =
    let one = read-then (passed (tests_910 t fs)) _ m e in
    let two = read-then (contents_910 t fs (places_from order_910 0 fs)) _ m one.2 in
    let three = read-then (passed (c06 two.0 ∷ [])) _ m two.2 in
    let same : two.0 ≡ m = cc three.2 in
    (two.1 ∙ ap Ok same, rw (← same) (passes (c06 two.0) (passed-none (c06 two.0 ∷ []) three.0 three.1)))

-- ---- it can be written

booking-value : (order : List Place) (t : Tables) (fs : List Field) (b : Booking) → IsTrue (few_decimals t.ccys)
    → SaysBooking order t fs (places_from order 0 fs) b → IsValue b.value
booking-value order t fs b few s =
    let v = said-one (Stands order (λ _. Unit {0})) fs 4 (value_of t) order (places_from order 0 fs) b.value (stand-any order fs) s.value in
    value-is t v.field b.value few v.says

pub value-900 : (m : Mt900) → IsReadable mt900_of m → IsValue (record { day = m.value; amount = m.amount })
value-900 m r =
    booking-value order_900 r.tables r.fields (booking_900 m) r.few
    (said-900 r.tables r.fields (places_from order_900 0 r.fields) m (contents-of-900 r.tables r.fields m r.says)).booking

pub value-910 : (m : Mt910) → IsReadable mt910_of m → IsValue (record { day = m.value; amount = m.amount })
value-910 m r =
    booking-value order_910 r.tables r.fields (booking_910 m) r.few
    (said-910 r.tables r.fields (places_from order_910 0 r.fields) m (contents-of-910 r.tables r.fields m r.says).0).booking

pub again-900 : (t : Tables) (fs : List Field) (m : Mt900) → IsReadable mt900_of m → mt900_of t fs ≡ Ok m → mt900_of t (fields_900 m) ≡ Ok m
unfolding fields_900
again-900 t fs m r e = again-so-900 t fs m (value-900 m r) (contents-of-900 t fs m e)

pub again-910 : (t : Tables) (fs : List Field) (m : Mt910) → IsReadable mt910_of m → mt910_of t fs ≡ Ok m → mt910_of t (fields_910 m) ≡ Ok m
unfolding fields_910
again-910 t fs m r e = let c = contents-of-910 t fs m e in again-so-910 t fs m (value-910 m r) c.0 c.1

-- a text that is written of these fields reads as what they say
reads-back : {M E : Type 0} (read : Tables → List Field → Result M Fault) (m : M) (written : Result (List ℕ) E) (fields : List Field)
    → IfOk written (λ text. text ≡ fields_text fields) → fields_of (fields_text fields) ≡ fields
    → ((t : Tables) (fs : List Field) → read t fs ≡ Ok m → read t fields ≡ Ok m)
    → IfOk written (λ text. (t : Tables) (fs : List Field) → read t fs ≡ Ok m → read t (fields_of text) ≡ Ok m)
reads-back read m (Err e) fields text back again = tt
reads-back read m (Ok text) fields is back again = λ t fs e. rw (is, back) (again t fs e)

pub text-900 : {E : Type 0} (m : Mt900) (written : Result (List ℕ) E) (fields : List Field) → IsReadable mt900_of m → fields ≡ fields_900 m
    → IfOk written (λ text. text ≡ fields_text fields) → fields_of (fields_text fields) ≡ fields
    → IfOk written (λ text. (t : Tables) (fs : List Field) → mt900_of t fs ≡ Ok m → mt900_of t (fields_of text) ≡ Ok m)
text-900 m written fields r same text back = reads-back mt900_of m written fields text back (λ t fs e. rw same (again-900 t fs m r e))

pub text-910 : {E : Type 0} (m : Mt910) (written : Result (List ℕ) E) (fields : List Field) → IsReadable mt910_of m → fields ≡ fields_910 m
    → IfOk written (λ text. text ≡ fields_text fields) → fields_of (fields_text fields) ≡ fields
    → IfOk written (λ text. (t : Tables) (fs : List Field) → mt910_of t fs ≡ Ok m → mt910_of t (fields_of text) ≡ Ok m)
text-910 m written fields r same text back = reads-back mt910_of m written fields text back (λ t fs e. rw same (again-910 t fs m r e))

pub some-900 : (m : Mt900) → fields_900 m ≡ [] → ⊥
unfolding fields_900
some-900 m e = absurd (cc e)

pub some-910 : (m : Mt910) → fields_910 m ≡ [] → ⊥
unfolding fields_910
some-910 m e = absurd (cc e)

-- ---- it may stand in a text

module _ (order : List Place) (t : Tables) (fs : List Field) (found : List ℕ) (h : HoldsInPlaces (Stands order IsField) found fs) where
  -- a line of a booking that was read may stand in a text
  line-fit : (k tag : ℕ) (letter : Option ℕ) (read : Field → Result (List ℕ) Code) (x : List ℕ) → IsHeading tag letter
      → ((f : Field) → read f ≡ Ok x → f.lines ≡ x ∷ []) → Said (Stands order IsField k) read x → IsField (line_field tag letter x)
  line-fit k tag letter read x head keeps s = kept-fit tag letter s.field (x ∷ []) head (keeps s.field s.says) s.holds.has

  booking-fit : (b : Booking) (more : List (List Field)) → IsValue b.value → SaysBooking order t fs found b → Each IsField more
      → Each IsField (written b more)
  booking-fit b more is s later =
      let plain : (tag : ℕ) → tag ≤ 99 → IsHeading tag None = λ tag le. record { two_digits = le; capital = tt } in
      let reference = said-one (Stands order IsField) fs 0 reference_of order found b.reference h s.reference in
      let related = said-one (Stands order IsField) fs 1 (short_line_of 16) order found b.related h s.related in
      let account = said-one (Stands order IsField) fs 2 (short_line_of 35) order found b.account h s.account in
      let value = said-one (Stands order IsField) fs 4 (value_of t) order found b.value h s.value in
      let f20 = line-fit 0 20 None reference_of b.reference (plain 20 (omega arith)) (λ f e. reference-kept f b.reference e) reference in
      let f21 = line-fit 1 21 None (short_line_of 16) b.related (plain 21 (omega arith)) (λ f e. short_line-kept 16 f b.related e) related in
      let f25 = line-fit 2 25 None (short_line_of 35) b.account (plain 25 (omega arith)) (λ f e. short_line-kept 35 f b.account e) account in
      let f32 = value-fit t value.field b.value is value.says in
      ((f20, tt), ((f21, tt), ((f25, tt), (stamp-fit b.at s.at, ((f32, tt), later)))))
    where
      stamp-fit : (o : Option (List ℕ)) → in_option fs found 3 stamp_of ≡ Ok o → AllByRecursion IsField (some_field (line_field 13 (Some 68)) o)
      stamp-fit o e =
          let head : IsHeading 13 (Some 68) = record { two_digits = omega arith; capital = refl } in
          let said = said-option (Stands order IsField) fs 3 stamp_of found o h e in
          some-each IsField (line_field 13 (Some 68)) o
          (some-weaker _ _ o said (λ x r. line-fit 3 13 (Some 68) stamp_of x head (λ f q. stamp-kept f x q) r))

  parties-fit : (k tag : ℕ) (d : Place) (o : Option Party) → (get_or order k d).tag ≡ tag → in_option fs found k (known_party_of t) ≡ Ok o
      → AllByRecursion IsField (some_field (party_field tag) o)
  parties-fit k tag d o at e =
      some-each IsField (party_field tag) o
      (some-weaker _ _ o (said-option (Stands order IsField) fs k (known_party_of t) found o h e)
      (λ p s. party-fit-at order IsField k tag d at t p (λ f is. is) s))

  notes-fit : (k : ℕ) (o : Option (List (List ℕ))) (notes : List (List ℕ)) → unwrap_or o [] ≡ notes → in_option fs found k (texts_of 6) ≡ Ok o
      → AllByRecursion IsField (lines_fields 72 None notes)
  notes-fit k None notes same e = lines-each IsField 72 None notes (inl (sym same))
  notes-fit k (Some lines) notes same e =
      let s = said-option (Stands order IsField) fs k (texts_of 6) found (Some lines) h e in
      let fit = kept-fit 72 None s.field lines (record { two_digits = omega arith; capital = tt }) (texts-kept 6 s.field lines s.says) s.holds.has in
      rw (← same) (lines-each IsField 72 None lines (inr fit))

pub fit-900 : (m : Mt900) → IsReadable mt900_of m → All IsField (fields_900 m)
unfolding fields_900
fit-900 m r =
    let found = places_from order_900 0 r.fields in
    let h = stand order_900 IsField 0 r.fields r.fit in
    let s = said-900 r.tables r.fields found m (contents-of-900 r.tables r.fields m r.says) in
    let p52 = parties-fit order_900 r.tables r.fields found h 5 52 row_72 m.p52 refl s.p52 in
    let notes = notes-fit order_900 r.tables r.fields found h 6 s.lines m.notes s.same s.notes in
    each-joined IsField (segments_900 m)
    (booking-fit order_900 r.tables r.fields found h (booking_900 m) (some_field (party_field 52) m.p52 ∷ lines_fields 72 None m.notes ∷ [])
    (value-900 m r) s.booking (p52, (notes, tt)))

pub fit-910 : (m : Mt910) → IsReadable mt910_of m → All IsField (fields_910 m)
unfolding fields_910
fit-910 m r =
    let found = places_from order_910 0 r.fields in
    let h = stand order_910 IsField 0 r.fields r.fit in
    let s = said-910 r.tables r.fields found m (contents-of-910 r.tables r.fields m r.says).0 in
    let payer = parties-fit order_910 r.tables r.fields found h 5 50 row_72 m.payer refl s.payer in
    let p52 = parties-fit order_910 r.tables r.fields found h 6 52 row_72 m.p52 refl s.p52 in
    let p56 = parties-fit order_910 r.tables r.fields found h 7 56 row_72 m.p56 refl s.p56 in
    let notes = notes-fit order_910 r.tables r.fields found h 8 s.lines m.notes s.same s.notes in
    each-joined IsField (segments_910 m)
    (booking-fit order_910 r.tables r.fields found h (booking_910 m) (others_910 m) (value-910 m r) s.booking (payer, (p52, (p56, (notes, tt)))))

-- ---- who writes what was read knows that it may

-- what fields of a text say may be written
pub readable : {M : Type 0} (read : Tables → List Field → Result M Fault) (t : Tables) (fields shown : List Field) (m : M)
    → IsTrue (few_decimals t.ccys) → All IsField fields → shown ≡ fields → read t shown ≡ Ok m → IsReadable read m
readable read t fields shown m few fit same says = record { tables = t; few = few; fields = fields; fit = fit; says = rw (← same) says }
