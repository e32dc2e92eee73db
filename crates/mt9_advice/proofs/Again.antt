-- An advice that was read and is written is read again.
use Rattle.std.proofs.Common.{◌≡◌, ℕ, List, [], ◌∷◌, ◌++◌, get_or, slice_get, Option, Some, None, Ok, refl, sym, ap, ◌∙◌}
use Rattle.std.specs.Prelude.{unwrap_or}
use Rattle.ref_tables.specs.Seen.{Tables}
use Rattle.fin_fields.specs.declared.field.Field.{Field}
use Rattle.fin_layout.specs.declared.place.Place.{Place}
use Rattle.fin_layout.specs.Contents.{in_option, in_place}
use Rattle.fin_layout.specs.Segments.{joined}
use Rattle.fin_layout.specs.inner.Segments.{places_of}
use Rattle.fin_parties.specs.Writing.{party_field}
use Rattle.fin_parties.specs.declared.party.Party.{Party}
use Rattle.fin_contents.specs.Money.{value_of}
use Rattle.fin_contents.specs.Parties.{known_party_of}
use Rattle.fin_contents.specs.Plain.{one_line, reference_of, short_line_of, texts_of}
use Rattle.fin_contents.specs.Writing.{IsValue, line_field, lines_field, lines_fields, some_field, value_field}
use Rattle.fin_contents.proofs.laws.Again.{reference-again, short_line-again, texts-again, value-again}
use Rattle.fin_contents.proofs.laws.Back.{lines-moved, one-moved, option-moved, some-all}
use Rattle.fin_contents.proofs.laws.Placed.{party-again-at}
use Rattle.fin_contents.proofs.laws.Said.{HoldsInPlaces, Stands}
use Rattle.fin_contents.proofs.laws.Steps.{checked, is-only, read-then, there}
use Rattle.mt9_advice.specs.Advice.{contents_900, contents_910, is_stamp, stamp_of}
use Rattle.mt9_advice.specs.inner.Parts.{booking_of, ending_of, mt900, mt910, orderers_of, parts_900, parts_910}
use Rattle.mt9_advice.specs.Writing.{booking_fields, segments_900, segments_910}
use Rattle.mt9_advice.specs.declared.booking.Booking.{Booking}
use Rattle.mt9_advice.specs.declared.credit.Ending.{Ending}
use Rattle.mt9_advice.specs.declared.credit.Mt910.{Mt910}
use Rattle.mt9_advice.specs.declared.credit.Orderers.{Orderers}
use Rattle.mt9_advice.specs.declared.debit.Mt900.{Mt900}
use Rattle.mt9_advice.specs.Order.{order_900, order_910}
use Rattle.mt9_advice.proofs.laws.Parts.{contents-are-900, contents-are-910}

-- ---- 13D

pub stamp-kept : (f : Field) (x : List ℕ) → stamp_of f ≡ Ok x → f.lines ≡ x ∷ []
unfolding stamp_of
stamp-kept f x e =
    let line = there (one_line f) _ _ x e in
    let is = checked (is_stamp line.0) _ _ x line.2 in
    let same : line.0 ≡ x = cc is.1 in
    is-only f.lines line.0 line.1 ∙ ap (λ (y : List ℕ). y ∷ []) same

stamp-again : (f : Field) (x : List ℕ) → stamp_of f ≡ Ok x → stamp_of (line_field 13 (Some 68) x) ≡ Ok x
unfolding stamp_of
stamp-again f x e = ap (λ (ls : List (List ℕ)). stamp_of (lines_field 13 (Some 68) ls)) (sym (stamp-kept f x e)) ∙ e

-- ---- what the fields of an advice say

-- 20, 21, 25, 13D and 32A say so
pub record SaysBooking (order : List Place) (t : Tables) (fs : List Field) (found : List ℕ) (b : Booking) : Type 0 where
  pub reference : in_place order fs found 0 reference_of ≡ Ok b.reference
  pub related : in_place order fs found 1 (short_line_of 16) ≡ Ok b.related
  pub account : in_place order fs found 2 (short_line_of 35) ≡ Ok b.account
  pub at : in_option fs found 3 stamp_of ≡ Ok b.at
  pub value : in_place order fs found 4 (value_of t) ≡ Ok b.value

booking-said : (order : List Place) (t : Tables) (fs : List Field) (found : List ℕ) (b : Booking) → booking_of order t fs found ≡ Ok b
    → SaysBooking order t fs found b
unfolding booking_of
booking-said order t fs found b e =
    let one = read-then (in_place order fs found 0 reference_of) _ b e in
    let two = read-then (in_place order fs found 1 (short_line_of 16)) _ b one.2 in
    let three = read-then (in_place order fs found 2 (short_line_of 35)) _ b two.2 in
    let four = read-then (in_option fs found 3 stamp_of) _ b three.2 in
    let five = read-then (in_place order fs found 4 (value_of t)) _ b four.2 in
    let same : record { reference = one.0; related = two.0; account = three.0; at = four.0; value = five.0 } ≡ b = cc five.2 in
    rw (← same) (record { reference = one.1; related = two.1; account = three.1; at = four.1; value = five.1 })

booking-says : (order : List Place) (t : Tables) (fs : List Field) (found : List ℕ) (b : Booking) → SaysBooking order t fs found b
    → booking_of order t fs found ≡ Ok b
unfolding booking_of
booking-says order t fs found b s = rw (s.reference, s.related, s.account, s.at, s.value) refl

abbrev pub booking_900 : Mt900 → Booking
booking_900 m = record {
  reference = m.reference;
  related = m.related;
  account = m.account;
  at = m.at;
  value = record { day = m.value; amount = m.amount };
}

abbrev pub booking_910 : Mt910 → Booking
booking_910 m = record {
  reference = m.reference;
  related = m.related;
  account = m.account;
  at = m.at;
  value = record { day = m.value; amount = m.amount };
}

-- the fields of an MT900 say so
pub record Says900 (t : Tables) (fs : List Field) (found : List ℕ) (m : Mt900) : Type 0 where
  pub booking : SaysBooking order_900 t fs found (booking_900 m)
  pub p52 : in_option fs found 5 (known_party_of t) ≡ Ok m.p52
  pub lines : Option (List (List ℕ))
  pub notes : in_option fs found 6 (texts_of 6) ≡ Ok lines
  pub same : unwrap_or lines [] ≡ m.notes

pub said-900 : (t : Tables) (fs : List Field) (found : List ℕ) (m : Mt900) → contents_900 t fs found ≡ Ok m → Says900 t fs found m
unfolding parts_900
said-900 t fs found m e =
    let parts : parts_900 t fs found ≡ Ok m = contents-are-900 t fs found ∙ e in
    let one = read-then (booking_of order_900 t fs found) _ m parts in
    let two = read-then (in_option fs found 5 (known_party_of t)) _ m one.2 in
    let three = read-then (in_option fs found 6 (texts_of 6)) _ m two.2 in
    let same : mt900 one.0 two.0 (unwrap_or three.0 []) ≡ m = cc three.2 in
    rw (← same) (record { booking = booking-said order_900 t fs found one.0 one.1; p52 = two.1; lines = three.0; notes = three.1; same = refl })

pub says-900 : (t : Tables) (fs : List Field) (found : List ℕ) (m : Mt900) → Says900 t fs found m → contents_900 t fs found ≡ Ok m
unfolding parts_900
says-900 t fs found m s =
    let booking = booking-says order_900 t fs found (booking_900 m) s.booking in
    let parts : parts_900 t fs found ≡ Ok m = rw (booking, s.p52, s.notes, s.same) refl in
    sym (contents-are-900 t fs found) ∙ parts

-- the fields of an MT910 say so
pub record Says910 (t : Tables) (fs : List Field) (found : List ℕ) (m : Mt910) : Type 0 where
  pub booking : SaysBooking order_910 t fs found (booking_910 m)
  pub payer : in_option fs found 5 (known_party_of t) ≡ Ok m.payer
  pub p52 : in_option fs found 6 (known_party_of t) ≡ Ok m.p52
  pub p56 : in_option fs found 7 (known_party_of t) ≡ Ok m.p56
  pub lines : Option (List (List ℕ))
  pub notes : in_option fs found 8 (texts_of 6) ≡ Ok lines
  pub same : unwrap_or lines [] ≡ m.notes

orderers-said : (t : Tables) (fs : List Field) (found : List ℕ) (o : Orderers) → orderers_of t fs found ≡ Ok o
    → (in_option fs found 5 (known_party_of t) ≡ Ok o.payer) × (in_option fs found 6 (known_party_of t) ≡ Ok o.p52)
unfolding orderers_of
orderers-said t fs found o e =
    let one = read-then (in_option fs found 5 (known_party_of t)) _ o e in
    let two = read-then (in_option fs found 6 (known_party_of t)) _ o one.2 in
    let same : record { payer = one.0; p52 = two.0 } ≡ o = cc two.2 in
    rw (← same) (one.1, two.1)

ending-said : (t : Tables) (fs : List Field) (found : List ℕ) (x : Ending) → ending_of t fs found ≡ Ok x
    → (in_option fs found 7 (known_party_of t) ≡ Ok x.p56)
    × (lines : Option (List (List ℕ))) × (in_option fs found 8 (texts_of 6) ≡ Ok lines) × (unwrap_or lines [] ≡ x.notes)
unfolding ending_of
ending-said t fs found x e =
    let one = read-then (in_option fs found 7 (known_party_of t)) _ x e in
    let two = read-then (in_option fs found 8 (texts_of 6)) _ x one.2 in
    let same : record { p56 = one.0; notes = unwrap_or two.0 [] } ≡ x = cc two.2 in
    rw (← same) (one.1, two.0, two.1, refl)

pub said-910 : (t : Tables) (fs : List Field) (found : List ℕ) (m : Mt910) → contents_910 t fs found ≡ Ok m → Says910 t fs found m
unfolding parts_910
said-910 t fs found m e =
    let parts : parts_910 t fs found ≡ Ok m = contents-are-910 t fs found ∙ e in
    let one = read-then (booking_of order_910 t fs found) _ m parts in
    let two = read-then (orderers_of t fs found) _ m one.2 in
    let three = read-then (ending_of t fs found) _ m two.2 in
    let orderers = orderers-said t fs found two.0 two.1 in
    let (p56, lines, notes, lines-same) = ending-said t fs found three.0 three.1 in
    let same : mt910 one.0 two.0.payer two.0.p52 three.0.p56 three.0.notes ≡ m = cc three.2 in
    rw (← same)
    (record {
      booking = booking-said order_910 t fs found one.0 one.1;
      payer = orderers.0;
      p52 = orderers.1;
      p56 = p56;
      lines = lines;
      notes = notes;
      same = lines-same;
    })

pub says-910 : (t : Tables) (fs : List Field) (found : List ℕ) (m : Mt910) → Says910 t fs found m → contents_910 t fs found ≡ Ok m
unfolding parts_910 orderers_of ending_of
says-910 t fs found m s =
    let booking = booking-says order_910 t fs found (booking_910 m) s.booking in
    let parts : parts_910 t fs found ≡ Ok m = rw (booking, s.payer, s.p52, s.p56, s.notes, s.same) refl in
    sym (contents-are-910 t fs found) ∙ parts

-- ---- and so do the fields that it is written as

module _ (order : List Place) (t : Tables) (fs : List Field) (found : List ℕ) (h : HoldsInPlaces (Stands order (λ _. Unit {0})) found fs) where
  booking-moved : (b : Booking) (more : List (List Field)) → IsValue b.value → SaysBooking order t fs found b
      → SaysBooking order t (joined (booking_fields b.reference b.related b.account b.at b.value ++ more))
      (places_of 0 (booking_fields b.reference b.related b.account b.at b.value ++ more)) b
  booking-moved b more is s =
      let segs = booking_fields b.reference b.related b.account b.at b.value ++ more in
      record {
        reference = one-moved (Stands order (λ _. Unit {0})) fs found h segs 0 order reference_of (line_field 20 None) b.reference
            (λ f _ e. reference-again 20 None f b.reference e) refl s.reference;
        related = one-moved (Stands order (λ _. Unit {0})) fs found h segs 1 order (short_line_of 16) (line_field 21 None) b.related
            (λ f _ e. short_line-again 16 21 None f b.related e) refl s.related;
        account = one-moved (Stands order (λ _. Unit {0})) fs found h segs 2 order (short_line_of 35) (line_field 25 None) b.account
            (λ f _ e. short_line-again 35 25 None f b.account e) refl s.account;
        at = option-moved (Stands order (λ _. Unit {0})) fs found h segs 3 stamp_of (line_field 13 (Some 68)) b.at
            (some-all _ b.at (λ x f _ e. stamp-again f x e)) refl s.at;
        value = one-moved (Stands order (λ _. Unit {0})) fs found h segs 4 order (value_of t) value_field b.value
            (λ f _ e. value-again t f b.value is e) refl s.value;
      }

  party-moved : (segs : List (List Field)) (k tag : ℕ) (d : Place) (o : Option Party) → (get_or order k d).tag ≡ tag
      → slice_get segs k ≡ Some (some_field (party_field tag) o) → in_option fs found k (known_party_of t) ≡ Ok o
      → in_option (joined segs) (places_of 0 segs) k (known_party_of t) ≡ Ok o
  party-moved segs k tag d o at seg e =
      option-moved (Stands order (λ _. Unit {0})) fs found h segs k (known_party_of t) (party_field tag) o
      (some-all _ o (λ p. party-again-at order (λ _. Unit {0}) k tag d at t p)) seg e

pub moved-900 : (t : Tables) (fs : List Field) (found : List ℕ) (d : Place) (m : Mt900) → HoldsInPlaces (Stands order_900 (λ _. Unit {0})) found fs
    → IsValue (record { day = m.value; amount = m.amount }) → Says900 t fs found m
    → Says900 t (joined (segments_900 m)) (places_of 0 (segments_900 m)) m
moved-900 t fs found d m h is s =
    let segs = segments_900 m in
    let notes =
    lines-moved (Stands order_900 (λ _. Unit {0})) fs found h segs 6 72 None (texts_of 6) s.lines (λ lines f _ e. texts-again 6 72 None f lines e)
    (rw (s.same) refl) s.notes in
    record {
      booking = booking-moved order_900 t fs found h (booking_900 m) (some_field (party_field 52) m.p52 ∷ lines_fields 72 None m.notes ∷ []) is s.booking;
      p52 = party-moved order_900 t fs found h segs 5 52 d m.p52 refl refl s.p52;
      lines = notes.0;
      notes = notes.1;
      same = notes.2 ∙ s.same;
    }

pub moved-910 : (t : Tables) (fs : List Field) (found : List ℕ) (d : Place) (m : Mt910) → HoldsInPlaces (Stands order_910 (λ _. Unit {0})) found fs
    → IsValue (record { day = m.value; amount = m.amount }) → Says910 t fs found m
    → Says910 t (joined (segments_910 m)) (places_of 0 (segments_910 m)) m
moved-910 t fs found d m h is s =
    let segs = segments_910 m in
    let notes =
    lines-moved (Stands order_910 (λ _. Unit {0})) fs found h segs 8 72 None (texts_of 6) s.lines (λ lines f _ e. texts-again 6 72 None f lines e)
    (rw (s.same) refl) s.notes in
    record {
      booking = booking-moved order_910 t fs found h (booking_910 m)
          (some_field (party_field 50) m.payer ∷ some_field (party_field 52) m.p52 ∷ some_field (party_field 56) m.p56 ∷ lines_fields 72 None m.notes ∷ [])
          is s.booking;
      payer = party-moved order_910 t fs found h segs 5 50 d m.payer refl refl s.payer;
      p52 = party-moved order_910 t fs found h segs 6 52 d m.p52 refl refl s.p52;
      p56 = party-moved order_910 t fs found h segs 7 56 d m.p56 refl refl s.p56;
      lines = notes.0;
      notes = notes.1;
      same = notes.2 ∙ s.same;
    }
