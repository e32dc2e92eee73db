-- A cover that was read is written in the order of its places, and each place is read again.
use Rattle.std.proofs.Common.{◌≡◌, ℕ, ◌==◌, false, true, List, [], ◌∷◌, get_or, drop, slice_get, Option, Some, None, Ok, refl, sym, ap, ◌∙◌, arith}
use Rattle.std.specs.Prelude.{unwrap_or}
use Rattle.std.specs.List.{list_any}
use Rattle.ref_tables.specs.Seen.{Tables}
use Rattle.fin_fields.specs.declared.field.Field.{Field}
use Rattle.fin_layout.specs.declared.place.Place.{Place}
use Rattle.fin_layout.specs.Contents.{all_from, in_option, in_place}
use Rattle.fin_layout.specs.Order.{missing_from}
use Rattle.fin_layout.specs.Segments.{joined}
use Rattle.fin_layout.specs.inner.Segments.{Segments, places_of}
use Rattle.fin_layout.proofs.laws.PlaceByPlace.{Placed, ◌▸◌, no-more, opening}
use Rattle.fin_parties.specs.Writing.{party_field}
use Rattle.fin_parties.specs.declared.party.Party.{Party}
use Rattle.fin_contents.specs.Money.{ccy_amount_of, value_of}
use Rattle.fin_contents.specs.Parties.{known_party_of}
use Rattle.fin_contents.specs.Plain.{reference_of, texts_of, time_of}
use Rattle.fin_contents.specs.Writing.{IsAmount, ccy_amount_field, line_field, lines_fields, some_field, value_field}
use Rattle.fin_contents.proofs.laws.Again.{ccy_amount-again, reference-again, texts-again, time-again, value-again}
use Rattle.fin_contents.proofs.laws.Back.{all-moved, each-all, lines-moved, one-moved, option-moved, some-all, some-weaker}
use Rattle.fin_contents.proofs.laws.PartyPlaces.{one-party, some-party}
use Rattle.fin_contents.proofs.laws.Placed.{all-segment, lines-segment, one-segment, party-again-at, some-segment}
use Rattle.fin_contents.proofs.laws.Said.{HoldsInPlaces, Stands}
use Rattle.mt202cov.specs.Writing.{segments, value_said}
use Rattle.mt202cov.specs.inner.Writing.{AreAmounts}
use Rattle.mt202cov.specs.declared.message.Mt202Cov.{Mt202Cov}
use Rattle.mt202cov.specs.Order.{order_202}
use Rattle.mt202cov.proofs.Readings.{LinesRead, Readings}

-- a place to stand for none
pub any : Place
any = record { tag = 0; options = []; many = false; must = false }

-- ---- the places

-- each mandatory place is taken
pub none-missing : (found : List ℕ) → list_any (λ q. q == 0) found ≡ true → list_any (λ q. q == 1) found ≡ true → list_any (λ q. q == 3) found ≡ true
    → list_any (λ q. q == 9) found ≡ true → list_any (λ q. q == 11) found ≡ true → list_any (λ q. q == 15) found ≡ true
    → missing_from 0 order_202 found ≡ None
unfolding missing_from
none-missing found e0 e1 e3 e9 e11 e15 = rw (e0, e1, e3, e9, e11, e15) refl

module _ (t : Tables) (fs : List Field) (found : List ℕ) (P : Field → Type 0) (h : HoldsInPlaces (Stands order_202 P) found fs) where
  -- the second sequence, from 52a on
  after-50a : (m : Mt202Cov) → Readings t fs found m → Placed order_202 12 12 (drop 12 (segments m))
  after-50a m r =
      some-party order_202 P t fs found h any 12 12 52 refl refl refl refl m.b52 r.b52
      ▸ some-party order_202 P t fs found h any 12 13 56 refl refl refl refl m.b56 r.b56
      ▸ some-party order_202 P t fs found h any 12 14 57 refl refl refl refl m.b57 r.b57
      ▸ one-party order_202 P t fs found h any 12 15 59 refl refl refl refl m.payee r.payee
      ▸ lines-segment order_202 12 16 70 None m.info refl
      ▸ lines-segment order_202 12 17 72 None m.b_notes refl
      ▸ some-segment order_202 12 18 (ccy_amount_field 33 (Some 66)) m.ordered (some-all _ m.ordered (λ x. refl))
      ▸ no-more order_202 12 19

  -- the first sequence, from 52a on, and the payer's field
  from-52a : (m : Mt202Cov) → Readings t fs found m → Placed order_202 0 4 (drop 4 (segments m))
  from-52a m r =
      some-party order_202 P t fs found h any 0 4 52 refl refl refl refl m.a52 r.a52
      ▸ some-party order_202 P t fs found h any 0 5 53 refl refl refl refl m.a53 r.a53
      ▸ some-party order_202 P t fs found h any 0 6 54 refl refl refl refl m.a54 r.a54
      ▸ some-party order_202 P t fs found h any 0 7 56 refl refl refl refl m.a56 r.a56
      ▸ some-party order_202 P t fs found h any 0 8 57 refl refl refl refl m.a57 r.a57
      ▸ one-party order_202 P t fs found h any 0 9 58 refl refl refl refl m.a58 r.a58
      ▸ lines-segment order_202 0 10 72 None m.a_notes refl
      ▸ opening (one-party order_202 P t fs found h any 0 11 50 refl refl refl refl m.payer r.payer) (after-50a m r) (omega arith) (omega arith)

  placed : (m : Mt202Cov) → Readings t fs found m → Placed order_202 0 0 (segments m)
  placed m r =
      one-segment order_202 0 0 (line_field 20 None m.reference) refl
      ▸ one-segment order_202 0 1 (line_field 21 None m.related) refl
      ▸ all-segment order_202 0 2 (line_field 13 (Some 67)) m.times refl (each-all _ m.times (λ x. refl))
      ▸ one-segment order_202 0 3 (value_field (value_said m)) refl
      ▸ from-52a m r

  pub in-segments : (m : Mt202Cov) → Readings t fs found m → Segments order_202 0 0 (segments m)
  in-segments m r = (placed m r).in_turn

  -- ---- what is read of them

  module _ (m : Mt202Cov) (r : Readings t fs found m) (amounts : AreAmounts m) where
    abbrev again : List Field
    again = joined (segments m)

    abbrev places : List ℕ
    places = places_of 0 (segments m)

    -- a party that stands at its place
    party-again : (k tag : ℕ) → (get_or order_202 k any).tag ≡ tag → (p : Party) → slice_get (segments m) k ≡ Some (party_field tag p ∷ [])
        → in_place order_202 fs found k (known_party_of t) ≡ Ok p → in_place order_202 again places k (known_party_of t) ≡ Ok p
    party-again k tag at p stands e =
        one-moved (Stands order_202 P) fs found h (segments m) k order_202 (known_party_of t) (party_field tag) p
        (party-again-at order_202 P k tag any at t p) stands e

    -- or that may stand there
    some-again : (k tag : ℕ) → (get_or order_202 k any).tag ≡ tag → (o : Option Party) → slice_get (segments m) k ≡ Some (some_field (party_field tag) o)
        → in_option fs found k (known_party_of t) ≡ Ok o → in_option again places k (known_party_of t) ≡ Ok o
    some-again k tag at o stands e =
        option-moved (Stands order_202 P) fs found h (segments m) k (known_party_of t) (party_field tag) o
        (some-all _ o (party-again-at order_202 P k tag any at t)) stands e

    line-again : (k tag : ℕ) (x : List ℕ) → slice_get (segments m) k ≡ Some (line_field tag None x ∷ [])
        → in_place order_202 fs found k reference_of ≡ Ok x → in_place order_202 again places k reference_of ≡ Ok x
    line-again k tag x stands e =
        one-moved (Stands order_202 P) fs found h (segments m) k order_202 reference_of (line_field tag None) x
        (λ f q e. reference-again tag None f x e) stands e

    notes-again : (k most tag : ℕ) (lines : List (List ℕ)) → (slice_get (segments m) k ≡ Some (lines_fields tag None lines))
        → LinesRead fs found k most lines → LinesRead again places k most lines
    notes-again k most tag lines at (o, e, same) =
        let stands : slice_get (segments m) k ≡ Some (lines_fields tag None (unwrap_or o [])) =
        at ∙ ap (λ (ls : List (List ℕ)). Some (lines_fields tag None ls)) (sym same) in
        let moved = lines-moved (Stands order_202 P) fs found h (segments m) k tag None (texts_of most) o
        (λ ls f q read. texts-again most tag None f ls read) stands e in
        (moved.0, moved.1, moved.2 ∙ same)

    times-again : all_from again 2 time_of 0 places again ≡ Ok m.times
    times-again =
        all-moved (Stands order_202 P) fs found h (segments m) 2 time_of (line_field 13 (Some 67)) m.times
        (each-all _ m.times (λ x f q e. time-again 13 (Some 67) f x e)) refl r.times

    value-read-again : in_place order_202 again places 3 (value_of t) ≡ Ok (value_said m)
    value-read-again =
        one-moved (Stands order_202 P) fs found h (segments m) 3 order_202 (value_of t) value_field (value_said m)
        (λ f q e. value-again t f (value_said m) amounts.value e) refl r.value

    ordered-again : in_option again places 18 (ccy_amount_of t) ≡ Ok m.ordered
    ordered-again =
        option-moved (Stands order_202 P) fs found h (segments m) 18 (ccy_amount_of t) (ccy_amount_field 33 (Some 66)) m.ordered
        (some-weaker IsAmount _ m.ordered amounts.ordered (λ x is f q e. ccy_amount-again 33 (Some 66) t f x is e)) refl r.ordered

    pub reread : Readings t (joined (segments m)) (places_of 0 (segments m)) m
    reread = record {
      reference = line-again 0 20 m.reference refl r.reference;
      related = line-again 1 21 m.related refl r.related;
      times = times-again;
      value = value-read-again;
      a52 = some-again 4 52 refl m.a52 refl r.a52;
      a53 = some-again 5 53 refl m.a53 refl r.a53;
      a54 = some-again 6 54 refl m.a54 refl r.a54;
      a56 = some-again 7 56 refl m.a56 refl r.a56;
      a57 = some-again 8 57 refl m.a57 refl r.a57;
      a58 = party-again 9 58 refl m.a58 refl r.a58;
      a_notes = notes-again 10 6 72 m.a_notes refl r.a_notes;
      payer = party-again 11 50 refl m.payer refl r.payer;
      b52 = some-again 12 52 refl m.b52 refl r.b52;
      b56 = some-again 13 56 refl m.b56 refl r.b56;
      b57 = some-again 14 57 refl m.b57 refl r.b57;
      payee = party-again 15 59 refl m.payee refl r.payee;
      info = notes-again 16 4 70 m.info refl r.info;
      b_notes = notes-again 17 6 72 m.b_notes refl r.b_notes;
      ordered = ordered-again;
    }
