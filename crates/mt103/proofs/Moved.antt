-- What the fields of a transfer say, the fields say that are written of it.
use Rattle.std.proofs.Common.{◌≡◌, ℕ, List, [], slice_get, Option, Some, None, Ok, false, refl, sym, ap, ◌∙◌}
use Rattle.corr_money.specs.declared.amount.Amount.{Amount}
use Rattle.ref_tables.specs.Seen.{Tables}
use Rattle.fin_fields.specs.declared.field.Field.{Field}
use Rattle.fin_layout.specs.declared.place.Place.{Place}
use Rattle.fin_layout.specs.Order.{places_from}
use Rattle.fin_layout.specs.Segments.{joined}
use Rattle.fin_layout.specs.inner.Segments.{places_of}
use Rattle.fin_parties.specs.Writing.{party_field}
use Rattle.fin_parties.specs.declared.party.Party.{Party}
use Rattle.fin_contents.specs.Money.{ccy_amount_of, rate_of, value_of}
use Rattle.fin_contents.specs.Parties.{known_party_of}
use Rattle.fin_contents.specs.Plain.{reference_of, texts_of, time_of}
use Rattle.fin_contents.specs.Writing.{IsAmount, ccy_amount_field, line_field, lines_fields, value_field}
use Rattle.fin_contents.proofs.laws.Again.{ccy_amount-again, rate-again, reference-again, texts-again, time-again, value-again}
use Rattle.fin_contents.proofs.laws.Back.{all-moved, each-all, each-weaker, lines-moved, one-moved, option-moved, some-all, some-weaker}
use Rattle.fin_contents.proofs.laws.Placed.{each-of, party-again-at}
use Rattle.fin_contents.proofs.laws.Said.{HoldsInPlaces, Stands, stand}
use Rattle.mt103.specs.Codes.{charge_of, instr_of, kind_of, operation_of}
use Rattle.mt103.specs.Message.{contents_of}
use Rattle.mt103.specs.inner.Parts.{Details, Parties, Terms, transfer_of_parts}
use Rattle.mt103.specs.Writing.{instr_field, segments}
use Rattle.mt103.specs.inner.Writing.{AreAmounts}
use Rattle.mt103.specs.declared.instruction.Instr.{Instr}
use Rattle.mt103.specs.declared.message.Mt103.{Mt103}
use Rattle.mt103.specs.Order.{order_103}
use Rattle.mt103.proofs.Kept.{charge-again, instr-again, kind-again, operation-again}
use Rattle.mt103.proofs.Says.{DetailsSay, LinesSay, PartiesSay, TermsSay, contents-said, contents-say}

-- any field
abbrev Any : Field → Type 0
Any f = Unit {0}

abbrev some_place : Place
some_place = record { tag = 0; options = []; many = false; must = false }

module _ (t : Tables) (fs : List Field) (a : Terms) (b : Parties) (c : Details) (amounts : AreAmounts (transfer_of_parts a b c)) where
  abbrev found : List ℕ
  found = places_from order_103 0 fs

  abbrev segs : List (List Field)
  segs = segments (transfer_of_parts a b c)

  abbrev At : ℕ → Field → Type 0
  At k f = Stands order_103 Any k f

  here : HoldsInPlaces At found fs
  here = stand order_103 Any 0 fs (λ k d lt. tt)

  terms-moved : TermsSay t fs found a → TermsSay t (joined segs) (places_of 0 segs) a
  terms-moved s = record {
    reference = one-moved At fs found here segs 0 order_103 reference_of (line_field 20 None) a.reference (λ f q e. reference-again 20 None f a.reference e) refl s.reference;
    times = all-moved At fs found here segs 1 time_of (line_field 13 (Some 67)) a.times (each-all _ a.times (λ (x : List ℕ) f q e. time-again 13 (Some 67) f x e)) refl s.times;
    op = one-moved At fs found here segs 2 order_103 operation_of (line_field 23 (Some 66)) a.op (λ f q e. operation-again f a.op e) refl s.op;
    instrs = all-moved At fs found here segs 3 instr_of instr_field a.instrs (each-all _ a.instrs (λ (x : Instr) f q e. instr-again f x e)) refl s.instrs;
    kind = option-moved At fs found here segs 4 kind_of (line_field 26 (Some 84)) a.kind (some-all _ a.kind (λ (x : List ℕ) f q e. kind-again f x e)) refl s.kind;
    value = one-moved At fs found here segs 5 order_103 (value_of t) value_field a.value (λ f q e. value-again t f a.value amounts.value e) refl s.value;
    ordered = option-moved At fs found here segs 6 (ccy_amount_of t) (ccy_amount_field 33 (Some 66)) a.ordered (some-weaker IsAmount _ a.ordered amounts.ordered (λ (x : Amount) is f q e. ccy_amount-again 33 (Some 66) t f x is e)) refl s.ordered;
    rate = option-moved At fs found here segs 7 rate_of (line_field 36 None) a.rate (some-all _ a.rate (λ (x : List ℕ) f q e. rate-again 36 None f x e)) refl s.rate;
  }

  parties-moved : PartiesSay t fs found b → PartiesSay t (joined segs) (places_of 0 segs) b
  parties-moved s = record {
    payer = one-moved At fs found here segs 8 order_103 (known_party_of t) (party_field 50) b.payer (party-again-at order_103 Any 8 50 some_place refl t b.payer) refl s.payer;
    p52 = option-moved At fs found here segs 9 (known_party_of t) (party_field 52) b.p52 (some-all _ b.p52 (λ (p : Party). party-again-at order_103 Any 9 52 some_place refl t p)) refl s.p52;
    p53 = option-moved At fs found here segs 10 (known_party_of t) (party_field 53) b.p53 (some-all _ b.p53 (λ (p : Party). party-again-at order_103 Any 10 53 some_place refl t p)) refl s.p53;
    p54 = option-moved At fs found here segs 11 (known_party_of t) (party_field 54) b.p54 (some-all _ b.p54 (λ (p : Party). party-again-at order_103 Any 11 54 some_place refl t p)) refl s.p54;
    p55 = option-moved At fs found here segs 12 (known_party_of t) (party_field 55) b.p55 (some-all _ b.p55 (λ (p : Party). party-again-at order_103 Any 12 55 some_place refl t p)) refl s.p55;
    p56 = option-moved At fs found here segs 13 (known_party_of t) (party_field 56) b.p56 (some-all _ b.p56 (λ (p : Party). party-again-at order_103 Any 13 56 some_place refl t p)) refl s.p56;
    p57 = option-moved At fs found here segs 14 (known_party_of t) (party_field 57) b.p57 (some-all _ b.p57 (λ (p : Party). party-again-at order_103 Any 14 57 some_place refl t p)) refl s.p57;
    payee = one-moved At fs found here segs 15 order_103 (known_party_of t) (party_field 59) b.payee (party-again-at order_103 Any 15 59 some_place refl t b.payee) refl s.payee;
  }

  lines-say : (k most tag : ℕ) (letter : Option ℕ) (lines : List (List ℕ)) → slice_get segs k ≡ Some (lines_fields tag letter lines) → LinesSay fs found k most lines → LinesSay (joined segs) (places_of 0 segs) k most lines
  lines-say k most tag letter lines at s =
      let moved = lines-moved At fs found here segs k tag letter (texts_of most) s.said (λ ls f q e. texts-again most tag letter f ls e) (at ∙ ap (λ (ls : List (List ℕ)). Some (lines_fields tag letter ls)) (sym s.same)) s.read in
      record { said = moved.0; read = moved.1; same = moved.2 ∙ s.same }

  details-moved : DetailsSay t fs found c → DetailsSay t (joined segs) (places_of 0 segs) c
  details-moved s = record {
    info = lines-say 16 4 70 None c.info refl s.info;
    charge = one-moved At fs found here segs 17 order_103 charge_of (line_field 71 (Some 65)) c.charge (λ f q e. charge-again f c.charge e) refl s.charge;
    taken = all-moved At fs found here segs 18 (ccy_amount_of t) (ccy_amount_field 71 (Some 70)) c.taken (each-weaker IsAmount _ c.taken (each-of IsAmount c.taken amounts.taken) (λ (x : Amount) is f q e. ccy_amount-again 71 (Some 70) t f x is e)) refl s.taken;
    given = option-moved At fs found here segs 19 (ccy_amount_of t) (ccy_amount_field 71 (Some 71)) c.given (some-weaker IsAmount _ c.given amounts.given (λ (x : Amount) is f q e. ccy_amount-again 71 (Some 71) t f x is e)) refl s.given;
    notes = lines-say 20 6 72 None c.notes refl s.notes;
    regulatory = lines-say 21 3 77 (Some 66) c.regulatory refl s.regulatory;
  }

  whole-moved : TermsSay t fs found a → PartiesSay t fs found b → DetailsSay t fs found c → contents_of t (joined segs) (places_of 0 segs) ≡ Ok (transfer_of_parts a b c)
  whole-moved r s u = contents-said t (joined segs) (places_of 0 segs) a b c (terms-moved r) (parties-moved s) (details-moved u)

pub contents-moved : (t : Tables) (fs : List Field) (m : Mt103) → AreAmounts m → contents_of t fs (places_from order_103 0 fs) ≡ Ok m → contents_of t (joined (segments m)) (places_of 0 (segments m)) ≡ Ok m
contents-moved t fs m amounts e =
    let say = contents-say t fs (places_from order_103 0 fs) m e in
    let same = say.same in
    let is : AreAmounts (transfer_of_parts say.terms say.parties say.details) = rw (← same) at amounts in
    rw (← same) (whole-moved t fs say.terms say.parties say.details is say.terms_say say.parties_say say.details_say)
