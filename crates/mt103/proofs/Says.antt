-- What the fields of a transfer say, place by place.
use Rattle.std.proofs.Common.{◌≡◌, ℕ, List, [], Option, Ok, refl, sym, ◌∙◌}
use Rattle.std.specs.Prelude.{unwrap_or}
use Rattle.ref_tables.specs.Seen.{Tables}
use Rattle.fin_fields.specs.declared.field.Field.{Field}
use Rattle.fin_layout.specs.Contents.{all_from, in_option, in_place}
use Rattle.fin_contents.specs.Money.{ccy_amount_of, rate_of, value_of}
use Rattle.fin_contents.specs.Parties.{known_party_of}
use Rattle.fin_contents.specs.Plain.{reference_of, texts_of, time_of}
use Rattle.fin_contents.proofs.laws.Steps.{read-then, told-is}
use Rattle.mt103.specs.Codes.{charge_of, instr_of, kind_of, operation_of}
use Rattle.mt103.specs.Message.{contents_of}
use Rattle.mt103.specs.inner.Parts.{Details, Parties, Terms, contents_in_parts, details_of, transfer_of_parts, parties_of, terms_of}
use Rattle.mt103.specs.declared.message.Mt103.{Mt103}
use Rattle.mt103.specs.Order.{order_103}
use Rattle.mt103.proofs.laws.Parts.{contents-are}

pub record TermsSay (t : Tables) (fs : List Field) (found : List ℕ) (x : Terms) : Type 0 where
  pub reference : in_place order_103 fs found 0 reference_of ≡ Ok x.reference
  pub times : all_from fs 1 time_of 0 found fs ≡ Ok x.times
  pub op : in_place order_103 fs found 2 operation_of ≡ Ok x.op
  pub instrs : all_from fs 3 instr_of 0 found fs ≡ Ok x.instrs
  pub kind : in_option fs found 4 kind_of ≡ Ok x.kind
  pub value : in_place order_103 fs found 5 (value_of t) ≡ Ok x.value
  pub ordered : in_option fs found 6 (ccy_amount_of t) ≡ Ok x.ordered
  pub rate : in_option fs found 7 rate_of ≡ Ok x.rate

pub record PartiesSay (t : Tables) (fs : List Field) (found : List ℕ) (x : Parties) : Type 0 where
  pub payer : in_place order_103 fs found 8 (known_party_of t) ≡ Ok x.payer
  pub p52 : in_option fs found 9 (known_party_of t) ≡ Ok x.p52
  pub p53 : in_option fs found 10 (known_party_of t) ≡ Ok x.p53
  pub p54 : in_option fs found 11 (known_party_of t) ≡ Ok x.p54
  pub p55 : in_option fs found 12 (known_party_of t) ≡ Ok x.p55
  pub p56 : in_option fs found 13 (known_party_of t) ≡ Ok x.p56
  pub p57 : in_option fs found 14 (known_party_of t) ≡ Ok x.p57
  pub payee : in_place order_103 fs found 15 (known_party_of t) ≡ Ok x.payee

-- lines that a field may say, none without the field
pub record LinesSay (fs : List Field) (found : List ℕ) (k most : ℕ) (lines : List (List ℕ)) : Type 0 where
  pub said : Option (List (List ℕ))
  pub read : in_option fs found k (texts_of most) ≡ Ok said
  pub same : unwrap_or said [] ≡ lines

pub record DetailsSay (t : Tables) (fs : List Field) (found : List ℕ) (x : Details) : Type 0 where
  pub info : LinesSay fs found 16 4 x.info
  pub charge : in_place order_103 fs found 17 charge_of ≡ Ok x.charge
  pub taken : all_from fs 18 (ccy_amount_of t) 0 found fs ≡ Ok x.taken
  pub given : in_option fs found 19 (ccy_amount_of t) ≡ Ok x.given
  pub notes : LinesSay fs found 20 6 x.notes
  pub regulatory : LinesSay fs found 21 3 x.regulatory

module _ (t : Tables) (fs : List Field) (found : List ℕ) where
  pub terms-say : (x : Terms) → terms_of t fs found ≡ Ok x → TermsSay t fs found x
  unfolding terms_of
  terms-say x e =
      let a = read-then (in_place order_103 fs found 0 reference_of) _ x e in
      let b = read-then (all_from fs 1 time_of 0 found fs) _ x a.2 in
      let c = read-then (in_place order_103 fs found 2 operation_of) _ x b.2 in
      let d = read-then (all_from fs 3 instr_of 0 found fs) _ x c.2 in
      let k = read-then (in_option fs found 4 kind_of) _ x d.2 in
      let v = read-then (in_place order_103 fs found 5 (value_of t)) _ x k.2 in
      let o = read-then (in_option fs found 6 (ccy_amount_of t)) _ x v.2 in
      let r = read-then (in_option fs found 7 rate_of) _ x o.2 in
      let same : record { reference = a.0; times = b.0; op = c.0; instrs = d.0; kind = k.0; value = v.0; ordered = o.0; rate = r.0 } ≡ x = told-is _ x r.2 in
      rw (← same) (record { reference = a.1; times = b.1; op = c.1; instrs = d.1; kind = k.1; value = v.1; ordered = o.1; rate = r.1 })

  pub terms-said : (x : Terms) → TermsSay t fs found x → terms_of t fs found ≡ Ok x
  unfolding terms_of
  terms-said x s = rw (s.reference, s.times, s.op, s.instrs, s.kind, s.value, s.ordered, s.rate) refl

  pub parties-say : (x : Parties) → parties_of t fs found ≡ Ok x → PartiesSay t fs found x
  unfolding parties_of
  parties-say x e =
      let a = read-then (in_place order_103 fs found 8 (known_party_of t)) _ x e in
      let b = read-then (in_option fs found 9 (known_party_of t)) _ x a.2 in
      let c = read-then (in_option fs found 10 (known_party_of t)) _ x b.2 in
      let d = read-then (in_option fs found 11 (known_party_of t)) _ x c.2 in
      let g = read-then (in_option fs found 12 (known_party_of t)) _ x d.2 in
      let h = read-then (in_option fs found 13 (known_party_of t)) _ x g.2 in
      let i = read-then (in_option fs found 14 (known_party_of t)) _ x h.2 in
      let j = read-then (in_place order_103 fs found 15 (known_party_of t)) _ x i.2 in
      let same : record { payer = a.0; p52 = b.0; p53 = c.0; p54 = d.0; p55 = g.0; p56 = h.0; p57 = i.0; payee = j.0 } ≡ x = told-is _ x j.2 in
      rw (← same) (record { payer = a.1; p52 = b.1; p53 = c.1; p54 = d.1; p55 = g.1; p56 = h.1; p57 = i.1; payee = j.1 })

  pub parties-said : (x : Parties) → PartiesSay t fs found x → parties_of t fs found ≡ Ok x
  unfolding parties_of
  parties-said x s = rw (s.payer, s.p52, s.p53, s.p54, s.p55, s.p56, s.p57, s.payee) refl

  pub details-say : (x : Details) → details_of t fs found ≡ Ok x → DetailsSay t fs found x
  unfolding details_of
  details-say x e =
      let a = read-then (in_option fs found 16 (texts_of 4)) _ x e in
      let b = read-then (in_place order_103 fs found 17 charge_of) _ x a.2 in
      let c = read-then (all_from fs 18 (ccy_amount_of t) 0 found fs) _ x b.2 in
      let d = read-then (in_option fs found 19 (ccy_amount_of t)) _ x c.2 in
      let n = read-then (in_option fs found 20 (texts_of 6)) _ x d.2 in
      let r = read-then (in_option fs found 21 (texts_of 3)) _ x n.2 in
      let same : record { info = unwrap_or a.0 []; charge = b.0; taken = c.0; given = d.0; notes = unwrap_or n.0 []; regulatory = unwrap_or r.0 [] } ≡ x = told-is _ x r.2 in
      rw (← same) (record {
        info = record { said = a.0; read = a.1; same = refl };
        charge = b.1;
        taken = c.1;
        given = d.1;
        notes = record { said = n.0; read = n.1; same = refl };
        regulatory = record { said = r.0; read = r.1; same = refl };
      })

  pub details-said : (x : Details) → DetailsSay t fs found x → details_of t fs found ≡ Ok x
  unfolding details_of
  details-said x s = rw (s.info.read, s.charge, s.taken, s.given, s.notes.read, s.regulatory.read, s.info.same, s.notes.same, s.regulatory.same) refl

-- a transfer and what its fields say
pub record ContentsSay (t : Tables) (fs : List Field) (found : List ℕ) (m : Mt103) : Type 0 where
  pub terms : Terms
  pub parties : Parties
  pub details : Details
  pub terms_say : TermsSay t fs found terms
  pub parties_say : PartiesSay t fs found parties
  pub details_say : DetailsSay t fs found details
  pub same : transfer_of_parts terms parties details ≡ m

pub contents-say : (t : Tables) (fs : List Field) (found : List ℕ) (m : Mt103) → contents_of t fs found ≡ Ok m → ContentsSay t fs found m
unfolding contents_in_parts
contents-say t fs found m e =
    let parts : contents_in_parts t fs found ≡ Ok m = contents-are t fs found ∙ e in
    let a = read-then (terms_of t fs found) _ m parts in
    let b = read-then (parties_of t fs found) _ m a.2 in
    let c = read-then (details_of t fs found) _ m b.2 in
    record {
      terms = a.0;
      parties = b.0;
      details = c.0;
      terms_say = terms-say t fs found a.0 a.1;
      parties_say = parties-say t fs found b.0 b.1;
      details_say = details-say t fs found c.0 c.1;
      same = told-is (transfer_of_parts a.0 b.0 c.0) m c.2;
    }

pub contents-said : (t : Tables) (fs : List Field) (found : List ℕ) (a : Terms) (b : Parties) (c : Details) → TermsSay t fs found a → PartiesSay t fs found b → DetailsSay t fs found c → contents_of t fs found ≡ Ok (transfer_of_parts a b c)
unfolding contents_in_parts
contents-said t fs found a b c r s u =
    let parts : contents_in_parts t fs found ≡ Ok (transfer_of_parts a b c) = rw (terms-said t fs found a r, parties-said t fs found b s, details-said t fs found c u) refl in
    sym (contents-are t fs found) ∙ parts
