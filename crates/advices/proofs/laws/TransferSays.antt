-- What the fields of a transfer say, place by place: of one that was read, and of one whose fields pass their tests.
use Rattle.std.proofs.Common.{◌≡◌, List, [], ◌∷◌, ℕ, None, Ok, refl, subst, sym, ◌∙◌}
use Rattle.std.specs.Prelude.{unwrap_or}
use Rattle.corr_text.specs.First.{first_of}
use Rattle.ref_tables.specs.Seen.{Tables}
use Rattle.fin_fields.specs.declared.field.Field.{Field}
use Rattle.fin_layout.specs.Contents.{all_from, in_option, in_place}
use Rattle.fin_layout.specs.Order.{places_from}
use Rattle.fin_layout.specs.Tests.{passed}
use Rattle.fin_layout.proofs.laws.Fine.{all-hold, many-fine, may-fine, must-fine}
use Rattle.fin_contents.specs.Money.{ccy_amount_of, rate_of, value_of}
use Rattle.fin_contents.specs.Parties.{known_party_of}
use Rattle.fin_contents.specs.Plain.{reference_of, texts_of, time_of}
use Rattle.fin_contents.specs.declared.value.Value.{Value}
use Rattle.fin_contents.proofs.laws.Steps.{read-then, told-is}
use Rattle.mt103.specs.Codes.{charge_of, instr_of, kind_of, operation_of}
use Rattle.mt103.specs.Instructions.{d98, e46}
use Rattle.mt103.specs.Message.{content_test, contents_of, field_tests, mt103_of}
use Rattle.mt103.specs.inner.Parts.{Details, Parties, Terms, contents_in_parts, details_of, transfer_of_parts, parties_of, terms_of}
use Rattle.mt103.specs.Order.{order_103}
use Rattle.mt103.specs.declared.message.Mt103.{Mt103}
use Rattle.mt103.proofs.laws.Parts.{contents-are}

-- what the rules ask of is said at its place
pub record TransferSays (t : Tables) (fs : List Field) (m : Mt103) : Type 0 where
  pub value : Value
  pub op : in_place order_103 fs (places_from order_103 0 fs) 2 operation_of ≡ Ok m.op
  pub instrs : all_from fs 3 instr_of 0 (places_from order_103 0 fs) fs ≡ Ok m.instrs
  pub moved : in_place order_103 fs (places_from order_103 0 fs) 5 (value_of t) ≡ Ok value
  pub amount : value.amount ≡ m.amount
  pub ordered : in_option fs (places_from order_103 0 fs) 6 (ccy_amount_of t) ≡ Ok m.ordered
  pub rate : in_option fs (places_from order_103 0 fs) 7 rate_of ≡ Ok m.rate
  pub p53 : in_option fs (places_from order_103 0 fs) 10 (known_party_of t) ≡ Ok m.p53
  pub p54 : in_option fs (places_from order_103 0 fs) 11 (known_party_of t) ≡ Ok m.p54
  pub p55 : in_option fs (places_from order_103 0 fs) 12 (known_party_of t) ≡ Ok m.p55
  pub p56 : in_option fs (places_from order_103 0 fs) 13 (known_party_of t) ≡ Ok m.p56
  pub p57 : in_option fs (places_from order_103 0 fs) 14 (known_party_of t) ≡ Ok m.p57
  pub payee : in_place order_103 fs (places_from order_103 0 fs) 15 (known_party_of t) ≡ Ok m.payee
  pub charge : in_place order_103 fs (places_from order_103 0 fs) 17 charge_of ≡ Ok m.charge
  pub taken : all_from fs 18 (ccy_amount_of t) 0 (places_from order_103 0 fs) fs ≡ Ok m.taken
  pub given : in_option fs (places_from order_103 0 fs) 19 (ccy_amount_of t) ≡ Ok m.given

-- ---- of the parts

record TermsSay (t : Tables) (fs : List Field) (x : Terms) : Type 0 where
  op : in_place order_103 fs (places_from order_103 0 fs) 2 operation_of ≡ Ok x.op
  instrs : all_from fs 3 instr_of 0 (places_from order_103 0 fs) fs ≡ Ok x.instrs
  value : in_place order_103 fs (places_from order_103 0 fs) 5 (value_of t) ≡ Ok x.value
  ordered : in_option fs (places_from order_103 0 fs) 6 (ccy_amount_of t) ≡ Ok x.ordered
  rate : in_option fs (places_from order_103 0 fs) 7 rate_of ≡ Ok x.rate

record PartiesSay (t : Tables) (fs : List Field) (x : Parties) : Type 0 where
  p53 : in_option fs (places_from order_103 0 fs) 10 (known_party_of t) ≡ Ok x.p53
  p54 : in_option fs (places_from order_103 0 fs) 11 (known_party_of t) ≡ Ok x.p54
  p55 : in_option fs (places_from order_103 0 fs) 12 (known_party_of t) ≡ Ok x.p55
  p56 : in_option fs (places_from order_103 0 fs) 13 (known_party_of t) ≡ Ok x.p56
  p57 : in_option fs (places_from order_103 0 fs) 14 (known_party_of t) ≡ Ok x.p57
  payee : in_place order_103 fs (places_from order_103 0 fs) 15 (known_party_of t) ≡ Ok x.payee

record DetailsSay (t : Tables) (fs : List Field) (x : Details) : Type 0 where
  charge : in_place order_103 fs (places_from order_103 0 fs) 17 charge_of ≡ Ok x.charge
  taken : all_from fs 18 (ccy_amount_of t) 0 (places_from order_103 0 fs) fs ≡ Ok x.taken
  given : in_option fs (places_from order_103 0 fs) 19 (ccy_amount_of t) ≡ Ok x.given

module _ (t : Tables) (fs : List Field) where
  abbrev found : List ℕ
  found = places_from order_103 0 fs

  terms-say : (x : Terms) → terms_of t fs found ≡ Ok x → TermsSay t fs x
  unfolding terms_of
  terms-say x e =
      let a = read-then (in_place order_103 fs found 0 reference_of) _ x e in
      let b = read-then (all_from fs 1 time_of 0 found fs) _ x a.2 in
      let c = read-then (in_place order_103 fs found 2 operation_of) _ x b.2 in
      let d = read-then (all_from fs 3 instr_of 0 found fs) _ x c.2 in
      let k = read-then (in_option fs found 4 kind_of) _ x d.2 in
      let v = read-then (in_place order_103 fs found 5 (value_of t)) _ x k.2 in
      let o = read-then (in_option fs found 6 (ccy_amount_of t)) _ x v.2 in
      let r = read-then (in_option fs found 7 rate_of) _ x o.2 in
      let same : record { reference = a.0; times = b.0; op = c.0; instrs = d.0; kind = k.0; value = v.0; ordered = o.0; rate = r.0 } ≡ x =
      told-is _ x r.2 in
      rw (← same) (record { op = c.1; instrs = d.1; value = v.1; ordered = o.1; rate = r.1 })

  parties-say : (x : Parties) → parties_of t fs found ≡ Ok x → PartiesSay t fs x
  unfolding parties_of
  parties-say x e =
      let a = read-then (in_place order_103 fs found 8 (known_party_of t)) _ x e in
      let b = read-then (in_option fs found 9 (known_party_of t)) _ x a.2 in
      let c = read-then (in_option fs found 10 (known_party_of t)) _ x b.2 in
      let d = read-then (in_option fs found 11 (known_party_of t)) _ x c.2 in
      let g = read-then (in_option fs found 12 (known_party_of t)) _ x d.2 in
      let h = read-then (in_option fs found 13 (known_party_of t)) _ x g.2 in
      let i = read-then (in_option fs found 14 (known_party_of t)) _ x h.2 in
      let j = read-then (in_place order_103 fs found 15 (known_party_of t)) _ x i.2 in
      let same : record { payer = a.0; p52 = b.0; p53 = c.0; p54 = d.0; p55 = g.0; p56 = h.0; p57 = i.0; payee = j.0 } ≡ x = told-is _ x j.2 in
      rw (← same) (record { p53 = c.1; p54 = d.1; p55 = g.1; p56 = h.1; p57 = i.1; payee = j.1 })

  details-say : (x : Details) → details_of t fs found ≡ Ok x → DetailsSay t fs x
  unfolding details_of
  details-say x e =
      let a = read-then (in_option fs found 16 (texts_of 4)) _ x e in
      let b = read-then (in_place order_103 fs found 17 charge_of) _ x a.2 in
      let c = read-then (all_from fs 18 (ccy_amount_of t) 0 found fs) _ x b.2 in
      let d = read-then (in_option fs found 19 (ccy_amount_of t)) _ x c.2 in
      let n = read-then (in_option fs found 20 (texts_of 6)) _ x d.2 in
      let r = read-then (in_option fs found 21 (texts_of 3)) _ x n.2 in
      let same : record { info = unwrap_or a.0 []; charge = b.0; taken = c.0; given = d.0; notes = unwrap_or n.0 []; regulatory = unwrap_or r.0 [] } ≡ x =
      told-is _ x r.2 in
      rw (← same) (record { charge = b.1; taken = c.1; given = d.1 })

  -- of the whole
  pub contents-say : (m : Mt103) → contents_of t fs found ≡ Ok m → TransferSays t fs m
  unfolding contents_in_parts
  contents-say m e =
      let whole : contents_in_parts t fs found ≡ Ok m = contents-are t fs found ∙ e in
      let a = read-then (terms_of t fs found) _ m whole in
      let b = read-then (parties_of t fs found) _ m a.2 in
      let c = read-then (details_of t fs found) _ m b.2 in
      let same : transfer_of_parts a.0 b.0 c.0 ≡ m = told-is (transfer_of_parts a.0 b.0 c.0) m c.2 in
      let r = terms-say a.0 a.1 in
      let s = parties-say b.0 b.1 in
      let u = details-say c.0 c.1 in
      rw (← same) (record {
        value = a.0.value;
        op = r.op;
        instrs = r.instrs;
        moved = r.value;
        amount = refl;
        ordered = r.ordered;
        rate = r.rate;
        p53 = s.p53;
        p54 = s.p54;
        p55 = s.p55;
        p56 = s.p56;
        p57 = s.p57;
        payee = s.payee;
        charge = u.charge;
        taken = u.taken;
        given = u.given;
      })

  -- a transfer that was read
  pub read-says : (m : Mt103) → mt103_of t fs ≡ Ok m → TransferSays t fs m
  unfolding mt103_of
  read-says m e =
      let one = read-then (passed (field_tests t fs)) _ m e in
      let two = read-then (contents_of t fs found) _ m one.2 in
      let three = read-then (passed (e46 two.0.instrs ∷ d98 two.0.instrs ∷ [])) _ m two.2 in
      let same : two.0 ≡ m = told-is two.0 m three.2 in
      subst (TransferSays t fs) same (contents-say two.0 two.1)

  -- ---- of fields that pass their tests

  module _ (none : first_of (field_tests t fs) ≡ None) where
    terms-fine : (x : Terms) × (terms_of t fs found ≡ Ok x)
    unfolding terms_of
    terms-fine =
        let hold = all-hold order_103 (content_test t) fs none in
        let a = must-fine hold 0 reference_of (λ f. refl) _ refl refl in
        let b = many-fine hold 1 time_of (λ f. refl) in
        let c = must-fine hold 2 operation_of (λ f. refl) _ refl refl in
        let d = many-fine hold 3 instr_of (λ f. refl) in
        let k = may-fine hold 4 kind_of (λ f. refl) in
        let v = must-fine hold 5 (value_of t) (λ f. refl) _ refl refl in
        let o = may-fine hold 6 (ccy_amount_of t) (λ f. refl) in
        let r = may-fine hold 7 rate_of (λ f. refl) in (
          record { reference = a.0; times = b.0; op = c.0; instrs = d.0; kind = k.0; value = v.0; ordered = o.0; rate = r.0 },
          rw (a.1, b.1, c.1, d.1, k.1, v.1, o.1, r.1) refl,
        )

    parties-fine : (x : Parties) × (parties_of t fs found ≡ Ok x)
    unfolding parties_of
    parties-fine =
        let hold = all-hold order_103 (content_test t) fs none in
        let a = must-fine hold 8 (known_party_of t) (λ f. refl) _ refl refl in
        let b = may-fine hold 9 (known_party_of t) (λ f. refl) in
        let c = may-fine hold 10 (known_party_of t) (λ f. refl) in
        let d = may-fine hold 11 (known_party_of t) (λ f. refl) in
        let g = may-fine hold 12 (known_party_of t) (λ f. refl) in
        let h = may-fine hold 13 (known_party_of t) (λ f. refl) in
        let i = may-fine hold 14 (known_party_of t) (λ f. refl) in
        let j = must-fine hold 15 (known_party_of t) (λ f. refl) _ refl refl in (
          record { payer = a.0; p52 = b.0; p53 = c.0; p54 = d.0; p55 = g.0; p56 = h.0; p57 = i.0; payee = j.0 },
          rw (a.1, b.1, c.1, d.1, g.1, h.1, i.1, j.1) refl,
        )

    details-fine : (x : Details) × (details_of t fs found ≡ Ok x)
    unfolding details_of
    details-fine =
        let hold = all-hold order_103 (content_test t) fs none in
        let a = may-fine hold 16 (texts_of 4) (λ f. refl) in
        let b = must-fine hold 17 charge_of (λ f. refl) _ refl refl in
        let c = many-fine hold 18 (ccy_amount_of t) (λ f. refl) in
        let d = may-fine hold 19 (ccy_amount_of t) (λ f. refl) in
        let n = may-fine hold 20 (texts_of 6) (λ f. refl) in
        let r = may-fine hold 21 (texts_of 3) (λ f. refl) in (
          record { info = unwrap_or a.0 []; charge = b.0; taken = c.0; given = d.0; notes = unwrap_or n.0 []; regulatory = unwrap_or r.0 [] },
          rw (a.1, b.1, c.1, d.1, n.1, r.1) refl,
        )

    -- they say something
    pub contents-fine : (m : Mt103) × (contents_of t fs found ≡ Ok m)
    unfolding contents_in_parts
    contents-fine =
        let m : Mt103 = transfer_of_parts terms-fine.0 parties-fine.0 details-fine.0 in
        let whole : contents_in_parts t fs found ≡ Ok m = rw (terms-fine.1, parties-fine.1, details-fine.1) refl in
        (m, sym (contents-are t fs found) ∙ whole)

    -- and where the instructions stand together, that is what is read
    pub read-fine : (m : Mt103) → contents_of t fs found ≡ Ok m → first_of (e46 m.instrs ∷ d98 m.instrs ∷ []) ≡ None → mt103_of t fs ≡ Ok m
    unfolding mt103_of
    read-fine m e together = rw (none, e, together) refl
