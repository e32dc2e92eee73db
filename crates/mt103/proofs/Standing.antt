-- The fields that are written of a transfer that was read stand in its order and may stand in a text.
use Rattle.std.proofs.Common.{◌≡◌, ℕ, ◌≤◌, ◌⊎◌, List, [], ◌∷◌, ◌++◌, get_or, drop, Option, Some, None, Result, Ok, false, refl, sym, ◌∙◌, arith, inl, inr}
use Rattle.std.specs.Prelude.{IsTrue, map, unwrap_or}
use Rattle.std.specs.List.{All, AllByRecursion}
use Rattle.corr_text.specs.declared.fault.Code.{Code}
use Rattle.corr_money.specs.declared.amount.Amount.{Amount}
use Rattle.ref_tables.specs.Seen.{Tables, few_decimals}
use Rattle.fin_fields.specs.declared.field.Field.{Field}
use Rattle.fin_fields.specs.Writing.{IsField}
use Rattle.fin_layout.specs.declared.place.Place.{Place}
use Rattle.fin_layout.specs.Contents.{in_option, in_place}
use Rattle.fin_layout.specs.Order.{places_from}
use Rattle.fin_layout.specs.inner.Segments.{Segments}
use Rattle.fin_layout.proofs.laws.PlaceByPlace.{Placed, ◌▸◌, no-more, opening}
use Rattle.fin_parties.specs.Writing.{party_field}
use Rattle.fin_parties.specs.declared.party.Party.{Party}
use Rattle.fin_contents.specs.Money.{ccy_amount_of, rate_of, value_of}
use Rattle.fin_contents.specs.Parties.{known_party_of}
use Rattle.fin_contents.specs.Plain.{reference_of, texts_of, time_of}
use Rattle.fin_contents.specs.Writing.{IsAmount, IsHeading, IsValue, ccy_amount_field, line_field, lines_field, lines_fields, some_field, value_field}
use Rattle.fin_contents.proofs.laws.Again.{ccy_amount-is, rate-kept, reference-kept, texts-kept, time-kept, value-is}
use Rattle.fin_contents.proofs.laws.Back.{each-all, each-weaker, some-all, some-weaker}
use Rattle.fin_contents.proofs.laws.Fit.{ccy_amount-fit, kept-fit, value-fit}
use Rattle.fin_contents.proofs.laws.PartyPlaces.{one-party, some-party}
use Rattle.fin_contents.proofs.laws.Placed.{Each, all-each, all-of, all-segment, lines-each, lines-segment, one-segment, each-append, party-fit-at, some-each, some-segment}
use Rattle.fin_contents.proofs.laws.Said.{HoldsInPlaces, Said, Stands, said-all, said-one, said-option, stand}
use Rattle.mt103.specs.Codes.{charge_of, instr_of, kind_of, operation_of}
use Rattle.mt103.specs.inner.Parts.{Details, Parties, Terms, transfer_of_parts}
use Rattle.mt103.specs.Writing.{detail_segments, instr_field, money_fields, head_segments, party_segments, segments, text_after}
use Rattle.mt103.specs.inner.Writing.{AreAmounts}
use Rattle.mt103.specs.declared.instruction.Instr.{Instr}
use Rattle.mt103.specs.Order.{order_103}
use Rattle.mt103.proofs.Kept.{charge-kept, instr-kept, kind-kept, operation-kept}
use Rattle.mt103.proofs.Says.{DetailsSay, LinesSay, PartiesSay, TermsSay}

abbrev pub some_place : Place
some_place = record { tag = 0; options = []; many = false; must = false }

bare : (tag : ℕ) → tag ≤ 99 → IsHeading tag None
bare tag le = record { two_digits = le; capital = tt }

module _ (t : Tables) (few : IsTrue (few_decimals t.ccys)) (fs : List Field) (fit : All IsField fs) (a : Terms) (b : Parties) (c : Details)
    (r : TermsSay t fs (places_from order_103 0 fs) a) (s : PartiesSay t fs (places_from order_103 0 fs) b)
    (u : DetailsSay t fs (places_from order_103 0 fs) c) where
  abbrev found : List ℕ
  found = places_from order_103 0 fs

  abbrev At : ℕ → Field → Type 0
  At k f = Stands order_103 IsField k f

  here : HoldsInPlaces At found fs
  here = stand order_103 IsField 0 fs fit

  -- ---- amounts

  is-amount : (k : ℕ) (x : Amount) → Said (At k) (ccy_amount_of t) x → IsAmount x
  is-amount k x said = ccy_amount-is t said.field x few said.says

  is-value : IsValue a.value
  is-value = let said = said-one At fs 5 (value_of t) order_103 found a.value here r.value in value-is t said.field a.value few said.says

  pub amounts-are : AreAmounts (transfer_of_parts a b c)
  amounts-are =
      let ordered = said-option At fs 6 (ccy_amount_of t) found a.ordered here r.ordered in
      let taken = said-all At fs 18 (ccy_amount_of t) 0 found fs c.taken here u.taken in
      let given = said-option At fs 19 (ccy_amount_of t) found c.given here u.given in
      record {
        value = is-value;
        ordered = some-weaker (Said (At 6) (ccy_amount_of t)) IsAmount a.ordered ordered (is-amount 6);
        taken = all-of IsAmount c.taken (each-weaker (Said (At 18) (ccy_amount_of t)) IsAmount c.taken taken (is-amount 18));
        given = some-weaker (Said (At 19) (ccy_amount_of t)) IsAmount c.given given (is-amount 19);
      }

  -- ---- what may stand in a text

  kept : {A : Type 0} (k tag : ℕ) (letter : Option ℕ) (read : Field → Result A Code) (write : A → List ℕ) (x : A)
      → ((f : Field) → read f ≡ Ok x → f.lines ≡ write x ∷ []) → IsHeading tag letter → Said (At k) read x → IsField (line_field tag letter (write x))
  kept k tag letter read write x keeps head said = kept-fit tag letter said.field (write x ∷ []) head (keeps said.field said.says) said.holds.has

  abbrev plain : List ℕ → List ℕ
  plain x = x

  reference-fit : IsField (line_field 20 None a.reference)
  reference-fit =
      let said = said-one At fs 0 reference_of order_103 found a.reference here r.reference in
      kept 0 20 None reference_of plain a.reference (λ f e. reference-kept f a.reference e) (bare 20 (omega arith)) said

  time-fit : (x : List ℕ) → Said (At 1) time_of x → IsField (line_field 13 (Some 67) x)
  time-fit x said = kept 1 13 (Some 67) time_of plain x (λ f e. time-kept f x e) (record { two_digits = omega arith; capital = refl }) said

  times-fit : AllByRecursion IsField (map (line_field 13 (Some 67)) a.times)
  times-fit =
      let said = said-all At fs 1 time_of 0 found fs a.times here r.times in
      all-each IsField (line_field 13 (Some 67)) a.times (each-weaker (Said (At 1) time_of) _ a.times said time-fit)

  operation-fit : IsField (line_field 23 (Some 66) a.op)
  operation-fit =
      let said = said-one At fs 2 operation_of order_103 found a.op here r.op in
      kept 2 23 (Some 66) operation_of plain a.op (λ f e. operation-kept f a.op e) (record { two_digits = omega arith; capital = refl }) said

  instr-fit : (x : Instr) → Said (At 3) instr_of x → IsField (instr_field x)
  instr-fit x said =
      kept 3 23 (Some 69) instr_of (λ i. i.code ++ text_after i.text) x (λ f e. instr-kept f x e) (record { two_digits = omega arith; capital = refl }) said

  instrs-fit : AllByRecursion IsField (map instr_field a.instrs)
  instrs-fit =
      let said = said-all At fs 3 instr_of 0 found fs a.instrs here r.instrs in
      all-each IsField instr_field a.instrs (each-weaker (Said (At 3) instr_of) _ a.instrs said instr-fit)

  kind-fit : (x : List ℕ) → Said (At 4) kind_of x → IsField (line_field 26 (Some 84) x)
  kind-fit x said = kept 4 26 (Some 84) kind_of plain x (λ f e. kind-kept f x e) (record { two_digits = omega arith; capital = refl }) said

  kinds-fit : AllByRecursion IsField (some_field (line_field 26 (Some 84)) a.kind)
  kinds-fit =
      let said = said-option At fs 4 kind_of found a.kind here r.kind in
      some-each IsField (line_field 26 (Some 84)) a.kind (some-weaker (Said (At 4) kind_of) _ a.kind said kind-fit)

  order-fit : Each IsField (head_segments (transfer_of_parts a b c))
  order-fit = ((reference-fit, tt), (times-fit, ((operation-fit, tt), (instrs-fit, (kinds-fit, tt)))))

  amount-fit : (k tag letter : ℕ) (x : Amount) → IsHeading tag (Some letter) → Said (At k) (ccy_amount_of t) x → IsField (ccy_amount_field tag (Some letter) x)
  amount-fit k tag letter x head said = ccy_amount-fit tag (Some letter) t said.field x head (is-amount k x said) said.says

  value-fits : IsField (value_field a.value)
  value-fits = let said = said-one At fs 5 (value_of t) order_103 found a.value here r.value in value-fit t said.field a.value is-value said.says

  -- an amount that may be there
  some-amount-fit : (k tag letter : ℕ) (o : Option Amount) → IsHeading tag (Some letter) → in_option fs found k (ccy_amount_of t) ≡ Ok o
      → AllByRecursion IsField (some_field (ccy_amount_field tag (Some letter)) o)
  some-amount-fit k tag letter o head e =
      let said = said-option At fs k (ccy_amount_of t) found o here e in
      some-each IsField (ccy_amount_field tag (Some letter)) o
      (some-weaker (Said (At k) (ccy_amount_of t)) _ o said (λ (x : Amount) one. amount-fit k tag letter x head one))

  rate-fit : (x : List ℕ) → Said (At 7) rate_of x → IsField (line_field 36 None x)
  rate-fit x said = kept 7 36 None rate_of plain x (λ f e. rate-kept f x e) (bare 36 (omega arith)) said

  rates-fit : AllByRecursion IsField (some_field (line_field 36 None) a.rate)
  rates-fit =
      let said = said-option At fs 7 rate_of found a.rate here r.rate in
      some-each IsField (line_field 36 None) a.rate (some-weaker (Said (At 7) rate_of) _ a.rate said rate-fit)

  money-fit : Each IsField (money_fields (transfer_of_parts a b c))
  money-fit = ((value-fits, tt), (some-amount-fit 6 33 66 a.ordered (record { two_digits = omega arith; capital = refl }) r.ordered, (rates-fit, tt)))

  party-fits : (k tag : ℕ) → (get_or order_103 k some_place).tag ≡ tag → (p : Party) → Said (At k) (known_party_of t) p → IsField (party_field tag p)
  party-fits k tag at p said = party-fit-at order_103 IsField k tag some_place at t p (λ f is. is) said

  one-party-fit : (k tag : ℕ) → (get_or order_103 k some_place).tag ≡ tag → (p : Party) → in_place order_103 fs found k (known_party_of t) ≡ Ok p
      → IsField (party_field tag p)
  one-party-fit k tag at p e = party-fits k tag at p (said-one At fs k (known_party_of t) order_103 found p here e)

  some-party-fit : (k tag : ℕ) → (get_or order_103 k some_place).tag ≡ tag → (o : Option Party) → in_option fs found k (known_party_of t) ≡ Ok o
      → AllByRecursion IsField (some_field (party_field tag) o)
  some-party-fit k tag at o e =
      let said = said-option At fs k (known_party_of t) found o here e in
      some-each IsField (party_field tag) o (some-weaker (Said (At k) (known_party_of t)) _ o said (party-fits k tag at))

  parties-fit : Each IsField (party_segments (transfer_of_parts a b c))
  parties-fit =
      let payer = one-party-fit 8 50 refl b.payer s.payer in
      let p52 = some-party-fit 9 52 refl b.p52 s.p52 in
      let p53 = some-party-fit 10 53 refl b.p53 s.p53 in
      let p54 = some-party-fit 11 54 refl b.p54 s.p54 in
      let p55 = some-party-fit 12 55 refl b.p55 s.p55 in
      let p56 = some-party-fit 13 56 refl b.p56 s.p56 in
      let p57 = some-party-fit 14 57 refl b.p57 s.p57 in
      let payee = one-party-fit 15 59 refl b.payee s.payee in
      ((payer, tt), (p52, (p53, (p54, (p55, (p56, (p57, ((payee, tt), tt))))))))

  lines-fit : (k most tag : ℕ) (letter : Option ℕ) (lines : List (List ℕ)) → IsHeading tag letter → LinesSay fs found k most lines
      → AllByRecursion IsField (lines_fields tag letter lines)
  lines-fit k most tag letter lines head say = lines-each IsField tag letter lines (go say.said say.read say.same)
    where
      go : (o : Option (List (List ℕ))) → in_option fs found k (texts_of most) ≡ Ok o → unwrap_or o [] ≡ lines
          → (lines ≡ []) ⊎ IsField (lines_field tag letter lines)
      go None e same = inl (sym same)
      go (Some ls) e same =
          let said = said-option At fs k (texts_of most) found (Some ls) here e in
          inr (kept-fit tag letter said.field lines head (texts-kept most said.field ls said.says ∙ same) said.holds.has)

  charge-fit : IsField (line_field 71 (Some 65) c.charge)
  charge-fit =
      let said = said-one At fs 17 charge_of order_103 found c.charge here u.charge in
      kept 17 71 (Some 65) charge_of plain c.charge (λ f e. charge-kept f c.charge e) (record { two_digits = omega arith; capital = refl }) said

  taken-fit : AllByRecursion IsField (map (ccy_amount_field 71 (Some 70)) c.taken)
  taken-fit =
      let said = said-all At fs 18 (ccy_amount_of t) 0 found fs c.taken here u.taken in
      let head : IsHeading 71 (Some 70) = record { two_digits = omega arith; capital = refl } in
      all-each IsField (ccy_amount_field 71 (Some 70)) c.taken
      (each-weaker (Said (At 18) (ccy_amount_of t)) _ c.taken said (λ (x : Amount) one. amount-fit 18 71 70 x head one))

  details-fit : Each IsField (detail_segments (transfer_of_parts a b c))
  details-fit =
      let info = lines-fit 16 4 70 None c.info (bare 70 (omega arith)) u.info in
      let given = some-amount-fit 19 71 71 c.given (record { two_digits = omega arith; capital = refl }) u.given in
      let notes = lines-fit 20 6 72 None c.notes (bare 72 (omega arith)) u.notes in
      let regulatory = lines-fit 21 3 77 (Some 66) c.regulatory (record { two_digits = omega arith; capital = refl }) u.regulatory in
      (info, ((charge-fit, tt), (taken-fit, (given, (notes, (regulatory, tt))))))

  pub all-fit : Each IsField (segments (transfer_of_parts a b c))
  all-fit =
      let money = money_fields (transfer_of_parts a b c) in
      let parties = party_segments (transfer_of_parts a b c) in
      let details = detail_segments (transfer_of_parts a b c) in
      let later = each-append IsField parties details parties-fit details-fit in
      each-append IsField (head_segments (transfer_of_parts a b c)) (money ++ parties ++ details) order-fit
      (each-append IsField money (parties ++ details) money-fit later)

  -- ---- where the fields stand

  abbrev all : List (List Field)
  all = segments (transfer_of_parts a b c)

  -- from 71F on
  charges-placed : Placed order_103 18 18 (drop 18 all)
  charges-placed =
      all-segment order_103 18 18 (ccy_amount_field 71 (Some 70)) c.taken refl (each-all _ c.taken (λ (x : Amount). refl))
      ▸ some-segment order_103 18 19 (ccy_amount_field 71 (Some 71)) c.given (some-all _ c.given (λ (x : Amount). refl))
      ▸ lines-segment order_103 18 20 72 None c.notes refl
      ▸ lines-segment order_103 18 21 77 (Some 66) c.regulatory refl
      ▸ no-more order_103 18 22

  -- from 70 on
  details-placed : Placed order_103 16 16 (drop 16 all)
  details-placed =
      lines-segment order_103 16 16 70 None c.info refl
      ▸ opening (one-segment order_103 16 17 (line_field 71 (Some 65) c.charge) refl) charges-placed (omega arith) (omega arith)

  -- from 52a on
  banks-placed : Placed order_103 9 9 (drop 9 all)
  banks-placed =
      some-party order_103 IsField t fs found here some_place 9 9 52 refl refl refl refl b.p52 s.p52
      ▸ some-party order_103 IsField t fs found here some_place 9 10 53 refl refl refl refl b.p53 s.p53
      ▸ some-party order_103 IsField t fs found here some_place 9 11 54 refl refl refl refl b.p54 s.p54
      ▸ some-party order_103 IsField t fs found here some_place 9 12 55 refl refl refl refl b.p55 s.p55
      ▸ some-party order_103 IsField t fs found here some_place 9 13 56 refl refl refl refl b.p56 s.p56
      ▸ some-party order_103 IsField t fs found here some_place 9 14 57 refl refl refl refl b.p57 s.p57
      ▸ opening (one-party order_103 IsField t fs found here some_place 9 15 59 refl refl refl refl b.payee s.payee) details-placed (omega arith) (omega arith)

  -- from 33B on
  amounts-placed : Placed order_103 6 6 (drop 6 all)
  amounts-placed =
      some-segment order_103 6 6 (ccy_amount_field 33 (Some 66)) a.ordered (some-all _ a.ordered (λ (x : Amount). refl))
      ▸ some-segment order_103 6 7 (line_field 36 None) a.rate (some-all _ a.rate (λ (x : List ℕ). refl))
      ▸ opening (one-party order_103 IsField t fs found here some_place 6 8 50 refl refl refl refl b.payer s.payer) banks-placed (omega arith) (omega arith)

  -- from 23E on
  instrs-placed : Placed order_103 3 3 (drop 3 all)
  instrs-placed =
      all-segment order_103 3 3 instr_field a.instrs refl (each-all _ a.instrs (λ (x : Instr). refl))
      ▸ some-segment order_103 3 4 (line_field 26 (Some 84)) a.kind (some-all _ a.kind (λ (x : List ℕ). refl))
      ▸ opening (one-segment order_103 3 5 (value_field a.value) refl) amounts-placed (omega arith) (omega arith)

  -- from 13C on
  times-placed : Placed order_103 1 1 (drop 1 all)
  times-placed =
      all-segment order_103 1 1 (line_field 13 (Some 67)) a.times refl (each-all _ a.times (λ (x : List ℕ). refl))
      ▸ opening (one-segment order_103 1 2 (line_field 23 (Some 66) a.op) refl) instrs-placed (omega arith) (omega arith)

  all-placed : Placed order_103 0 0 all
  all-placed = opening (one-segment order_103 0 0 (line_field 20 None a.reference) refl) times-placed (omega arith) (omega arith)

  pub in-order : Segments order_103 0 0 (segments (transfer_of_parts a b c))
  in-order = all-placed.in_turn
