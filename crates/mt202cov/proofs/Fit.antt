-- The fields that a cover is written as may stand in a text.
use Rattle.std.proofs.Common.{◌≡◌, ℕ, ◌≤◌, ◌⊎◌, List, [], ◌∷◌, ◌++◌, map, get_or, Option, Some, None, Ok, refl, sym, arith, inl, inr}
use Rattle.std.specs.Prelude.{IfSome, unwrap_or, true}
use Rattle.std.specs.Char.{is_ascii_uppercase}
use Rattle.std.specs.List.{All, AllByRecursion}
use Rattle.corr_money.specs.declared.amount.Amount.{Amount}
use Rattle.ref_tables.specs.Seen.{Tables}
use Rattle.fin_fields.specs.declared.field.Field.{Field}
use Rattle.fin_fields.specs.Writing.{IsField}
use Rattle.fin_layout.specs.Contents.{in_option, in_place}
use Rattle.fin_layout.specs.Segments.{joined}
use Rattle.fin_parties.specs.Writing.{party_field}
use Rattle.fin_parties.specs.declared.party.Party.{Party}
use Rattle.fin_contents.specs.Money.{ccy_amount_of, value_of}
use Rattle.fin_contents.specs.Parties.{known_party_of}
use Rattle.fin_contents.specs.Plain.{reference_of, texts_of, time_of}
use Rattle.fin_contents.specs.Writing.{IsAmount, IsHeading, ccy_amount_field, line_field, lines_field, lines_fields, some_field}
use Rattle.fin_contents.proofs.laws.Again.{reference-kept, texts-kept, time-kept}
use Rattle.fin_contents.proofs.laws.Back.{each-weaker, some-weaker}
use Rattle.fin_contents.proofs.laws.Fit.{ccy_amount-fit, kept-fit, value-fit}
use Rattle.fin_contents.proofs.laws.Placed.{Each, all-each, each-append, each-joined, lines-each, party-fit-at, some-each}
use Rattle.fin_contents.proofs.laws.Said.{HoldsInPlaces, Said, Stands, said-all, said-one, said-option}
use Rattle.mt202cov.specs.Writing.{bank_fields, segments, sequence_a_fields, sequence_b_fields, terms_fields, value_said}
use Rattle.mt202cov.specs.inner.Writing.{AreAmounts}
use Rattle.mt202cov.specs.declared.message.Mt202Cov.{Mt202Cov}
use Rattle.mt202cov.specs.Order.{order_202}
use Rattle.mt202cov.proofs.Readings.{LinesRead, Readings}
use Rattle.mt202cov.proofs.Written.{any}

plain : (tag : ℕ) → tag ≤ 99 → IsHeading tag None
plain tag le = record { two_digits = le; capital = tt }

lettered : (tag letter : ℕ) → tag ≤ 99 → IfSome (Some letter) (λ c. is_ascii_uppercase c ≡ true) → IsHeading tag (Some letter)
lettered tag letter le is = record { two_digits = le; capital = is }

ordered-fit : (t : Tables) (Q : Field → Type 0) (o : Option Amount) → IfSome o IsAmount → IfSome o (Said Q (ccy_amount_of t))
    → AllByRecursion IsField (some_field (ccy_amount_field 33 (Some 66)) o)
ordered-fit t Q None is s = tt
ordered-fit t Q (Some x) is s = (ccy_amount-fit 33 (Some 66) t s.field x (lettered 33 66 (omega arith) refl) is s.says, tt)

module _ (t : Tables) (fs : List Field) (found : List ℕ) (h : HoldsInPlaces (Stands order_202 IsField) found fs) where
  reference-fit : (k tag : ℕ) → tag ≤ 99 → (x : List ℕ) → in_place order_202 fs found k reference_of ≡ Ok x → IsField (line_field tag None x)
  reference-fit k tag le x e =
      let s = said-one (Stands order_202 IsField) fs k reference_of order_202 found x h e in
      kept-fit tag None s.field (x ∷ []) (plain tag le) (reference-kept s.field x s.says) s.holds.has

  time-fit : (x : List ℕ) → Said (Stands order_202 IsField 2) time_of x → IsField (line_field 13 (Some 67) x)
  time-fit x s = kept-fit 13 (Some 67) s.field (x ∷ []) (lettered 13 67 (omega arith) refl) (time-kept s.field x s.says) s.holds.has

  module _ (k tag : ℕ) (at : (get_or order_202 k any).tag ≡ tag) where
    said-fit : (p : Party) → Said (Stands order_202 IsField k) (known_party_of t) p → IsField (party_field tag p)
    said-fit p s = party-fit-at order_202 IsField k tag any at t p (λ f is. is) s

    party-fit : (p : Party) → in_place order_202 fs found k (known_party_of t) ≡ Ok p → IsField (party_field tag p)
    party-fit p e = said-fit p (said-one (Stands order_202 IsField) fs k (known_party_of t) order_202 found p h e)

    some-party-fit : (o : Option Party) → in_option fs found k (known_party_of t) ≡ Ok o → AllByRecursion IsField (some_field (party_field tag) o)
    some-party-fit o e =
        let said = said-option (Stands order_202 IsField) fs k (known_party_of t) found o h e in
        some-each IsField (party_field tag) o
        (some-weaker (Said (Stands order_202 IsField k) (known_party_of t)) (λ p. IsField (party_field tag p)) o said said-fit)

  notes-fit : (k most tag : ℕ) → tag ≤ 99 → (lines : List (List ℕ)) → LinesRead fs found k most lines → AllByRecursion IsField (lines_fields tag None lines)
  notes-fit k most tag le lines (o, e, same) = lines-each IsField tag None lines (by o e same)
    where
      by : (o : Option (List (List ℕ))) → in_option fs found k (texts_of most) ≡ Ok o → unwrap_or o [] ≡ lines
          → (lines ≡ []) ⊎ IsField (lines_field tag None lines)
      by None e same = inl (sym same)
      by (Some ls) e same =
          let s = said-option (Stands order_202 IsField) fs k (texts_of most) found (Some ls) h e in
          inr (rw (← same) (kept-fit tag None s.field ls (plain tag le) (texts-kept most s.field ls s.says) s.holds.has))

  times-fit : (m : Mt202Cov) → Readings t fs found m → AllByRecursion IsField (map (line_field 13 (Some 67)) m.times)
  times-fit m r =
      let said = said-all (Stands order_202 IsField) fs 2 time_of 0 found fs m.times h r.times in
      all-each IsField (line_field 13 (Some 67)) m.times
      (each-weaker (Said (Stands order_202 IsField 2) time_of) (λ x. IsField (line_field 13 (Some 67) x)) m.times said time-fit)

  terms-fit : (m : Mt202Cov) → Readings t fs found m → AreAmounts m → Each IsField (terms_fields m)
  terms-fit m r amounts =
      let reference = reference-fit 0 20 (omega arith) m.reference r.reference in
      let related = reference-fit 1 21 (omega arith) m.related r.related in
      let said = said-one (Stands order_202 IsField) fs 3 (value_of t) order_202 found (value_said m) h r.value in
      let value = value-fit t said.field (value_said m) amounts.value said.says in
      ((reference, tt), ((related, tt), (times-fit m r, ((value, tt), tt))))

  banks-fit : (m : Mt202Cov) → Readings t fs found m → Each IsField (bank_fields m)
  banks-fit m r =
      let a52 = some-party-fit 4 52 refl m.a52 r.a52 in
      let a53 = some-party-fit 5 53 refl m.a53 r.a53 in
      let a54 = some-party-fit 6 54 refl m.a54 r.a54 in
      let a56 = some-party-fit 7 56 refl m.a56 r.a56 in
      let a57 = some-party-fit 8 57 refl m.a57 r.a57 in
      let a58 = party-fit 9 58 refl m.a58 r.a58 in
      (a52, (a53, (a54, (a56, (a57, ((a58, tt), tt))))))

  sequence_a-fit : (m : Mt202Cov) → Readings t fs found m → AreAmounts m → Each IsField (sequence_a_fields m)
  sequence_a-fit m r amounts =
      let notes = lines_fields 72 None m.a_notes ∷ [] in
      let notes_fit : Each IsField notes = (notes-fit 10 6 72 (omega arith) m.a_notes r.a_notes, tt) in
      let later = each-append IsField (bank_fields m) notes (banks-fit m r) notes_fit in
      each-append IsField (terms_fields m) (bank_fields m ++ notes) (terms-fit m r amounts) later

  sequence_b-fit : (m : Mt202Cov) → Readings t fs found m → AreAmounts m → Each IsField (sequence_b_fields m)
  sequence_b-fit m r amounts =
      let payer = party-fit 11 50 refl m.payer r.payer in
      let b52 = some-party-fit 12 52 refl m.b52 r.b52 in
      let b56 = some-party-fit 13 56 refl m.b56 r.b56 in
      let b57 = some-party-fit 14 57 refl m.b57 r.b57 in
      let payee = party-fit 15 59 refl m.payee r.payee in
      let info = notes-fit 16 4 70 (omega arith) m.info r.info in
      let notes = notes-fit 17 6 72 (omega arith) m.b_notes r.b_notes in
      let said = said-option (Stands order_202 IsField) fs 18 (ccy_amount_of t) found m.ordered h r.ordered in
      let ordered = ordered-fit t (Stands order_202 IsField 18) m.ordered amounts.ordered said in
      ((payer, tt), (b52, (b56, (b57, ((payee, tt), (info, (notes, (ordered, tt))))))))

  pub all-fit : (m : Mt202Cov) → Readings t fs found m → AreAmounts m → All IsField (joined (segments m))
  all-fit m r amounts =
      let both = each-append IsField (sequence_a_fields m) (sequence_b_fields m) (sequence_a-fit m r amounts) (sequence_b-fit m r amounts) in
      each-joined IsField (segments m) both
