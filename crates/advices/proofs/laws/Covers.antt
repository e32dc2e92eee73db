-- The fields of a cover that is sent for a transfer stand in their order, none is missing, and each content passes its test.
use Rattle.std.proofs.Common.{◌≡◌, ℕ, ◌+◌, true, List, [], ◌∷◌, drop, Some, None, Result, Ok, refl, arith}
use Rattle.std.specs.Prelude.{codes}
use Rattle.corr_text.specs.First.{first_of}
use Rattle.corr_text.specs.declared.fault.Code.{Code}
use Rattle.corr_ids.specs.Bic.{IsBic}
use Rattle.corr_ids.specs.declared.bic.Bic.{Bic}
use Rattle.corr_money.specs.declared.amount.Amount.{Amount}
use Rattle.ref_tables.specs.Seen.{Tables, has_head}
use Rattle.fin_fields.specs.declared.field.Field.{Field}
use Rattle.fin_layout.specs.Order.{free_after}
use Rattle.fin_layout.specs.Segments.{joined}
use Rattle.fin_layout.proofs.laws.Fine.{IsTestOf}
use Rattle.fin_parties.specs.Party.{form_of}
use Rattle.fin_parties.specs.declared.form.Form.TheVariants.{BankA}
use Rattle.fin_parties.specs.declared.party.Party.{Party}
use Rattle.fin_parties.specs.declared.party.Party.TheVariants as party
use Rattle.fin_contents.specs.declared.value.Value.{Value}
use Rattle.fin_contents.specs.Money.{value_of}
use Rattle.fin_contents.specs.Parties.{known_party_of}
use Rattle.fin_contents.specs.Plain.{reference_of, texts_of}
use Rattle.fin_contents.specs.Writing.{line_field, value_field}
use Rattle.mt103.specs.Message.{content_test as content_103, field_tests as tests_103}
use Rattle.mt103.specs.Order.{order_103}
use Rattle.mt202cov.specs.Message.{content_test, field_tests}
use Rattle.mt202cov.specs.Order.{order_202}
use Rattle.day_model.specs.declared.pay.Mt.TheVariants.{Transfer}
use Rattle.day_model.specs.declared.pay.Skip.{Skip}
use Rattle.advices.specs.declared.received.Received.{Received}
use Rattle.advices.specs.Fields.{bank_field, copied, is_named}
use Rattle.advices.specs.Received.{ordering}
use Rattle.advices.specs.Cover.{cover_fields}
use Rattle.advices.specs.Transfer.{account_bank, intermediary, ordered_amount}
use Rattle.advices.specs.inner.Spelled.{IsWritableAmount}
use Rattle.advices.specs.Valid.{IsTabled}
use Rattle.advices.proofs.laws.Banks.{bank-read, ordering-of-transfer}
use Rattle.advices.proofs.laws.Copies.{only_from}
use Rattle.advices.proofs.laws.Fitted.{covers, first_for, IsPartedInto, parted-pass, row}
use Rattle.advices.proofs.laws.Seats.{AllSeated, Seated, ◌▸◌, copy-seated, no-more, none-seated, one-seated, opening, seated-56, seated-57}
use Rattle.advices.proofs.laws.TakenOver.{has-payee, has-payer, one-payer, ordered-seated}

form-58 : form_of 58 (Some 65) ≡ Some BankA
unfolding form_of
form-58 = refl

-- after 50a, the next place that is free is the one after its own
free-11 : free_after order_202 11 ≡ 12
free-11 = refl

-- the fields of each place of a cover that is sent for a transfer, with this 52a
abbrev pub cover_segs : List Field → List ℕ → List ℕ → Value → Amount → Bic → Skip → Field → List (List Field)
cover_segs fs reference related v ordered end skip f52 =
    (line_field 20 None reference ∷ [])
    ∷ (line_field 21 None related ∷ [])
    ∷ []
    ∷ (value_field v ∷ [])
    ∷ []
    ∷ []
    ∷ []
    ∷ []
    ∷ []
    ∷ (bank_field 58 end ∷ [])
    ∷ []
    ∷ copied 50 (codes "AFK") fs
    ∷ (f52 ∷ [])
    ∷ intermediary skip fs
    ∷ account_bank skip fs
    ∷ copied 59 (codes " AF") fs
    ∷ copied 70 (codes " ") fs
    ∷ copied 72 (codes " ") fs
    ∷ ordered_amount ordered fs
    ∷ []

module _ (t : Tables) (r : Received) (fs : List Field) (mt : r.mt ≡ Transfer) (same : r.fields ≡ fs) (none : first_of (tests_103 t fs) ≡ None)
    (sender : IsBic r.sender) (known : has_head t r.sender.head ≡ true) (reference related : List ℕ)
    (one : reference_of (line_field 20 None reference) ≡ Ok reference) (two : reference_of (line_field 21 None related) ≡ Ok related)
    (v : Value) (four : value_of t (value_field v) ≡ Ok v) (ordered : Amount) (spelled : IsWritableAmount ordered) (tabled : IsTabled t ordered)
    (end : Bic) (end_is : IsBic end) (end_known : has_head t end.head ≡ true) (skip : Skip) where
  abbrev Here : ℕ → ℕ → List Field → Type 0
  Here low n s = Seated order_202 (content_test t) low n s

  -- a field of the place k of the transfer is taken over to the place n after `low`
  over : {A : Type 0} (low n tag : ℕ) (letters : List ℕ) (k : ℕ) (read : Field → Result A Code) → only_from tag letters (k ∷ []) 0 order_103 ≡ true
      → IsTestOf (content_103 t) k read → IsTestOf (content_test t) (low + n) read → first_for tag letters (drop low order_202) n ≡ true
      → Here low n (copied tag letters fs)
  over low n tag letters k read only was of is =
      copy-seated order_103 (content_103 t) fs none order_202 (content_test t) low n tag letters (k ∷ []) read only (was, tt) of is

  -- ---- the field of each place

  -- the first sequence
  s0 : Here 0 0 (line_field 20 None reference ∷ [])
  s0 = one-seated order_202 (content_test t) 0 0 20 (codes " ") reference_of (λ f. refl) refl (line_field 20 None reference) reference refl one

  s1 : Here 0 1 (line_field 21 None related ∷ [])
  s1 = one-seated order_202 (content_test t) 0 1 21 (codes " ") reference_of (λ f. refl) refl (line_field 21 None related) related refl two

  s3 : Here 0 3 (value_field v ∷ [])
  s3 = one-seated order_202 (content_test t) 0 3 32 (codes "A") (value_of t) (λ f. refl) refl (value_field v) v refl four

  s9 : Here 0 9 (bank_field 58 end ∷ [])
  s9 =
      let bank = bank-read t 58 end form-58 end_is end_known in
      one-seated order_202 (content_test t) 0 9 58 (codes "A") (known_party_of t) (λ f. refl) refl (bank_field 58 end) (party.A None end) refl bank

  -- at 13C, 52a to 57a and 72 there is none
  no : (n : ℕ) → Here 0 n []
  no n = none-seated order_202 (content_test t) 0 n

  -- the second, which begins with 50a
  s11 : Here 0 11 (copied 50 (codes "AFK") fs)
  s11 = over 0 11 50 (codes "AFK") 8 (known_party_of t) refl (λ f. refl) (λ f. refl) refl

  s12 : (f52 : Field) (bank : Party) → is_named 52 (codes "AD") f52 ≡ true → known_party_of t f52 ≡ Ok bank → Here 12 0 (f52 ∷ [])
  s12 f52 bank named says = one-seated order_202 (content_test t) 12 0 52 (codes "AD") (known_party_of t) (λ f. refl) refl f52 bank named says

  s13 : Here 12 1 (intermediary skip fs)
  s13 = seated-56 order_202 (content_test t) 12 1 skip fs (over 12 1 56 (codes "ACD") 13 (known_party_of t) refl (λ f. refl) (λ f. refl) refl)

  s14 : Here 12 2 (account_bank skip fs)
  s14 = seated-57 order_202 (content_test t) 12 2 skip fs (over 12 2 57 (codes "ABCD") 14 (known_party_of t) refl (λ f. refl) (λ f. refl) refl)

  s15 : Here 12 3 (copied 59 (codes " AF") fs)
  s15 = over 12 3 59 (codes " AF") 15 (known_party_of t) refl (λ f. refl) (λ f. refl) refl

  s16 : Here 12 4 (copied 70 (codes " ") fs)
  s16 = over 12 4 70 (codes " ") 16 (texts_of 4) refl (λ f. refl) (λ f. refl) refl

  s17 : Here 12 5 (copied 72 (codes " ") fs)
  s17 = over 12 5 72 (codes " ") 20 (texts_of 6) refl (λ f. refl) (λ f. refl) refl

  s18 : Here 12 6 (ordered_amount ordered fs)
  s18 = ordered-seated t fs none order_202 (content_test t) 12 6 (λ f. refl) refl ordered spelled tabled

  -- ---- all of them

  module _ (f52 : Field) (bank : Party) (is_52 : is_named 52 (codes "AD") f52 ≡ true) (says_52 : known_party_of t f52 ≡ Ok bank) where
    abbrev segs : List (List Field)
    segs = cover_segs fs reference related v ordered end skip f52

    after-50a : AllSeated order_202 (content_test t) 12 12 (drop 12 segs)
    after-50a = s12 f52 bank is_52 says_52 ▸ s13 ▸ s14 ▸ s15 ▸ s16 ▸ s17 ▸ s18 ▸ no-more order_202 (content_test t) 12 19

    from-50a : AllSeated order_202 (content_test t) 0 11 (drop 11 segs)
    from-50a = opening s11 after-50a (one-payer t fs none) (omega (arith, free-11))

    seated : AllSeated order_202 (content_test t) 0 0 segs
    seated = s0 ▸ s1 ▸ no 2 ▸ s3 ▸ no 4 ▸ no 5 ▸ no 6 ▸ no 7 ▸ no 8 ▸ s9 ▸ no 10 ▸ from-50a

    whole : covers order_202 segs ≡ true
    whole = rw (has-payer t fs none, has-payee t fs none) refl

  -- the fields that are sent are these
  sent-fields : (f52 : Field) (bank : Party) (is_52 : is_named 52 (codes "AD") f52 ≡ true) (says_52 : known_party_of t f52 ≡ Ok bank)
      → ordering r ≡ f52 ∷ []
      → cover_fields r reference related v ordered end skip ≡ joined (segs f52 bank is_52 says_52)
  unfolding cover_fields
  sent-fields f52 bank is_52 says_52 e = rw (e, same) refl

  -- place by place
  pub cover-parted : (f52 : Field)
      × IsPartedInto order_202 (content_test t) (cover_fields r reference related v ordered end skip) (cover_segs fs reference related v ordered end skip f52)
      × (covers order_202 (cover_segs fs reference related v ordered end skip f52) ≡ true)
  cover-parted =
      let b = ordering-of-transfer t r fs mt same none sender known in
      let sent = seated b.field b.bank b.named b.says in (
        b.field,
        record { same = sent-fields b.field b.bank b.named b.says b.same; placed = sent.placed; fine = sent.passing },
        whole b.field b.bank b.named b.says,
      )

  pub cover-fields-pass : first_of (field_tests t (cover_fields r reference related v ordered end skip)) ≡ None
  cover-fields-pass =
      let p = cover-parted in
      parted-pass order_202 row (content_test t) (cover_fields r reference related v ordered end skip)
      (cover_segs fs reference related v ordered end skip p.0) p.1 p.2
