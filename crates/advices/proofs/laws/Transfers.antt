-- The fields of a transfer that is sent stand in their order, none is missing, and each content passes its test.
use Rattle.std.proofs.Common.{◌≡◌, ℕ, ◌+◌, ◌||◌, not, Bool, true, List, [], ◌∷◌, drop, Option, Some, None, Result, Ok, refl}
use Rattle.std.specs.Prelude.{codes, IfSome}
use Rattle.std.specs.List.{AllByRecursion}
use Rattle.corr_text.specs.First.{first_of}
use Rattle.corr_text.specs.declared.fault.Code.{Code}
use Rattle.corr_ids.specs.Bic.{IsBic}
use Rattle.corr_ids.specs.declared.bic.Bic.{Bic}
use Rattle.corr_money.specs.declared.amount.Amount.{Amount}
use Rattle.ref_tables.specs.Seen.{Tables, has_head}
use Rattle.fin_fields.specs.declared.field.Field.{Field}
use Rattle.fin_layout.specs.Segments.{joined}
use Rattle.fin_layout.proofs.laws.Fine.{IsTestOf}
use Rattle.fin_parties.specs.Party.{form_of}
use Rattle.fin_parties.specs.declared.form.Form.TheVariants.{BankA}
use Rattle.fin_parties.specs.declared.party.Party.{Party}
use Rattle.fin_parties.specs.declared.party.Party.TheVariants as party
use Rattle.fin_contents.specs.declared.value.Value.{Value}
use Rattle.fin_contents.specs.Money.{ccy_amount_of, rate_of, value_of}
use Rattle.fin_contents.specs.Parties.{known_party_of}
use Rattle.fin_contents.specs.Plain.{reference_of, texts_of}
use Rattle.fin_contents.specs.Writing.{ccy_amount_field, line_field, some_field, value_field}
use Rattle.fin_contents.proofs.laws.Bytes.{and-three}
use Rattle.mt103.specs.Codes.{charge_of, instr_of, kind_of, operation_of}
use Rattle.mt103.specs.Message.{content_test, field_tests}
use Rattle.mt103.specs.Order.{order_103}
use Rattle.day_model.specs.declared.pay.Mt.TheVariants.{Transfer}
use Rattle.day_model.specs.declared.pay.Skip.{Skip}
use Rattle.advices.specs.declared.received.Received.{Received}
use Rattle.advices.specs.Fields.{bank_field, copied, copied_all, is_named}
use Rattle.advices.specs.Received.{ordering}
use Rattle.advices.specs.Transfer.{account_bank, passed_instructions, intermediary, is_passed_on, is_there, ordered_amount, taken_fields, tells_account_bank, tells_intermediary, transfer_fields}
use Rattle.advices.specs.inner.Spelled.{IsWritableAmount}
use Rattle.advices.specs.Valid.{IsTabled}
use Rattle.advices.proofs.laws.Banks.{bank-read, ordering-of-transfer}
use Rattle.advices.proofs.laws.Copies.{SaysNamed, each-says, only_from}
use Rattle.advices.proofs.laws.Fitted.{covers, first_for, IsPartedInto, parted-pass, row}
use Rattle.advices.proofs.laws.Seats.{AllSeated, Seated, ◌▸◌, all-seated, both-seated, copy-seated, no-more, none-seated, one-seated, seated-56, seated-57}
use Rattle.advices.proofs.laws.TakenOver.{has-charge, has-operation, has-payee, has-payer, ordered-seated}
use Rattle.advices.proofs.laws.Values.{ChargeReads}

pub form-53 : form_of 53 (Some 65) ≡ Some BankA
unfolding form_of
form-53 = refl

-- the bank that covers it
via-seated : (t : Tables) (via : Option Bic) → IfSome via (λ b. IsBic b × (has_head t b.head ≡ true))
    → Seated order_103 (content_test t) 0 10 (some_field (bank_field 53) via)
via-seated t None h = none-seated order_103 (content_test t) 0 10
via-seated t (Some b) h =
    one-seated order_103 (content_test t) 0 10 53 (codes "A") (known_party_of t) (λ f. refl) refl (bank_field 53 b) (party.A None b) refl
    (bank-read t 53 b form-53 h.0 h.1)

-- our own charge
charge-seated : (t : Tables) (charge : Option Amount) → ChargeReads t charge
    → Seated order_103 (content_test t) 0 18 (some_field (ccy_amount_field 71 (Some 70)) charge)
charge-seated t None made = none-seated order_103 (content_test t) 0 18
charge-seated t (Some a) made =
    one-seated order_103 (content_test t) 0 18 71 (codes "F") (ccy_amount_of t) (λ f. refl) refl (ccy_amount_field 71 (Some 70) a) a refl made

-- an instruction that is passed on is one
passed-named : (has_56 has_57 : Bool) (f : Field) → is_passed_on has_56 has_57 f ≡ true → is_named 23 (codes "E") f ≡ true
passed-named has_56 has_57 f e = (and-three (is_named 23 (codes "E") f) (has_56 || not (tells_intermediary f)) (has_57 || not (tells_account_bank f)) e).0

-- the fields of each place of a transfer that is sent, with this 52a
abbrev pub transfer_segs : List Field → List ℕ → Value → Amount → Option Amount → Skip → Option Bic → Field → List (List Field)
transfer_segs fs reference v ordered charge skip via f52 =
    (line_field 20 None reference ∷ [])
    ∷ []
    ∷ copied 23 (codes "B") fs
    ∷ passed_instructions skip fs
    ∷ copied 26 (codes "T") fs
    ∷ (value_field v ∷ [])
    ∷ ordered_amount ordered fs
    ∷ copied 36 (codes " ") fs
    ∷ copied 50 (codes "AFK") fs
    ∷ (f52 ∷ [])
    ∷ some_field (bank_field 53) via
    ∷ []
    ∷ []
    ∷ intermediary skip fs
    ∷ account_bank skip fs
    ∷ copied 59 (codes " AF") fs
    ∷ copied 70 (codes " ") fs
    ∷ copied 71 (codes "A") fs
    ∷ taken_fields charge fs
    ∷ copied 71 (codes "G") fs
    ∷ copied 72 (codes " ") fs
    ∷ copied 77 (codes "B") fs
    ∷ []

module _ (t : Tables) (r : Received) (fs : List Field) (mt : r.mt ≡ Transfer) (same : r.fields ≡ fs) (none : first_of (field_tests t fs) ≡ None)
    (sender : IsBic r.sender) (known : has_head t r.sender.head ≡ true) (reference : List ℕ)
    (one : reference_of (line_field 20 None reference) ≡ Ok reference)
    (v : Value) (four : value_of t (value_field v) ≡ Ok v) (ordered : Amount) (spelled : IsWritableAmount ordered) (tabled : IsTabled t ordered)
    (charge : Option Amount) (charge_reads : ChargeReads t charge) (skip : Skip) (via : Option Bic) (via_is : IfSome via (λ b. IsBic b × (has_head t b.head ≡ true))) where
  abbrev Here : ℕ → List Field → Type 0
  Here n s = Seated order_103 (content_test t) 0 n s

  -- a field that is taken over keeps its place
  over : {A : Type 0} (n tag : ℕ) (letters : List ℕ) (read : Field → Result A Code) → only_from tag letters (n ∷ []) 0 order_103 ≡ true
      → IsTestOf (content_test t) n read → IsTestOf (content_test t) (0 + n) read → first_for tag letters (drop 0 order_103) n ≡ true
      → Here n (copied tag letters fs)
  over n tag letters read only was of is =
      copy-seated order_103 (content_test t) fs none order_103 (content_test t) 0 n tag letters (n ∷ []) read only (was, tt) of is

  -- and so do all fields of a name
  each : {A : Type 0} (n tag : ℕ) (letters : List ℕ) (read : Field → Result A Code) → only_from tag letters (n ∷ []) 0 order_103 ≡ true
      → IsTestOf (content_test t) n read → AllByRecursion (SaysNamed tag letters read) fs
  each n tag letters read only was = each-says order_103 (content_test t) fs none tag letters (n ∷ []) read only (was, tt)

  -- ---- the field of each place

  -- from 20 to 36
  s0 : Here 0 (line_field 20 None reference ∷ [])
  s0 = one-seated order_103 (content_test t) 0 0 20 (codes " ") reference_of (λ f. refl) refl (line_field 20 None reference) reference refl one

  s2 : Here 2 (copied 23 (codes "B") fs)
  s2 = over 2 23 (codes "B") operation_of refl (λ f. refl) (λ f. refl) refl

  s3 : Here 3 (passed_instructions skip fs)
  s3 =
      let has_56 = is_there (intermediary skip fs) in
      let has_57 = is_there (account_bank skip fs) in
      all-seated order_103 (content_test t) 0 3 23 (codes "E") instr_of (λ f. refl) refl (is_passed_on has_56 has_57)
      (λ f e. passed-named has_56 has_57 f e) fs refl
      (each 3 23 (codes "E") instr_of refl (λ f. refl))

  s4 : Here 4 (copied 26 (codes "T") fs)
  s4 = over 4 26 (codes "T") kind_of refl (λ f. refl) (λ f. refl) refl

  s5 : Here 5 (value_field v ∷ [])
  s5 = one-seated order_103 (content_test t) 0 5 32 (codes "A") (value_of t) (λ f. refl) refl (value_field v) v refl four

  s6 : Here 6 (ordered_amount ordered fs)
  s6 = ordered-seated t fs none order_103 (content_test t) 0 6 (λ f. refl) refl ordered spelled tabled

  s7 : Here 7 (copied 36 (codes " ") fs)
  s7 = over 7 36 (codes " ") rate_of refl (λ f. refl) (λ f. refl) refl

  -- the parties, from 50a to 59a
  s8 : Here 8 (copied 50 (codes "AFK") fs)
  s8 = over 8 50 (codes "AFK") (known_party_of t) refl (λ f. refl) (λ f. refl) refl

  s9 : (f52 : Field) (bank : Party) → is_named 52 (codes "AD") f52 ≡ true → known_party_of t f52 ≡ Ok bank → Here 9 (f52 ∷ [])
  s9 f52 bank named says = one-seated order_103 (content_test t) 0 9 52 (codes "AD") (known_party_of t) (λ f. refl) refl f52 bank named says

  s10 : Here 10 (some_field (bank_field 53) via)
  s10 = via-seated t via via_is

  s13 : Here 13 (intermediary skip fs)
  s13 = seated-56 order_103 (content_test t) 0 13 skip fs (over 13 56 (codes "ACD") (known_party_of t) refl (λ f. refl) (λ f. refl) refl)

  s14 : Here 14 (account_bank skip fs)
  s14 = seated-57 order_103 (content_test t) 0 14 skip fs (over 14 57 (codes "ABCD") (known_party_of t) refl (λ f. refl) (λ f. refl) refl)

  s15 : Here 15 (copied 59 (codes " AF") fs)
  s15 = over 15 59 (codes " AF") (known_party_of t) refl (λ f. refl) (λ f. refl) refl

  -- from 70 to 77B
  s16 : Here 16 (copied 70 (codes " ") fs)
  s16 = over 16 70 (codes " ") (texts_of 4) refl (λ f. refl) (λ f. refl) refl

  s17 : Here 17 (copied 71 (codes "A") fs)
  s17 = over 17 71 (codes "A") charge_of refl (λ f. refl) (λ f. refl) refl

  s18 : Here 18 (taken_fields charge fs)
  s18 =
      let came =
      all-seated order_103 (content_test t) 0 18 71 (codes "F") (ccy_amount_of t) (λ f. refl) refl (is_named 71 (codes "F")) (λ f e. e) fs refl
      (each 18 71 (codes "F") (ccy_amount_of t) refl (λ f. refl)) in
      both-seated order_103 (content_test t) 0 18 (copied_all (is_named 71 (codes "F")) fs) (some_field (ccy_amount_field 71 (Some 70)) charge) refl
      came (charge-seated t charge charge_reads)

  s19 : Here 19 (copied 71 (codes "G") fs)
  s19 = over 19 71 (codes "G") (ccy_amount_of t) refl (λ f. refl) (λ f. refl) refl

  s20 : Here 20 (copied 72 (codes " ") fs)
  s20 = over 20 72 (codes " ") (texts_of 6) refl (λ f. refl) (λ f. refl) refl

  s21 : Here 21 (copied 77 (codes "B") fs)
  s21 = over 21 77 (codes "B") (texts_of 3) refl (λ f. refl) (λ f. refl) refl

  -- at 13C, 54a and 55a there is none
  no : (n : ℕ) → Here n []
  no n = none-seated order_103 (content_test t) 0 n

  -- ---- all of them

  module _ (f52 : Field) (bank : Party) (is_52 : is_named 52 (codes "AD") f52 ≡ true) (says_52 : known_party_of t f52 ≡ Ok bank) where
    abbrev segs : List (List Field)
    segs = transfer_segs fs reference v ordered charge skip via f52

    from-parties : AllSeated order_103 (content_test t) 0 8 (drop 8 segs)
    from-parties =
        s8 ▸ s9 f52 bank is_52 says_52 ▸ s10 ▸ no 11 ▸ no 12 ▸ s13 ▸ s14 ▸ s15 ▸ s16 ▸ s17 ▸ s18 ▸ s19 ▸ s20 ▸ s21
        ▸ no-more order_103 (content_test t) 0 22

    seated : AllSeated order_103 (content_test t) 0 0 segs
    seated = s0 ▸ no 1 ▸ s2 ▸ s3 ▸ s4 ▸ s5 ▸ s6 ▸ s7 ▸ from-parties

    whole : covers order_103 segs ≡ true
    whole = rw (has-operation t fs none, has-payer t fs none, has-payee t fs none, has-charge t fs none) refl

  -- the fields that are sent are these
  sent-fields : (f52 : Field) (bank : Party) (is_52 : is_named 52 (codes "AD") f52 ≡ true) (says_52 : known_party_of t f52 ≡ Ok bank)
      → ordering r ≡ f52 ∷ []
      → transfer_fields r reference v ordered charge skip via ≡ joined (segs f52 bank is_52 says_52)
  unfolding transfer_fields
  sent-fields f52 bank is_52 says_52 e = rw (e, same) refl

  -- place by place
  pub transfer-parted : (f52 : Field)
      × IsPartedInto order_103 (content_test t) (transfer_fields r reference v ordered charge skip via) (transfer_segs fs reference v ordered charge skip via f52)
      × (covers order_103 (transfer_segs fs reference v ordered charge skip via f52) ≡ true)
  transfer-parted =
      let b = ordering-of-transfer t r fs mt same none sender known in
      let sent = seated b.field b.bank b.named b.says in (
        b.field,
        record { same = sent-fields b.field b.bank b.named b.says b.same; placed = sent.placed; fine = sent.passing },
        whole b.field b.bank b.named b.says,
      )

  pub transfer-fields-pass : first_of (field_tests t (transfer_fields r reference v ordered charge skip via)) ≡ None
  transfer-fields-pass =
      let p = transfer-parted in
      parted-pass order_103 row (content_test t) (transfer_fields r reference v ordered charge skip via)
      (transfer_segs fs reference v ordered charge skip via p.0) p.1 p.2
