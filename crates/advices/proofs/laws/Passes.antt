-- A cover that is passed on: its fields stand in their order, none is missing, each content passes, and it is read of them.
use Rattle.std.proofs.Common.{◌≡◌, ℕ, ◌+◌, ◌<◌, ◌≤◌, ◌==◌, true, false, List, [], ◌∷◌, ◌++◌, length, slice_get, Some, None, Ok, refl, sym, ap, ◌∙◌, arith, subst}
use Rattle.std.specs.Prelude.{codes, find}
use Rattle.std.specs.List.{list_any}
use Rattle.std.proofs.lemmas.List.{length-append}
use Rattle.corr_text.specs.First.{first_of}
use Rattle.corr_ids.specs.Bic.{IsBic}
use Rattle.ref_tables.specs.Seen.{Tables, has_head}
use Rattle.fin_fields.specs.declared.field.Field.{Field}
use Rattle.fin_layout.specs.Order.{missing_from, place_from, places_from}
use Rattle.fin_layout.specs.Segments.{joined}
use Rattle.fin_layout.specs.inner.Segments.{places_of}
use Rattle.fin_layout.proofs.laws.FoundField.{grouped-taken}
use Rattle.fin_layout.proofs.laws.Grouped.{grouped-places, length-places_of}
use Rattle.fin_parties.specs.declared.party.Party.{Party}
use Rattle.fin_contents.specs.Money.{value_of}
use Rattle.fin_contents.specs.Parties.{known_party_of}
use Rattle.fin_contents.specs.Plain.{reference_of}
use Rattle.fin_contents.specs.Writing.{line_field, value_field}
use Rattle.fin_contents.specs.declared.value.Value.{Value}
use Rattle.mt202cov.specs.Message.{content_test, field_tests, mt202cov_of}
use Rattle.mt202cov.specs.Order.{order_202}
use Rattle.mt202cov.specs.declared.message.Mt202Cov.{Mt202Cov}
use Rattle.day_model.specs.declared.pay.Mt.TheVariants.{Cover}
use Rattle.day_model.specs.declared.pay.Skip.{Skip}
use Rattle.advices.specs.declared.received.Received.{Received}
use Rattle.advices.specs.Fields.{copied, is_named}
use Rattle.advices.specs.Pass.{pass_fields}
use Rattle.advices.specs.Received.{ordering, sequence_a, sequence_b}
use Rattle.advices.specs.Transfer.{account_bank, intermediary}
use Rattle.advices.proofs.laws.Banks.{ordering-of-cover}
use Rattle.advices.proofs.laws.CoverHalves.{apart-back, at-a, at-b, back-passes, copy-seated-a, long-b, must-a, must-b, named-a, payer-after, payer-places, pb}
use Rattle.advices.proofs.laws.CoverSays.{cover-kept, cover-reads, lacks}
use Rattle.advices.proofs.laws.Finding.{found-passes, must-copy}
use Rattle.advices.proofs.laws.Fitted.{all-pass, contents-fine, row}
use Rattle.advices.proofs.laws.Said.{at-group, at_place, first}
use Rattle.advices.proofs.laws.Seats.{AllSeated, Seated, ◌▸◌, no-more, none-seated, one-seated, seated-56, seated-57}
use Rattle.advices.proofs.laws.SentCover.{lacks-passed}
use Rattle.advices.proofs.laws.Sequences.{Passing, at-back, at-front, past-below, below-apart, contents-hold, free_past, groups-below, hold-contents, holds-both, places-append, split-at, taken-back, taken-front}

-- the fields of each place of the first sequence, with this 52a
abbrev pub passed_segs : List Field → List ℕ → Value → Skip → Field → List (List Field)
passed_segs a reference v skip f52 =
    (line_field 20 None reference ∷ [])
    ∷ copied 21 (codes " ") a
    ∷ []
    ∷ (value_field v ∷ [])
    ∷ (f52 ∷ [])
    ∷ []
    ∷ []
    ∷ intermediary skip a
    ∷ account_bank skip a
    ∷ copied 58 (codes "AD") a
    ∷ copied 72 (codes " ") a
    ∷ []

-- a place is taken
abbrev Has : ℕ → List ℕ → Type 0
Has k found = list_any (λ q. q == k) found ≡ true

-- no mandatory place is missing where these are taken
none-missing : (found : List ℕ) → Has 0 found → Has 1 found → Has 3 found → Has 9 found → Has 11 found → Has 15 found
    → missing_from 0 order_202 found ≡ None
unfolding missing_from
none-missing found a b c d e f = rw (a, b, c, d, e, f) refl

copied-some : (tag : ℕ) (letters : List ℕ) (fs : List Field) (f : Field) → find (is_named tag letters) fs ≡ Some f → copied tag letters fs ≡ f ∷ []
copied-some tag letters fs f e = rw e refl

module _ (t : Tables) (a b : List Field) (payer : Field) (is : is_named 50 (codes "AFK") payer ≡ true)
    (none : first_of (field_tests t (a ++ payer ∷ b)) ≡ None) (reference : List ℕ) (one_is : reference_of (line_field 20 None reference) ≡ Ok reference)
    (v : Value) (four : value_of t (value_field v) ≡ Ok v) (skip : Skip)
    (f52 : Field) (bank : Party) (is_52 : is_named 52 (codes "AD") f52 ≡ true) (says_52 : known_party_of t f52 ≡ Ok bank) where
  abbrev Here : ℕ → List Field → Type 0
  Here n s = Seated order_202 (content_test t) 0 n s

  abbrev segs : List (List Field)
  segs = passed_segs a reference v skip f52

  abbrev front : List Field
  front = joined segs

  abbrev pf : List ℕ
  pf = places_of 0 segs

  abbrev pr : List ℕ
  pr = pb t a b payer is none

  -- the fields of the first sequence
  s0 : Here 0 (line_field 20 None reference ∷ [])
  s0 = one-seated order_202 (content_test t) 0 0 20 (codes " ") reference_of (λ f. refl) refl (line_field 20 None reference) reference refl one_is

  s1 : Here 1 (copied 21 (codes " ") a)
  s1 = copy-seated-a t a b payer is none 21 (codes " ") 1 (codes "    ") refl refl refl

  s3 : Here 3 (value_field v ∷ [])
  s3 = one-seated order_202 (content_test t) 0 3 32 (codes "A") (value_of t) (λ f. refl) refl (value_field v) v refl four

  s4 : Here 4 (f52 ∷ [])
  s4 = one-seated order_202 (content_test t) 0 4 52 (codes "AD") (known_party_of t) (λ f. refl) refl f52 bank is_52 says_52

  s7 : Here 7 (intermediary skip a)
  s7 = seated-56 order_202 (content_test t) 0 7 skip a (copy-seated-a t a b payer is none 56 (codes "ACD") 7 (codes "ADDD") refl refl refl)

  s8 : Here 8 (account_bank skip a)
  s8 = seated-57 order_202 (content_test t) 0 8 skip a (copy-seated-a t a b payer is none 57 (codes "ABCD") 8 (codes "ABDD") refl refl refl)

  s9 : Here 9 (copied 58 (codes "AD") a)
  s9 = copy-seated-a t a b payer is none 58 (codes "AD") 9 (codes "ADDD") refl refl refl

  s10 : Here 10 (copied 72 (codes " ") a)
  s10 = copy-seated-a t a b payer is none 72 (codes " ") 10 (codes "    ") refl refl refl

  -- at 13C, 53a and 54a there is none
  no : (n : ℕ) → Here n []
  no n = none-seated order_202 (content_test t) 0 n

  seated : AllSeated order_202 (content_test t) 0 0 segs
  seated = s0 ▸ s1 ▸ no 2 ▸ s3 ▸ s4 ▸ no 5 ▸ no 6 ▸ s7 ▸ s8 ▸ s9 ▸ s10 ▸ no-more order_202 (content_test t) 0 11

  -- ---- the places of both sequences

  front-places : places_from order_202 0 front ≡ pf
  front-places = grouped-places order_202 row 0 0 0 segs (omega arith) (omega arith) seated.placed

  long-front : length pf ≡ length front
  long-front = length-places_of 0 segs

  places : places_from order_202 0 (front ++ payer ∷ b) ≡ pf ++ 11 ∷ pr
  places =
      let long : length (places_from order_202 0 front) ≡ length front = ap length front-places ∙ long-front in
      let low : free_past order_202 0 pf ≤ 11 = past-below order_202 0 11 pf (omega arith) (groups-below 0 11 segs (omega arith)) in
      let first : place_from order_202 (free_past order_202 0 pf) payer ≡ Some 11 = payer-after (free_past order_202 0 pf) payer is low in
      let rest : places_from order_202 (free_past order_202 0 pf) (payer ∷ b) ≡ 11 ∷ pr = payer-places (free_past order_202 0 pf) payer b first in
      places-append order_202 0 front (payer ∷ b) long
      ∙ ap (λ (ps : List ℕ). ps ++ places_from order_202 (free_past order_202 0 ps) (payer ∷ b)) front-places
      ∙ ap (λ (ps : List ℕ). pf ++ ps) rest

  long-sent : length (pf ++ 11 ∷ pr) ≡ length (front ++ payer ∷ b)
  long-sent =
      let back : length (11 ∷ pr) ≡ length (payer ∷ b) = let tail = long-b t a b payer is none in omega (arith, tail) in
      length-append pf (11 ∷ pr)
      ∙ ap (λ (n : ℕ). n + length (11 ∷ pr)) long-front
      ∙ ap (λ (n : ℕ). length front + n) back
      ∙ sym (length-append front (payer ∷ b))

  taken-group : (k : ℕ) (f : Field) (more : List Field) → slice_get segs k ≡ Some (f ∷ more) → Has k (pf ++ 11 ∷ pr)
  taken-group k f more e =
      let same : 0 + k ≡ k = omega arith in
      taken-front k pf (11 ∷ pr) (subst (λ (n : ℕ). Has n pf) same (grouped-taken segs 0 k f more e))

  taken-copy : (k tag : ℕ) (letters : List ℕ) (f : Field) → slice_get segs k ≡ Some (copied tag letters a)
      → find (is_named tag letters) a ≡ Some f → Has k (pf ++ 11 ∷ pr)
  taken-copy k tag letters f e found = taken-group k f [] (e ∙ ap (λ (s : List Field). Some s) (copied-some tag letters a f found))

  complete : missing_from 0 order_202 (pf ++ 11 ∷ pr) ≡ None
  complete =
      let related = must-a t a b payer is none 1 _ refl refl (omega arith) in
      let beneficiary = must-a t a b payer is none 9 _ refl refl (omega arith) in
      none-missing (pf ++ 11 ∷ pr)
      (taken-group 0 _ _ refl)
      (taken-copy 1 21 (codes " ") related.0 refl (named-a t a b payer is none 21 (codes " ") 1 refl ∙ related.1))
      (taken-group 3 _ _ refl)
      (taken-copy 9 58 (codes "AD") beneficiary.0 refl (named-a t a b payer is none 58 (codes "AD") 9 refl ∙ beneficiary.1))
      (taken-back 11 pf (11 ∷ pr) refl)
      (taken-back 15 pf (11 ∷ pr) (must-b t a b payer is none 15 _ refl refl (omega arith)))

  pub sent-passes : first_of (field_tests t (front ++ payer ∷ b)) ≡ None
  sent-passes =
      let first = contents-hold (content_test t) front 0 pf front (contents-fine (content_test t) front 0 0 segs seated.passing) in
      all-pass order_202 (content_test t) (front ++ payer ∷ b) (pf ++ 11 ∷ pr) places long-sent complete
      (hold-contents (content_test t) (front ++ payer ∷ b) 0 (pf ++ 11 ∷ pr) (front ++ payer ∷ b)
      (holds-both (Passing (content_test t)) front (payer ∷ b) pf (11 ∷ pr) long-front first (back-passes t a b payer is none)))

  -- ---- what it says

  in-front : (k : ℕ) (s : List Field) → slice_get segs k ≡ Some s → k < 11
      → at_place (front ++ payer ∷ b) (places_from order_202 0 (front ++ payer ∷ b)) k ≡ first s
  in-front k s e lt =
      ap (λ (ps : List ℕ). at_place (front ++ payer ∷ b) ps k) places
      ∙ at-front k front (payer ∷ b) pf (11 ∷ pr) long-front (apart-back t a b payer is none k lt)
      ∙ at-group segs k s e

  in-back : (k : ℕ) → 11 ≤ k
      → at_place (front ++ payer ∷ b) (places_from order_202 0 (front ++ payer ∷ b)) k
      ≡ at_place (a ++ payer ∷ b) (places_from order_202 0 (a ++ payer ∷ b)) k
  in-back k le =
      ap (λ (ps : List ℕ). at_place (front ++ payer ∷ b) ps k) places
      ∙ at-back k front (payer ∷ b) pf (11 ∷ pr) long-front (below-apart k 11 pf le (groups-below 0 11 segs (omega arith)))
      ∙ sym (at-b t a b payer is none k le)

  -- 56a stands with 57a in each sequence, as in the cover that came
  pub sent-reads : (m : Mt202Cov) → mt202cov_of t (a ++ payer ∷ b) ≡ Ok m → (n : Mt202Cov) × (mt202cov_of t (front ++ payer ∷ b) ≡ Ok n)
  sent-reads m read =
      let kept = cover-kept t (a ++ payer ∷ b) m read in
      let at_7 = named-a t a b payer is none 56 (codes "ACD") 7 refl ∙ sym (at-a t a b payer is none 7 (omega arith)) in
      let at_8 = named-a t a b payer is none 57 (codes "ABCD") 8 refl ∙ sym (at-a t a b payer is none 8 (omega arith)) in
      let one : lacks (find (is_named 56 (codes "ACD")) a) (find (is_named 57 (codes "ABCD")) a) ≡ false = rw (at_7, at_8) (kept.0) in
      cover-reads t (front ++ payer ∷ b) sent-passes
      (rw (in-front 7 (intermediary skip a) refl (omega arith), in-front 8 (account_bank skip a) refl (omega arith)) (lacks-passed skip a one))
      (rw (in-back 13 (omega arith), in-back 14 (omega arith)) kept.1)

-- ---- the fields that are sent

-- they are those of both sequences
sent-fields : (r : Received) (fs a b : List Field) (payer : Field) (reference : List ℕ) (v : Value) (skip : Skip) (f52 : Field) → r.fields ≡ fs
    → sequence_a fs ≡ a → sequence_b fs ≡ payer ∷ b → ordering r ≡ f52 ∷ []
    → pass_fields r reference v skip ≡ joined (passed_segs a reference v skip f52) ++ payer ∷ b
unfolding pass_fields
sent-fields r fs a b payer reference v skip f52 same first second bank = rw (bank, same, first, second) refl

pub pass-fields-read : (t : Tables) (r : Received) (fs : List Field) (m : Mt202Cov) → r.mt ≡ Cover → r.fields ≡ fs → first_of (field_tests t fs) ≡ None
    → mt202cov_of t fs ≡ Ok m → IsBic r.sender → has_head t r.sender.head ≡ true
    → (reference : List ℕ) → reference_of (line_field 20 None reference) ≡ Ok reference → (v : Value) → value_of t (value_field v) ≡ Ok v → (skip : Skip)
    → (n : Mt202Cov) × (mt202cov_of t (pass_fields r reference v skip) ≡ Ok n)
pass-fields-read t r fs m mt same none read sender known reference one_is v four skip =
    let f50 = must-copy order_202 (content_test t) fs none 50 (codes "AFK") 11 refl (known_party_of t) _ (λ f. refl) refl refl in
    let payer = f50.0 in
    let is = found-passes (is_named 50 (codes "AFK")) fs payer f50.2 in
    let s = split-at (is_named 50 (codes "AFK")) fs payer f50.2 in
    let before : sequence_a fs ≡ s.front = rw (s.at) (s.before) in
    let after : sequence_b fs ≡ payer ∷ s.back = rw (s.at) (s.after) in
    let none_whole : first_of (field_tests t (s.front ++ payer ∷ s.back)) ≡ None =
    subst (λ (xs : List Field). first_of (field_tests t xs) ≡ None) s.whole none in
    let read_whole : mt202cov_of t (s.front ++ payer ∷ s.back) ≡ Ok m = subst (λ (xs : List Field). mt202cov_of t xs ≡ Ok m) s.whole read in
    let bank = ordering-of-cover t r fs mt same none sender known in
    let sent = sent-reads t s.front s.back payer is none_whole reference one_is v four skip bank.field bank.bank bank.named bank.says m read_whole in
    (sent.0, ap (mt202cov_of t) (sent-fields r fs s.front s.back payer reference v skip bank.field same before after bank.same) ∙ sent.1)
