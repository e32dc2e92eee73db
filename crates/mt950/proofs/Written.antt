-- The fields that a page is written as stand in its order, and say the page.
use Rattle.std.proofs.Common.{◌≡◌, ℕ, ◌&&◌, Bool, true, false, List, [], ◌∷◌, map, take, Option, Some, None, option_map, Ok, refl, sym, ap, ◌∙◌, arith}
use Rattle.std.specs.Prelude.{IfSome, IsTrue}
use Rattle.std.specs.Option.{option_map_or}
use Rattle.std.specs.Str.{bytes_eq}
use Rattle.std.proofs.lemmas.Slice.Eq.{bytes_eq-Decides}
use Rattle.corr_text.specs.First.{first_of, unless}
use Rattle.corr_text.specs.Sets.{is_in}
use Rattle.corr_text.specs.Slashes.{has_stray_slash}
use Rattle.corr_text.specs.declared.set.Set.TheVariants.{X}
use Rattle.corr_text.specs.declared.fault.Fault.{Fault}
use Rattle.corr_money.specs.declared.amount.Ccy.{Ccy}
use Rattle.ref_tables.specs.Seen.{Tables}
use Rattle.fin_fields.specs.declared.field.Field.{Field}
use Rattle.fin_fields.specs.Patterns.{is_run}
use Rattle.fin_layout.specs.Order.{fits, missing_from}
use Rattle.fin_layout.specs.Segments.{joined}
use Rattle.fin_layout.specs.inner.Segments.{IsFirst, Segments, places_of}
use Rattle.fin_layout.proofs.laws.PlaceByPlace.{Placed, ◌▸◌, no-more}
use Rattle.fin_layout.proofs.laws.FoundField.{grouped-taken}
use Rattle.fin_layout.proofs.laws.Grouped.{grouped-places, grouped-structure}
use Rattle.fin_layout.proofs.laws.ReadGroups.{grouped-all}
use Rattle.fin_contents.specs.Plain.{reference_of, short_line_of}
use Rattle.fin_contents.specs.Writing.{line_field, some_field}
use Rattle.fin_contents.proofs.laws.Back.{each-all, each-weaker, one-back, option-back, reads-all, some-all}
use Rattle.fin_contents.proofs.laws.Placed.{all-segment, each-of, first-of-tag, one-segment, some-segment}
use Rattle.mt950.specs.Balances.{is_last, stated_of}
use Rattle.mt950.specs.Entry.{line_of}
use Rattle.mt950.specs.Order.{order_950}
use Rattle.mt950.specs.Page.{mt950_of, page_of}
use Rattle.mt950.specs.Rules.{same_two_letters, c27, currency_rules, is_same, of_available, other_available, other_closing}
use Rattle.mt950.specs.Writing.{IsBalance, IsWritableLine, balance_field, balance_text, fields_950, balance_letter, line_field_61, number_field, segments_950}
use Rattle.mt950.specs.inner.Writing.{IsPage}
use Rattle.mt950.specs.declared.balance.Balance.{Balance}
use Rattle.mt950.specs.declared.balance.Stated.{Stated}
use Rattle.mt950.specs.declared.entry.Line61.{Line61}
use Rattle.mt950.specs.declared.page.Page950.{Page950}
use Rattle.mt950.specs.declared.said.Said.{Said}
use Rattle.mt950.proofs.BalanceFields.{stated-again}
use Rattle.mt950.proofs.LineFields.{line-again}
use Rattle.mt950.proofs.PageNumbers.{numbers-again}
use Rattle.mt950.proofs.Outcome.{rules-hold}
use Rattle.mt950.proofs.Rows.{row_20, row_25, row_28, row_60, row_61, row_62, row_64}
use Rattle.mt950.proofs.Says.{Says, says-said}

-- ---- each field in its place

fits-opening : (last : Bool) (line : List ℕ) → fits row_60 (line_field 60 (Some (balance_letter last)) line) ≡ true
fits-opening true line = refl
fits-opening false line = refl

fits-closing : (last : Bool) (line : List ℕ) → fits row_62 (line_field 62 (Some (balance_letter last)) line) ≡ true
fits-closing true line = refl
fits-closing false line = refl

module _ (p : Page950) where
  abbrev opening : Field
  opening = balance_field 60 (Some (balance_letter p.opening.last)) p.ccy p.decimals p.opening

  abbrev closing : Field
  closing = balance_field 62 (Some (balance_letter p.closing.last)) p.ccy p.decimals p.closing

  abbrev available : Balance → Field
  available b = balance_field 64 None p.ccy p.decimals b

  opening-first : IsFirst order_950 0 3 opening
  opening-first =
      first-of-tag order_950 0 (row_20 ∷ row_25 ∷ row_28 ∷ []) row_60 (row_61 ∷ row_62 ∷ row_64 ∷ []) opening refl refl
      (fits-opening p.opening.last (balance_text p.ccy p.decimals p.opening))

  line-first : (line : Line61) → IsFirst order_950 0 4 (line_field_61 p.decimals line)
  line-first line =
      first-of-tag order_950 0 (row_20 ∷ row_25 ∷ row_28 ∷ row_60 ∷ []) row_61 (row_62 ∷ row_64 ∷ []) (line_field_61 p.decimals line) refl refl refl

  closing-first : IsFirst order_950 0 5 closing
  closing-first =
      first-of-tag order_950 0 (row_20 ∷ row_25 ∷ row_28 ∷ row_60 ∷ row_61 ∷ []) row_62 (row_64 ∷ []) closing refl refl
      (fits-closing p.closing.last (balance_text p.ccy p.decimals p.closing))

  available-first : (b : Balance) → IsFirst order_950 0 6 (available b)
  available-first b = first-of-tag order_950 0 (row_20 ∷ row_25 ∷ row_28 ∷ row_60 ∷ row_61 ∷ row_62 ∷ []) row_64 [] (available b) refl refl refl

  -- the lines, and the balances after them
  balances-placed : Placed order_950 0 4 (map (line_field_61 p.decimals) p.lines ∷ (closing ∷ []) ∷ some_field available p.available ∷ [])
  balances-placed =
      all-segment order_950 0 4 (line_field_61 p.decimals) p.lines refl (each-all _ p.lines line-first)
      ▸ one-segment order_950 0 5 closing closing-first
      ▸ some-segment order_950 0 6 available p.available (some-all _ p.available available-first)
      ▸ no-more order_950 0 7

  all-placed : Placed order_950 0 0 (segments_950 p)
  all-placed =
      let after_28 = row_60 ∷ row_61 ∷ row_62 ∷ row_64 ∷ [] in
      let reference = first-of-tag order_950 0 [] row_20 (row_25 ∷ row_28 ∷ after_28) (line_field 20 None p.reference) refl refl refl in
      let account = first-of-tag order_950 0 (row_20 ∷ []) row_25 (row_28 ∷ after_28) (line_field 25 None p.account) refl refl refl in
      let number = first-of-tag order_950 0 (row_20 ∷ row_25 ∷ []) row_28 after_28 (number_field p.number p.page) refl refl refl in
      one-segment order_950 0 0 (line_field 20 None p.reference) reference
      ▸ one-segment order_950 0 1 (line_field 25 None p.account) account
      ▸ one-segment order_950 0 2 (number_field p.number p.page) number
      ▸ one-segment order_950 0 3 opening opening-first
      ▸ balances-placed

  placed : Segments order_950 0 0 (segments_950 p)
  placed = all-placed.in_turn

  none-missing : missing_from 0 order_950 (places_of 0 (segments_950 p)) ≡ None
  unfolding missing_from
  none-missing = rw (grouped-taken (segments_950 p) 0 5 closing [] refl) refl

-- ---- what they say

reference-again : (x : List ℕ) → IsTrue (is_run (is_in X) 16 x) → has_stray_slash x ≡ false → reference_of (line_field 20 None x) ≡ Ok x
unfolding reference_of
reference-again x run plain = rw (run, plain) refl

account-again : (x : List ℕ) → IsTrue (is_run (is_in X) 35 x) → short_line_of 35 (line_field 25 None x) ≡ Ok x
unfolding short_line_of
account-again x run = rw run refl

letter-again : (last : Bool) → is_last (Some (balance_letter last)) ≡ last
letter-again true = refl
letter-again false = refl

-- a balance in the currency of the page
abbrev stated : Page950 → Balance → Stated
stated p b = record { balance = b; ccy = p.ccy; decimals = p.decimals }

abbrev said_page : Page950 → Said
said_page p = record {
  reference = p.reference;
  account = p.account;
  numbers = record { number = p.number; page = p.page };
  opening = stated p p.opening;
  lines = p.lines;
  closing = stated p p.closing;
  available = option_map (stated p) p.available;
}

some-stated : (p : Page950) (o : Option Balance)
    → some_field (available p) o ≡ some_field (λ (s : Stated). available p s.balance) (option_map (stated p) o)
some-stated p None = refl
some-stated p (Some b) = refl

each-stated : (t : Tables) (p : Page950) (o : Option Balance) → IfSome o (λ b. stated_of t (available p b) ≡ Ok (stated p b))
    → IfSome (option_map (stated p) o) (λ s. stated_of t (available p s.balance) ≡ Ok s)
each-stated t p None h = tt
each-stated t p (Some b) h = h

module _ (t : Tables) (p : Page950) (is : IsPage t p) where
  balance-again : (tag : ℕ) (letter : Option ℕ) (b : Balance) → IsBalance p.decimals b → is_last letter ≡ b.last
      → stated_of t (balance_field tag letter p.ccy p.decimals b) ≡ Ok (stated p b)
  balance-again tag letter b h last = stated-again t tag letter p.ccy p.decimals b h is.three is.capitals is.known last

  available-again : (o : Option Balance) → IfSome o (λ b. IsBalance p.decimals b × (b.last ≡ false))
      → IfSome o (λ b. stated_of t (available p b) ≡ Ok (stated p b))
  available-again None h = tt
  available-again (Some b) h = balance-again 64 None b h.0 (sym h.1)

  abbrev segs : List (List Field)
  segs = segments_950 p

  page-says : Says t (joined segs) (places_of 0 segs) (said_page p)
  page-says =
      let write : Stated → Field = λ s. available p s.balance in
      let each =
      each-weaker (IsWritableLine p.decimals) (λ x. line_of p.decimals (line_field_61 p.decimals x) ≡ Ok x) p.lines
      (each-of (IsWritableLine p.decimals) p.lines is.lines) (λ (x : Line61) e. line-again p.decimals x e) in
      record {
        reference =
            one-back order_950 segs 0 reference_of (line_field 20 None p.reference) p.reference refl (reference-again p.reference is.reference is.slashes);
        account = one-back order_950 segs 1 (short_line_of 35) (line_field 25 None p.account) p.account refl (account-again p.account is.account);
        numbers = one-back order_950 segs 2 _ (number_field p.number p.page) (record { number = p.number; page = p.page }) refl
            (numbers-again p.number p.page is.number is.page);
        opening = one-back order_950 segs 3 (stated_of t) (opening p) (stated p p.opening) refl
            (balance-again 60 (Some (balance_letter p.opening.last)) p.opening is.opening (letter-again p.opening.last));
        lines = grouped-all (joined segs) (line_of p.decimals) segs 0 4 0 4 (map (line_field_61 p.decimals) p.lines) p.lines (omega arith) refl
            (reads-all (line_of p.decimals) (line_field_61 p.decimals) p.lines each);
        closing = one-back order_950 segs 5 (stated_of t) (closing p) (stated p p.closing) refl
            (balance-again 62 (Some (balance_letter p.closing.last)) p.closing is.closing (letter-again p.closing.last));
        available = option-back segs 6 (stated_of t) write (option_map (stated p) p.available) (ap Some (some-stated p p.available))
            (each-stated t p p.available (available-again p.available is.available));
      }

-- ---- the rules hold

same-bytes : (bs : List ℕ) → bytes_eq bs bs ≡ true
same-bytes bs = (bytes_eq-Decides bs bs).1 refl

kept : {F : Type 0} (b : Bool) (fault : F) → b ≡ true → unless b fault ≡ None
kept b fault e = rw e refl

three-kept : (a b c : Option Fault) → a ≡ None → b ≡ None → c ≡ None → first_of (a ∷ b ∷ c ∷ []) ≡ None
three-kept a b c e f g = rw (e, f, g) refl

two-true : (a b : Bool) → a ≡ true → b ≡ true → (a && b) ≡ true
two-true a b e f = rw (e, f) refl

available-true : (test : Ccy → Ccy → Bool) (p : Page950) (o : Option Balance) → test p.ccy p.ccy ≡ true
    → option_map_or (λ (s : Stated). test p.ccy s.ccy) (option_map (stated p) o) true ≡ true
available-true test p None e = refl
available-true test p (Some b) e = e

rules-kept : (p : Page950) → first_of (currency_rules (said_page p)) ≡ None
rules-kept p =
    let alike : same_two_letters p.ccy p.ccy ≡ true = same-bytes (take 2 p.ccy.0) in
    let same : is_same p.ccy p.ccy ≡ true = same-bytes p.ccy.0 in
    let first =
    kept (same_two_letters p.ccy p.ccy && of_available same_two_letters (said_page p)) _
    (two-true _ _ alike (available-true same_two_letters p p.available alike)) in
    three-kept (c27 (said_page p)) (other_closing (said_page p)) (other_available (said_page p)) first (kept (is_same p.ccy p.ccy) _ same)
    (kept (of_available is_same (said_page p)) _ (available-true is_same p p.available same))

balance-back : (p : Page950) (o : Option Balance) → option_map (λ (s : Stated). s.balance) (option_map (stated p) o) ≡ o
balance-back p None = refl
balance-back p (Some b) = refl

page-back : (p : Page950) → page_of (said_page p) ≡ p
page-back p = ap (λ (o : Option Balance). record p { available = o }) (balance-back p p.available)

-- a page that can be written is read of the fields that it is written as
pub pages-read-back : (t : Tables) (p : Page950) → IsPage t p → mt950_of t (fields_950 p) ≡ Ok p
unfolding fields_950
pages-read-back t p is =
    let segs : List (List Field) = segments_950 p in
    let sound = grouped-structure order_950 row_64 segs (placed p) (none-missing p) in
    let places = grouped-places order_950 row_64 0 0 0 segs (omega arith) (omega arith) (placed p) in
    rules-hold t (joined segs) (places_of 0 segs) sound (sym places) (said_page p)
    (says-said t (joined segs) (places_of 0 segs) (said_page p) (page-says t p is)) (rules-kept p) ∙ ap Ok (page-back p)
