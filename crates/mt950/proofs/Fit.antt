-- The fields that a page is written as may stand in a text.
use Rattle.std.proofs.Common.{◌≡◌, ℕ, ◌<◌, ◌≤◌, ◌==◌, ◌&&◌, ◌||◌, ◌⊎◌, Bool, true, false, List, [], ◌∷◌, ◌++◌, length, Option, Some, None, Result, Ok, Err, refl, sym, ap, subst, ◌∙◌, arith, inl, inr, nat_le}
use Rattle.std.specs.Prelude.{IfSome, IfOk, IsTrue, ℤ, pos, negsuc}
use Rattle.std.specs.Char.{is_ascii_digit, is_ascii_lowercase, is_ascii_uppercase}
use Rattle.std.specs.Fmt.{decimal}
use Rattle.std.specs.Int.{is_negative}
use Rattle.std.specs.List.{All, AllByRecursion, list_all, list_any}
use Rattle.std.specs.Str.{all_ascii_digits}
use Rattle.std.proofs.lemmas.Bool.{cases_Bool, eqb-true}
use Rattle.std.proofs.lemmas.Bool.Decides.{nat_tests}
use Rattle.std.proofs.lemmas.List.Elements.{All-cons}
use Rattle.std.proofs.lemmas.List.Folds.{list_all-append}
use Rattle.corr_text.specs.Sets.{is_c_byte, is_in, marks}
use Rattle.corr_text.specs.declared.set.Set.TheVariants.{X, N, C as capital_or_digit}
use Rattle.corr_ids.specs.Day.{yymmdd_of}
use Rattle.corr_money.specs.Amounts.{amount_text}
use Rattle.ref_tables.specs.Seen.{Tables}
use Rattle.fin_fields.specs.declared.field.Field.{Field}
use Rattle.fin_fields.specs.Faults.{has_other_byte}
use Rattle.fin_fields.specs.Fields.{fields_of}
use Rattle.fin_fields.specs.Patterns.{is_run}
use Rattle.fin_fields.specs.Writing.{Continues, ContinueAll, IsField, fields_text, letter_text}
use Rattle.fin_layout.specs.Order.{places_from}
use Rattle.fin_layout.specs.Segments.{joined}
use Rattle.fin_contents.specs.Writing.{IsHeading, IsReadable, ccy_amount_text}
use Rattle.fin_contents.proofs.laws.Back.{each-weaker, some-weaker}
use Rattle.fin_contents.proofs.laws.Bytes.{all-of-x, and-three, digits-of-x, letters-of-x}
use Rattle.fin_contents.proofs.laws.Fit.{dated_amount-of-x, line-fit}
use Rattle.fin_contents.proofs.laws.Placed.{all-each, each-joined, each-of, some-each}
use Rattle.fin_contents.proofs.laws.Said.{Said as SaidAt, Stands, said-all, stand}
use Rattle.mt950.specs.Entry.{line_of}
use Rattle.mt950.specs.Order.{order_950}
use Rattle.mt950.specs.Page.{mt950_of, page_of}
use Rattle.mt950.specs.Parts.{is_entry_type}
use Rattle.mt950.specs.Writing.{IsBalance, IsWritableLine, balance_amount, balance_field, balance_mark, balance_text, detail_lines, fields_950, balance_letter, line_field_61, line_text, mark_text, number_field, page_text, part_text, segments_950, servicer_text}
use Rattle.mt950.specs.inner.Writing.{IsContinued, IsPage}
use Rattle.mt950.specs.declared.balance.Balance.{Balance}
use Rattle.mt950.specs.declared.entry.Line61.{Line61}
use Rattle.mt950.specs.declared.entry.Mark.{Mark}
use Rattle.mt950.specs.declared.entry.Mark.TheVariants.{C, D, RC, RD}
use Rattle.mt950.specs.declared.page.Page950.{Page950}
use Rattle.mt950.proofs.Amount.{amount-text}
use Rattle.mt950.proofs.BalanceFields.{date-digits, dated-form}
use Rattle.mt950.proofs.LineFields.{line-nested, line-read}
use Rattle.mt950.proofs.PageNumbers.{decimal-digits}
use Rattle.mt950.proofs.Read.{few-decimals, found, page-is, readable-is}
use Rattle.mt950.proofs.Steps.{both}
use Rattle.mt950.proofs.Written.{pages-read-back}

-- ---- parts of lines are of X

x-append : (a b : List ℕ) → list_all (is_in X) a ≡ true → list_all (is_in X) b ≡ true → list_all (is_in X) (a ++ b) ≡ true
x-append a b e f = list_all-append (is_in X) a b ∙ rw (e, f) refl

run-of-x : (most : ℕ) (line : List ℕ) → is_run (is_in X) most line ≡ true → list_all (is_in X) line ≡ true
run-of-x most line e = (and-three (nat_le 1 (length line)) (nat_le (length line) most) (list_all (is_in X) line) e).2

all-digits : (bs : List ℕ) → all_ascii_digits bs ≡ true → list_all is_ascii_digit bs ≡ true
all-digits [] e = refl
all-digits (b ∷ bs) e = let p = both (is_ascii_digit b) (all_ascii_digits bs) e in rw (p.0) (all-digits bs p.1)

decimal-of-x : (n : ℕ) → n < 100000 → list_all (is_in X) (decimal n) ≡ true
decimal-of-x n small = digits-of-x (decimal n) (all-digits (decimal n) (decimal-digits n small))

page-of-x : (page : Option ℕ) → IfSome page (λ k. k < 100000) → list_all (is_in X) (page_text page) ≡ true
page-of-x None small = refl
page-of-x (Some k) small = decimal-of-x k small

mark-of-x : (signed : ℤ) (date rest : List ℕ) → list_all (is_in X) (date ++ rest) ≡ true
    → list_all (is_in X) ((balance_mark signed ++ date) ++ rest) ≡ true
mark-of-x (pos n) date rest e =
    let plain : is_negative (pos n) ≡ false = grind (arith, nat_tests) in
    rw plain e
mark-of-x (negsuc n) date rest e = e

line-mark-of-x : (mark : Mark) → list_all (is_in X) (mark_text mark) ≡ true
line-mark-of-x C = refl
line-mark-of-x D = refl
line-mark-of-x RC = refl
line-mark-of-x RD = refl

entry-of-x : (entry : Option (List ℕ)) → IfSome entry (λ entry. (length entry ≡ 4) × IsTrue (list_all (is_in N) entry))
    → list_all (is_in X) (part_text entry) ≡ true
entry-of-x None e = refl
entry-of-x (Some entry) e = digits-of-x entry e.1

funds-of-x : (funds : Option ℕ) → IfSome funds (λ letter. is_ascii_uppercase letter ≡ true) → list_all (is_in X) (letter_text funds) ≡ true
funds-of-x None e = refl
funds-of-x (Some letter) e = letters-of-x (letter ∷ []) (rw e refl)

c-byte : (upper lower digit mark : Bool) → (upper || digit) ≡ true → (upper || lower || digit || mark) ≡ true
c-byte true lower digit mark e = refl
c-byte false true digit mark e = refl
c-byte false false true mark e = refl
c-byte false false false mark e = absurd (cc e)

c-of-x : (bs : List ℕ) → list_all (is_in capital_or_digit) bs ≡ true → list_all (is_in X) bs ≡ true
c-of-x [] e = refl
c-of-x (b ∷ bs) e =
    let p = both (is_c_byte b) (list_all (is_in capital_or_digit) bs) e in
    rw (c-byte (is_ascii_uppercase b) (is_ascii_lowercase b) (is_ascii_digit b) (list_any (λ m. b == m) marks) p.0) (c-of-x bs p.1)

either-kind : (s a n d : Bool) → ((s && a) || (n && d)) ≡ true → ((s ≡ true) × (a ≡ true)) ⊎ ((n ≡ true) × (d ≡ true))
either-kind true true n d e = inl (refl, refl)
either-kind true false true true e = inr (refl, refl)
either-kind true false true false e = absurd (cc e)
either-kind true false false d e = absurd (cc e)
either-kind false a true true e = inr (refl, refl)
either-kind false a true false e = absurd (cc e)
either-kind false a false d e = absurd (cc e)

letter-of-x : (b : ℕ) (rest : List ℕ) → ((b == 78) || (b == 70)) ≡ true → list_all (is_in X) rest ≡ true → list_all (is_in X) (b ∷ rest) ≡ true
letter-of-x b rest e all =
    elim (cases_Bool (b == 78)) [
      | inl met ↦ let same : b ≡ 78 = eqb-true b 78 met in rw same all
      | inr unmet ↦ let same : b ≡ 70 = eqb-true b 70 (rw unmet at e) in rw same all
    ]

kind-of-x : (kind : List ℕ) → is_entry_type kind ≡ true → list_all (is_in X) kind ≡ true
kind-of-x [] e = absurd (cc e)
kind-of-x (b ∷ rest) e =
    elim (either-kind (b == 83) (list_all (is_in N) rest) ((b == 78) || (b == 70)) (list_all (is_in capital_or_digit) rest) e) [
      | inl p ↦ let same : b ≡ 83 = eqb-true b 83 p.0 in rw same (digits-of-x rest p.1)
      | inr p ↦ letter-of-x b rest p.0 (c-of-x rest p.1)
    ]

servicer-of-x : (servicer : Option (List ℕ)) → IfSome servicer (λ text. IsTrue (is_run (is_in X) 16 text))
    → list_all (is_in X) (servicer_text servicer) ≡ true
servicer-of-x None e = refl
servicer-of-x (Some text) e = run-of-x 16 text e

line-of-x : (decimals : ℕ) (line : Line61) → IsWritableLine decimals line → list_all (is_in X) (line_text decimals line) ≡ true
line-of-x decimals line is =
    let amount : List ℕ = amount_text decimals line.amount.0 in
    let references : List ℕ = line.reference ++ servicer_text line.servicer in
    let after_amount : List ℕ = line.kind ++ references in
    let after_funds : List ℕ = amount ++ after_amount in
    let after_mark : List ℕ = letter_text line.funds ++ after_funds in
    let after_entry : List ℕ = mark_text line.mark ++ after_mark in
    let after_date : List ℕ = part_text line.entry ++ after_entry in
    subst (λ (text : List ℕ). list_all (is_in X) text ≡ true) (sym (line-nested decimals line))
    (x-append (yymmdd_of line.value) after_date (digits-of-x (yymmdd_of line.value) (date-digits line.value is.value))
    (x-append (part_text line.entry) after_entry (entry-of-x line.entry is.entry)
    (x-append (mark_text line.mark) after_mark (line-mark-of-x line.mark)
    (x-append (letter_text line.funds) after_funds (funds-of-x line.funds is.funds)
    (x-append amount after_amount (amount-text decimals line.amount.0 is.few is.small).of_x
    (x-append line.kind references (kind-of-x line.kind is.kind)
    (x-append line.reference (servicer_text line.servicer) (run-of-x 16 line.reference is.reference) (servicer-of-x line.servicer is.servicer))))))))

-- ---- fields

letter-capital : (last : Bool) → is_ascii_uppercase (balance_letter last) ≡ true
letter-capital true = refl
letter-capital false = refl

detail-bytes : (detail : Option (List ℕ)) → IfSome detail (λ text. IsTrue (is_run (is_in X) 34 text))
    → All (λ line. has_other_byte line ≡ false) (detail_lines detail)
detail-bytes None is = λ k d lt. absurd (omega arith)
detail-bytes (Some detail) is =
    All-cons (λ line. has_other_byte line ≡ false) detail [] (all-of-x detail (run-of-x 34 detail is)) (λ k d lt. absurd (omega arith))

line-field-fit : (decimals : ℕ) (line : Line61) → IsWritableLine decimals line → All Continues (detail_lines line.detail)
    → IsField (line_field_61 decimals line)
line-field-fit decimals line is more = record {
  tag = omega arith;
  letter = tt;
  lines = more;
  bytes = All-cons (λ line. has_other_byte line ≡ false) (line_text decimals line) (detail_lines line.detail)
      (all-of-x (line_text decimals line) (line-of-x decimals line is)) (detail-bytes line.detail is.detail);
}

module _ (t : Tables) (p : Page950) (is : IsPage t p) where
  balance-fit : (tag : ℕ) (letter : Option ℕ) (b : Balance) → IsHeading tag letter → IsBalance p.decimals b
      → IsField (balance_field tag letter p.ccy p.decimals b)
  balance-fit tag letter b heading h =
      let form = dated-form t p.ccy p.decimals b h is.three is.capitals is.known in
      line-fit tag letter (balance_text p.ccy p.decimals b) heading
      (all-of-x (balance_text p.ccy p.decimals b)
      (mark-of-x b.signed (yymmdd_of b.day) (ccy_amount_text (balance_amount p.ccy p.decimals b))
      (dated_amount-of-x (yymmdd_of b.day ++ ccy_amount_text (balance_amount p.ccy p.decimals b)) form)))

  number-fit : IsField (number_field p.number p.page)
  number-fit =
      let text : List ℕ = decimal p.number ++ page_text p.page in
      line-fit 28 (Some 67) text (record { two_digits = omega arith; capital = refl })
      (all-of-x text (x-append (decimal p.number) (page_text p.page) (decimal-of-x p.number is.number) (page-of-x p.page is.page)))

  -- a page whose further lines may continue a field
  page-fit : AllByRecursion (λ line. IsField (line_field_61 p.decimals line)) p.lines → All IsField (joined (segments_950 p))
  page-fit lines =
      let plain : (tag : ℕ) → tag ≤ 99 → IsHeading tag None = λ tag le. record { two_digits = le; capital = tt } in
      let reference = line-fit 20 None p.reference (plain 20 (omega arith)) (all-of-x p.reference (run-of-x 16 p.reference is.reference)) in
      let account = line-fit 25 None p.account (plain 25 (omega arith)) (all-of-x p.account (run-of-x 35 p.account is.account)) in
      let opening = balance-fit 60 (Some (balance_letter p.opening.last)) p.opening (marked 60 p.opening.last (omega arith)) is.opening in
      let each_line = all-each IsField (line_field_61 p.decimals) p.lines lines in
      let closing = balance-fit 62 (Some (balance_letter p.closing.last)) p.closing (marked 62 p.closing.last (omega arith)) is.closing in
      let available =
      some-each IsField (balance_field 64 None p.ccy p.decimals) p.available
      (some-weaker _ _ p.available is.available (λ (b : Balance) h. balance-fit 64 None b (plain 64 (omega arith)) h.0)) in
      each-joined IsField (segments_950 p)
      ((reference, tt), ((account, tt), ((number-fit, tt), ((opening, tt), (each_line, ((closing, tt), (available, tt)))))))
    where
      -- the letter of a balance tells the last page of a day
      marked : (tag : ℕ) (last : Bool) → tag ≤ 99 → IsHeading tag (Some (balance_letter last))
      marked tag last le = record { two_digits = le; capital = letter-capital last }

-- ---- a page that can be written, whose further lines may continue a field

detail-continues : (detail : Option (List ℕ)) → IfSome detail Continues → All Continues (detail_lines detail)
detail-continues None h = λ k d lt. absurd (omega arith)
detail-continues (Some detail) h = All-cons Continues detail [] h (λ k d lt. absurd (omega arith))

lines-continued : (decimals : ℕ) (lines : List Line61) → AllByRecursion (IsWritableLine decimals) lines → AllByRecursion IsContinued lines
    → AllByRecursion (λ line. IsField (line_field_61 decimals line)) lines
lines-continued decimals [] is on = tt
lines-continued decimals (line ∷ lines) is on =
    (line-field-fit decimals line is.0 (detail-continues line.detail on.0), lines-continued decimals lines is.1 on.1)

pub page-fits : (t : Tables) (p : Page950) → IsPage t p → All IsContinued p.lines → All IsField (fields_950 p)
unfolding fields_950
page-fits t p is on =
    page-fit t p is (lines-continued p.decimals p.lines (each-of (IsWritableLine p.decimals) p.lines is.lines) (each-of IsContinued p.lines on))

-- ---- a page that was read of the fields of a text

abbrev LinesFit : Page950 → Type 0
LinesFit p = AllByRecursion (λ line. IsField (line_field_61 p.decimals line)) p.lines

line-fits : (decimals : ℕ) (line : Line61) → decimals ≤ 4 → SaidAt (Stands order_950 IsField 4) (line_of decimals) line
    → IsField (line_field_61 decimals line)
line-fits decimals line few at =
    let read = line-read decimals at.field line few at.says in
    line-field-fit decimals line read.is (subst ContinueAll read.lines at.holds.has.lines)

lines-fit : (p : Page950) → IsReadable mt950_of p → LinesFit p
lines-fit p r =
    let f = found r.tables r.fields p r.says in
    let few : f.said.opening.decimals ≤ 4 = subst (λ (n : ℕ). n ≤ 4) (sym (ap (λ (q : Page950). q.decimals) f.same)) (few-decimals p r) in
    let here = places_from order_950 0 r.fields in
    let fit : LinesFit (page_of f.said) =
    each-weaker (SaidAt (Stands order_950 IsField 4) (line_of f.said.opening.decimals))
    (λ line. IsField (line_field_61 f.said.opening.decimals line)) f.said.lines
    (said-all (Stands order_950 IsField) r.fields 4 (line_of f.said.opening.decimals) 0 here r.fields f.said.lines
    (stand order_950 IsField 0 r.fields r.fit) f.says.lines) (λ (line : Line61) at. line-fits f.said.opening.decimals line few at) in
    subst LinesFit f.same fit

pub fit-950 : (p : Page950) → IsReadable mt950_of p → All IsField (fields_950 p)
unfolding fields_950
fit-950 p r = page-fit r.tables p (readable-is p r) (lines-fit p r)

pub some-950 : (p : Page950) → fields_950 p ≡ [] → ⊥
unfolding fields_950
some-950 p e = absurd (cc e)

-- a page that was read and is written is read again
pub again-950 : (t : Tables) (fs : List Field) (p : Page950) → IsReadable mt950_of p → mt950_of t fs ≡ Ok p → mt950_of t (fields_950 p) ≡ Ok p
again-950 t fs p r e = pages-read-back t p (page-is t fs p (few-decimals p r) e)

-- a text that is written of these fields reads as the page
pub text-950 : {E : Type 0} (p : Page950) (written : Result (List ℕ) E) (fields : List Field) → IsReadable mt950_of p → fields ≡ fields_950 p
    → IfOk written (λ text. text ≡ fields_text fields) → fields_of (fields_text fields) ≡ fields
    → IfOk written (λ text. (t : Tables) (fs : List Field) → mt950_of t fs ≡ Ok p → mt950_of t (fields_of text) ≡ Ok p)
text-950 p (Err e) fields r same text back = tt
text-950 p (Ok text) fields r same is back = λ t fs e. rw (is, back, same) (again-950 t fs p r e)
