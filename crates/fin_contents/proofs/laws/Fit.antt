-- The field that a content is written as may stand in a text.
use Rattle.std.proofs.Common.{◌≡◌, ℕ, true, false, List, [], ◌++◌, length, take, drop, Option, Some, Ok, refl, sym, ap, ◌∙◌, arith, nat_le}
use Rattle.std.specs.List.{list_all}
use Rattle.std.proofs.lemmas.List.Elements.{All-cons}
use Rattle.std.proofs.lemmas.List.{take-append-drop}
use Rattle.std.proofs.lemmas.List.Folds.{list_all-append}
use Rattle.corr_text.specs.Sets.{is_in}
use Rattle.corr_text.specs.declared.set.Set.TheVariants.{X, N, A}
use Rattle.corr_ids.specs.Day.{yymmdd_of}
use Rattle.corr_money.specs.declared.amount.Amount.{Amount}
use Rattle.ref_tables.specs.Seen.{Tables}
use Rattle.fin_fields.specs.declared.field.Field.{Field}
use Rattle.fin_fields.specs.Faults.{has_other_byte}
use Rattle.fin_fields.specs.Writing.{IsField}
use Rattle.fin_contents.specs.declared.value.Value.{Value}
use Rattle.fin_contents.specs.Money.{ccy_amount_in, ccy_amount_of, is_ccy_amount, is_dated_amount, value_in, value_of}
use Rattle.fin_contents.specs.Writing.{IsAmount, IsHeading, IsValue, ccy_amount_field, ccy_amount_text, line_field, lines_field, value_field}
use Rattle.fin_contents.proofs.laws.Again.{ccy_amount-again, value-again}
use Rattle.fin_contents.proofs.laws.Bytes.{all-of-x, and-three, digits-of-x, letters-of-x}
use Rattle.fin_contents.proofs.laws.Steps.{checked}

-- lines that stood in a text may stand there again
pub kept-fit : (tag : ℕ) (letter : Option ℕ) (f : Field) (lines : List (List ℕ)) → IsHeading tag letter → f.lines ≡ lines → IsField f → IsField (lines_field tag letter lines)
kept-fit tag letter f lines h same is = record { tag = h.two_digits; letter = h.capital; lines = rw (← same) (is.lines); bytes = rw (← same) (is.bytes) }

-- and so may any one line of X
pub line-fit : (tag : ℕ) (letter : Option ℕ) (line : List ℕ) → IsHeading tag letter → has_other_byte line ≡ false → IsField (line_field tag letter line)
line-fit tag letter line h x = record {
  tag = h.two_digits;
  letter = h.capital;
  lines = λ k d lt. absurd (omega arith);
  bytes = All-cons (λ l. has_other_byte l ≡ false) line [] x (λ k d lt. absurd (omega arith));
}

-- a line of parts that are of X
pub parts-of-x : (n : ℕ) (line : List ℕ) → list_all (is_in X) (take n line) ≡ true → list_all (is_in X) (drop n line) ≡ true → list_all (is_in X) line ≡ true
parts-of-x n line front back =
    sym (ap (list_all (is_in X)) (take-append-drop n line)) ∙ (list_all-append (is_in X) (take n line) (drop n line) ∙ rw (front, back) refl)

pub ccy_amount-of-x : (line : List ℕ) → is_ccy_amount line ≡ true → list_all (is_in X) line ≡ true
ccy_amount-of-x line e =
    let parts = and-three (nat_le 4 (length line)) (list_all (is_in A) (take 3 line)) (list_all (is_in X) (drop 3 line)) e in
    parts-of-x 3 line (letters-of-x (take 3 line) parts.1) parts.2

-- a date, a currency and an amount are characters of X
pub dated_amount-of-x : (line : List ℕ) → is_dated_amount line ≡ true → list_all (is_in X) line ≡ true
dated_amount-of-x line e =
    let parts = and-three (nat_le 10 (length line)) (list_all (is_in N) (take 6 line)) (is_ccy_amount (drop 6 line)) e in
    parts-of-x 6 line (digits-of-x (take 6 line) parts.1) (ccy_amount-of-x (drop 6 line) parts.2)

-- a currency and an amount that were read, written as a field, can stand in a text
pub ccy_amount-fit : (tag : ℕ) (letter : Option ℕ) (t : Tables) (f : Field) (a : Amount) → IsHeading tag letter → IsAmount a → ccy_amount_of t f ≡ Ok a → IsField (ccy_amount_field tag letter a)
unfolding ccy_amount_of
ccy_amount-fit tag letter t f a h is e =
    let again = ccy_amount-again tag letter t f a is e in
    let form = checked (is_ccy_amount (ccy_amount_text a)) _ (ccy_amount_in t (ccy_amount_text a)) a again in
    line-fit tag letter (ccy_amount_text a) h (all-of-x (ccy_amount_text a) (ccy_amount-of-x (ccy_amount_text a) form.0))

-- so can a value date with its amount
pub value-fit : (t : Tables) (f : Field) (v : Value) → IsValue v → value_of t f ≡ Ok v → IsField (value_field v)
unfolding value_of
value-fit t f v is e =
    let again = value-again t f v is e in
    let text : List ℕ = yymmdd_of v.day ++ ccy_amount_text v.amount in
    let form = checked (is_dated_amount text) _ (value_in t text) v again in
    line-fit 32 (Some 65) text (record { two_digits = omega arith; capital = refl }) (all-of-x text (dated_amount-of-x text form.0))
