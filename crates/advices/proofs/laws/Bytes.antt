-- What is made new is of set X.
use Rattle.std.proofs.Common.{◌≡◌, ℕ, ◌+◌, ◌/◌, ◌%◌, ◌<◌, ◌≤◌, ◌^◌, ◌==◌, ◌||◌, Bool, true, false, List, [], ◌∷◌, ◌++◌, length, take, drop, Some, Ok, refl, sym, ap, ◌∙◌, arith}
use Rattle.std.specs.Char.{is_ascii_digit, is_ascii_lowercase, is_ascii_uppercase}
use Rattle.std.specs.Fmt.{decimal}
use Rattle.std.specs.List.{list_all, list_any}
use Rattle.std.specs.Str.{all_ascii_digits}
use Rattle.std.proofs.lemmas.Bool.Decides.{nat_tests}
use Rattle.std.proofs.lemmas.List.{take-append-drop}
use Rattle.std.proofs.lemmas.List.Folds.{list_all-append}
use Rattle.corr_text.specs.Digits.{number_of, padded}
use Rattle.corr_text.specs.Sets.{is_c_byte, is_in, is_x_byte, marks}
use Rattle.corr_text.specs.declared.set.Set.TheVariants.{X}
use Rattle.corr_text.proofs.laws.Number.{number_of-decimal, number_of-padded}
use Rattle.corr_ids.specs.Bic.{IsBic, bic_text, is_bic}
use Rattle.corr_ids.specs.Day.{InCentury, civil_of, digits_of, yymmdd_of}
use Rattle.corr_ids.specs.declared.bic.Bic.{Bic}
use Rattle.corr_ids.specs.declared.day.Day.{Day}
use Rattle.corr_ids.proofs.laws.Century.{in_parts}
use Rattle.corr_ids.proofs.laws.Spelling.{bic-printed, some_if}
use Rattle.corr_money.specs.Amounts.{amount_end, amount_of, amount_text, is_comma_number}
use Rattle.corr_money.specs.declared.amount.Amount.{Amount}
use Rattle.corr_money.specs.declared.fault.AmountFault.TheVariants.{T40}
use Rattle.corr_money.specs.declared.amount.Minor.{Minor}
use Rattle.corr_money.proofs.laws.Written.{reads_written}
use Rattle.fin_contents.specs.Writing.{ccy_amount_text}
use Rattle.fin_contents.proofs.laws.Bytes.{and-both, and-three, comma_number-of-x, digits-of-x, letters-of-x}
use Rattle.fin_contents.proofs.laws.Steps.{checked}
use Rattle.advices.specs.Fields.{ours}
use Rattle.advices.specs.inner.Spelled.{IsPlain, IsWritableAmount}

pub joined-plain : (front back : List ℕ) → IsPlain front → IsPlain back → IsPlain (front ++ back)
joined-plain front back p q = list_all-append (is_in X) front back ∙ rw (p, q) refl

-- ---- digits

digits-again : (bs : List ℕ) → all_ascii_digits bs ≡ true → list_all is_ascii_digit bs ≡ true
digits-again [] e = refl
digits-again (b ∷ bs) e =
    let both = and-both (is_ascii_digit b) (all_ascii_digits bs) e in
    rw both.0 (digits-again bs both.1)

number-digits : (bs : List ℕ) (n : ℕ) → number_of bs ≡ Some n → all_ascii_digits bs ≡ true
number-digits bs n e = grind (arith, nat_tests)

-- a number below 10^19 is written in digits alone
pub decimal-digits : (n : ℕ) → n < 10 ^ 19 → list_all is_ascii_digit (decimal n) ≡ true
decimal-digits n small = digits-again (decimal n) (number-digits (decimal n) n (number_of-decimal n small))

-- so is one that is padded with zeros
pub padded-digits : (width n : ℕ) → n < 10 ^ 19 → width ≤ 19 → list_all is_ascii_digit (padded width n) ≡ true
padded-digits width n small narrow = digits-again (padded width n) (number-digits (padded width n) n (number_of-padded width n small narrow))

pub decimal-plain : (n : ℕ) → n < 10 ^ 19 → IsPlain (decimal n)
decimal-plain n small = digits-of-x (decimal n) (decimal-digits n small)

pub padded-plain : (width n : ℕ) → n < 10 ^ 19 → width ≤ 19 → IsPlain (padded width n)
padded-plain width n small narrow = digits-of-x (padded width n) (padded-digits width n small narrow)

pub ours-plain : (place k : ℕ) → place < 10 ^ 19 → k < 10 ^ 19 → IsPlain (ours place k)
ours-plain place k small few =
    joined-plain (80 ∷ padded 8 place) (75 ∷ decimal k) (padded-plain 8 place small (omega arith)) (decimal-plain k few)

-- ---- days and amounts

digit-of : (n : ℕ) → n ≤ 9 → is_ascii_digit (48 + n) ≡ true
digit-of n e = grind (arith, nat_tests)

two-plain : (n : ℕ) → n ≤ 99 → IsPlain (digits_of n)
two-plain n e =
    let tens : n / 10 ≤ 9 = omega arith in
    let ones : n % 10 ≤ 9 = omega arith in
    digits-of-x (digits_of n) (rw (digit-of (n / 10) tens, digit-of (n % 10) ones) refl)

two-digits : (n : ℕ) → n ≤ 99 → list_all is_ascii_digit (digits_of n) ≡ true
two-digits n e =
    let tens : n / 10 ≤ 9 = omega arith in
    let ones : n % 10 ≤ 9 = omega arith in
    rw (digit-of (n / 10) tens, digit-of (n % 10) ones) refl

joined-digits : (front back : List ℕ) → list_all is_ascii_digit front ≡ true → list_all is_ascii_digit back ≡ true
    → list_all is_ascii_digit (front ++ back) ≡ true
joined-digits front back p q = list_all-append is_ascii_digit front back ∙ rw (p, q) refl

-- the six digits of a day
pub day-digits : (d : Day) → InCentury d → list_all is_ascii_digit (yymmdd_of d) ≡ true
day-digits d century =
    let p = in_parts d century in
    let c = civil_of d in
    let year : c.year % 100 ≤ 99 = omega arith in
    joined-digits (digits_of (c.year % 100)) (digits_of c.month ++ digits_of c.day) (two-digits (c.year % 100) year)
    (joined-digits (digits_of c.month) (digits_of c.day) (two-digits c.month p.month_in) (two-digits c.day p.day_in))

pub day-plain : (d : Day) → InCentury d → IsPlain (yymmdd_of d)
day-plain d century =
    let p = in_parts d century in
    let year : (civil_of d).year % 100 ≤ 99 = omega arith in
    joined-plain (digits_of ((civil_of d).year % 100) ++ digits_of (civil_of d).month) (digits_of (civil_of d).day)
    (joined-plain (digits_of ((civil_of d).year % 100)) (digits_of (civil_of d).month) (two-plain ((civil_of d).year % 100) year)
    (two-plain (civil_of d).month p.month_in))
    (two-plain (civil_of d).day p.day_in)

comma-number : (decimals : ℕ) (bs : List ℕ) (m : Minor) → amount_of decimals bs ≡ Ok m → is_comma_number bs ≡ true
unfolding amount_of
comma-number decimals bs m e = (checked (is_comma_number bs) T40 _ m e).0

pub amount-plain : (decimals n : ℕ) → decimals ≤ 4 → n < amount_end → IsPlain (amount_text decimals n)
amount-plain decimals n few small =
    (comma_number-of-x (amount_text decimals n) (comma-number decimals (amount_text decimals n) (record { 0 = n }) (reads_written decimals n few small))).0

-- an amount that can be written has a digit
pub amount-some : (decimals n : ℕ) → decimals ≤ 4 → n < amount_end → 1 ≤ length (amount_text decimals n)
amount-some decimals n few small =
    (comma_number-of-x (amount_text decimals n) (comma-number decimals (amount_text decimals n) (record { 0 = n }) (reads_written decimals n few small))).1

pub ccy_amount-plain : (a : Amount) → IsWritableAmount a → IsPlain (ccy_amount_text a)
ccy_amount-plain a is =
    joined-plain a.ccy.0 (amount_text a.decimals a.minor.0) (letters-of-x a.ccy.0 is.letters)
    (amount-plain a.decimals a.minor.0 is.amount.few is.amount.small)

-- ---- banks and accounts

c-byte : (b : ℕ) → is_c_byte b ≡ true → is_x_byte b ≡ true
c-byte b e = both (is_ascii_uppercase b) (is_ascii_lowercase b) (is_ascii_digit b) (list_any (λ m. b == m) marks) e
  where
    both : (upper lower digit mark : Bool) → (upper || digit) ≡ true → (upper || lower || digit || mark) ≡ true
    both true lower digit mark h = refl
    both false true digit mark h = refl
    both false false true mark h = refl
    both false false false mark h = absurd (cc h)

-- capital letters and digits hold no brace
pub c-plain : (bs : List ℕ) → list_all is_c_byte bs ≡ true → IsPlain bs
c-plain [] e = refl
c-plain (b ∷ bs) e =
    let parts = and-both (is_c_byte b) (list_all is_c_byte bs) e in
    rw (c-byte b parts.0) (c-plain bs parts.1)

bic-form : (bs : List ℕ) → is_bic bs ≡ true → IsPlain bs
unfolding is_bic
bic-form bs e =
    let parts = and-three ((length bs == 8) || (length bs == 11)) (list_all is_ascii_uppercase (take 6 bs)) (list_all is_c_byte (drop 6 bs)) e in
    sym (ap (list_all (is_in X)) (take-append-drop 6 bs))
    ∙ joined-plain (take 6 bs) (drop 6 bs) (letters-of-x (take 6 bs) parts.1) (c-plain (drop 6 bs) parts.2)

pub bic-plain : (b : Bic) → IsBic b → IsPlain (bic_text b)
bic-plain b is = bic-form (bic_text b) (some_if (is_bic (bic_text b)) _ b (bic-printed b is)).0
