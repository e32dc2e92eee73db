-- Fields 60a, 62a and 64: what is written is read, and what is read can be written.
use Rattle.std.proofs.Common.{◌≡◌, ℕ, zero, suc, ◌+◌, ◌/◌, ◌%◌, ◌<◌, ◌≤◌, ◌==◌, ◌&&◌, ◌||◌, Bool, true, false, cond, List, [], ◌∷◌, ◌++◌, length, take, drop, Option, Some, Ok, refl, ap, ◌∙◌, arith, nat_le}
use Rattle.std.specs.Prelude.{ℤ, pos, negsuc, neg_ℤ, unsigned_abs}
use Rattle.std.specs.Char.{is_ascii_digit}
use Rattle.std.specs.Int.{is_negative}
use Rattle.std.specs.List.{list_all}
use Rattle.std.proofs.lemmas.Bool.Decides.{nat_tests}
use Rattle.std.proofs.lemmas.List.{drop_at, length-append, take_at}
use Rattle.corr_text.specs.Sets.{is_in}
use Rattle.corr_text.specs.declared.set.Set.TheVariants.{A, N, X}
use Rattle.corr_ids.specs.Day.{Civil, InCentury, civil_of, day_of, digits_of, yymmdd_of}
use Rattle.corr_ids.specs.declared.day.Day.{Day}
use Rattle.corr_ids.proofs.laws.Century.{in_parts}
use Rattle.corr_ids.proofs.laws.DaySpelling.{day-again, day-named}
use Rattle.corr_money.specs.Amounts.{amount_end}
use Rattle.corr_money.specs.declared.amount.Amount.{Amount}
use Rattle.corr_money.specs.declared.amount.Ccy.{Ccy}
use Rattle.ref_tables.specs.Seen.{Tables, decimals_in}
use Rattle.fin_fields.specs.declared.field.Field.{Field}
use Rattle.fin_layout.specs.declared.place.Place.{Place}
use Rattle.fin_layout.specs.Contents.{in_place}
use Rattle.fin_layout.specs.Order.{field_in}
use Rattle.fin_layout.proofs.laws.ReadBack.{must-ok}
use Rattle.fin_contents.specs.Money.{ccy_amount_in, is_ccy_amount, is_dated_amount}
use Rattle.fin_contents.specs.Plain.{one_line}
use Rattle.fin_contents.specs.Writing.{ccy_amount_text}
use Rattle.fin_contents.proofs.laws.Again.{AmountWritten, amount-letters, amount-read, amount-spelled, small-amount}
use Rattle.fin_contents.proofs.laws.Bytes.{and-three}
use Rattle.fin_contents.proofs.laws.Steps.{checked, read-then, there}
use Rattle.mt950.specs.Balances.{is_balance_text, is_last, signed_by, stated_in, stated_of}
use Rattle.mt950.specs.Writing.{IsBalance, balance_amount, balance_field, balance_mark}
use Rattle.mt950.specs.declared.balance.Balance.{Balance}
use Rattle.mt950.specs.declared.balance.Stated.{Stated}
use Rattle.mt950.proofs.Steps.{both}

-- ---- dates are digits

pair-digits : (n : ℕ) → n ≤ 99 → list_all is_ascii_digit (digits_of n) ≡ true
pair-digits n h =
    let tens : is_ascii_digit (48 + n / 10) ≡ true = grind (arith, nat_tests) in
    let ones : is_ascii_digit (48 + n % 10) ≡ true = grind (arith, nat_tests) in
    rw (tens, ones) refl

six-digits : (a b c d e f : ℕ) → list_all is_ascii_digit (a ∷ b ∷ []) ≡ true → list_all is_ascii_digit (c ∷ d ∷ []) ≡ true
    → list_all is_ascii_digit (e ∷ f ∷ []) ≡ true
    → list_all is_ascii_digit (a ∷ b ∷ c ∷ d ∷ e ∷ f ∷ []) ≡ true
six-digits a b c d e f p q r =
    let one = both (is_ascii_digit a) (is_ascii_digit b && true) p in
    let two = both (is_ascii_digit b) true one.1 in
    let three = both (is_ascii_digit c) (is_ascii_digit d && true) q in
    let four = both (is_ascii_digit d) true three.1 in
    rw (one.0, two.0, three.0, four.0) r

pub date-digits : (d : Day) → InCentury d → list_all (is_in N) (yymmdd_of d) ≡ true
date-digits d century =
    let c : Civil = civil_of d in
    let parts = in_parts d century in
    let year : c.year % 100 ≤ 99 = omega arith in
    let month : c.month ≤ 99 = omega (arith, parts.month_in) in
    let day : c.day ≤ 99 = omega (arith, parts.day_in) in
    six-digits (48 + c.year % 100 / 10) (48 + c.year % 100 % 10) (48 + c.month / 10) (48 + c.month % 10) (48 + c.day / 10) (48 + c.day % 10)
    (pair-digits (c.year % 100) year) (pair-digits c.month month) (pair-digits c.day day)

-- ---- what is written

-- the mark of a balance stands for its sign
record IsMark (signed : ℤ) (mark : ℕ) : Type 0 where
  text : balance_mark signed ≡ mark ∷ []
  form : ((mark == 67) || (mark == 68)) ≡ true
  sign : signed_by mark (unsigned_abs signed) ≡ signed

mark-of : (signed : ℤ) → (mark : ℕ) × IsMark signed mark
mark-of (pos n) =
    let plain : is_negative (pos n) ≡ false = grind (arith, nat_tests) in
    (67, record { text = rw plain refl; form = refl; sign = refl })
mark-of (negsuc n) = (68, record { text = refl; form = refl; sign = refl })

dated : (n : ℕ) → nat_le 4 n ≡ true → nat_le 10 (6 + n) ≡ true
dated n e = grind (arith, nat_tests)

-- a date and an amount after it
record DatedWritten (date : List ℕ) (a : Amount) : Type 0 where
  form : is_dated_amount (date ++ ccy_amount_text a) ≡ true
  front : take 6 (date ++ ccy_amount_text a) ≡ date
  rest : drop 6 (date ++ ccy_amount_text a) ≡ ccy_amount_text a

dated-written : (t : Tables) (date : List ℕ) (a : Amount) → length date ≡ 6 → list_all (is_in N) date ≡ true → AmountWritten t a → DatedWritten date a
dated-written t date a six digits w =
    let text : List ℕ = ccy_amount_text a in
    let front : take 6 (date ++ text) ≡ date = take_at date text 6 six in
    let back : drop 6 (date ++ text) ≡ text = drop_at date text 6 six in
    let four = (and-three (nat_le 4 (length text)) (list_all (is_in A) (take 3 text)) (list_all (is_in X) (drop 3 text)) w.form).0 in
    let long : nat_le 10 (length (date ++ text)) ≡ true = rw (length-append date text, six) (dated (length text) four) in
    record { form = rw (long, front, digits, back, w.form) refl; front = front; rest = back }

line-again : (t : Tables) (last : Bool) (mark : ℕ) (signed : ℤ) (day : Day) (date : List ℕ) (a : Amount) → day_of date ≡ Some day → DatedWritten date a
    → ccy_amount_in t (ccy_amount_text a) ≡ Ok a → signed_by mark a.minor.0 ≡ signed
    → stated_in t last (mark ∷ (date ++ ccy_amount_text a))
    ≡ Ok (record { balance = record { last = last; day = day; signed = signed }; ccy = a.ccy; decimals = a.decimals })
unfolding stated_in
line-again t last mark signed day date a named w read sign = rw (w.front, named, w.rest, read, sign) refl

pub dated-form : (t : Tables) (ccy : Ccy) (decimals : ℕ) (b : Balance) → IsBalance decimals b → length ccy.0 ≡ 3 → list_all (is_in A) ccy.0 ≡ true
    → decimals_in t ccy.0 ≡ Some decimals → is_dated_amount (yymmdd_of b.day ++ ccy_amount_text (balance_amount ccy decimals b)) ≡ true
dated-form t ccy decimals b is three letters known =
    let a : Amount = balance_amount ccy decimals b in
    let amount = amount-spelled t a (record { small = is.small; few = is.few }) three letters known in
    (dated-written t (yymmdd_of b.day) a refl (date-digits b.day is.day) amount).form

-- a balance that is written is read, in a currency of three letters that the table has with its decimals
pub stated-again : (t : Tables) (tag : ℕ) (letter : Option ℕ) (ccy : Ccy) (decimals : ℕ) (b : Balance) → IsBalance decimals b → length ccy.0 ≡ 3
    → list_all (is_in A) ccy.0 ≡ true → decimals_in t ccy.0 ≡ Some decimals → is_last letter ≡ b.last
    → stated_of t (balance_field tag letter ccy decimals b) ≡ Ok (record { balance = b; ccy = ccy; decimals = decimals })
unfolding stated_of
stated-again t tag letter ccy decimals b is three letters known last =
    let a : Amount = balance_amount ccy decimals b in
    let amount = amount-spelled t a (record { small = is.small; few = is.few }) three letters known in
    let w = dated-written t (yymmdd_of b.day) a refl (date-digits b.day is.day) amount in
    let (mark, m) = mark-of b.signed in
    let read = line-again t b.last mark b.signed b.day (yymmdd_of b.day) a (day-again b.day is.day) w amount.read m.sign in
    rw (m.text, m.form, w.form, last, read) refl

-- ---- what is read

-- what is known of a balance that was read
pub record StatedRead (t : Tables) (last : Bool) (s : Stated) : Type 0 where
  pub last_is : s.balance.last ≡ last
  pub day : InCentury s.balance.day
  pub small : unsigned_abs s.balance.signed < amount_end
  pub three : length s.ccy.0 ≡ 3
  pub capitals : list_all (is_in A) s.ccy.0 ≡ true
  pub known : decimals_in t s.ccy.0 ≡ Some s.decimals

abs-neg : (n : ℕ) → unsigned_abs (neg_ℤ (pos n)) ≡ n
abs-neg zero = refl
abs-neg (suc n) = refl

abs-by : (b : Bool) (n : ℕ) → unsigned_abs (cond b (neg_ℤ (pos n)) (pos n)) ≡ n
abs-by true n = abs-neg n
abs-by false n = refl

line-read : (t : Tables) (last : Bool) (mark : ℕ) (dated : List ℕ) (s : Stated) → is_dated_amount dated ≡ true → stated_in t last (mark ∷ dated) ≡ Ok s
    → StatedRead t last s
unfolding stated_in
line-read t last mark dated s form e =
    let parts = and-three (nat_le 10 (length dated)) (list_all (is_in N) (take 6 dated)) (is_ccy_amount (drop 6 dated)) form in
    let day = there (day_of (take 6 dated)) _ _ s e in
    let amount = read-then (ccy_amount_in t (drop 6 dated)) _ s day.2 in
    let same : record {
      balance = record { last = last; day = day.0; signed = signed_by mark amount.0.minor.0 };
      ccy = amount.0.ccy;
      decimals = amount.0.decimals;
    } ≡ s =
    cc amount.2 in
    let read = amount-read t (drop 6 dated) amount.0 amount.1 in
    let letters = amount-letters t (drop 6 dated) amount.0 parts.2 amount.1 in
    let size : unsigned_abs (signed_by mark amount.0.minor.0) ≡ amount.0.minor.0 = abs-by (mark == 68) amount.0.minor.0 in
    let small = (small-amount amount.0.decimals _ amount.0.minor read.minor).1 in
    rw (← same) (record {
      last_is = refl;
      day = (day-named (take 6 dated) day.0 day.1).0;
      small = rw size small;
      three = letters.0;
      capitals = letters.1;
      known = ap (λ (x : List ℕ). decimals_in t x) read.ccy ∙ read.known;
    })

balance-read : (t : Tables) (last : Bool) (line : List ℕ) (s : Stated) → is_balance_text line ≡ true → stated_in t last line ≡ Ok s → StatedRead t last s
balance-read t last [] s form e = absurd (cc form)
balance-read t last (mark ∷ dated) s form e = line-read t last mark dated s (both ((mark == 67) || (mark == 68)) (is_dated_amount dated) form).1 e

pub stated-read : (t : Tables) (f : Field) (s : Stated) → stated_of t f ≡ Ok s → StatedRead t (is_last f.letter) s
unfolding stated_of
stated-read t f s e =
    let line = there (one_line f) _ _ s e in
    let form = checked (is_balance_text line.0) _ _ s line.2 in
    balance-read t (is_last f.letter) line.0 s form.0 form.1

-- an amount after a mark is below the end of amounts
pub amount-small : (t : Tables) (line : List ℕ) (a : Amount) → ccy_amount_in t line ≡ Ok a → a.minor.0 < amount_end
amount-small t line a e = (small-amount a.decimals (drop 3 line) a.minor (amount-read t line a e).minor).1

pub ruleset small_amounts = (arith, amount-small)

-- the currency of a balance at a place is in the table with its decimals
pub place-known : (t : Tables) (order : List Place) (fs : List Field) (found : List ℕ) (k : ℕ) (s : Stated)
    → in_place order fs found k (stated_of t) ≡ Ok s → decimals_in t s.ccy.0 ≡ Some s.decimals
place-known t order fs found k s e =
    let f = must-ok order fs k (stated_of t) (field_in fs found k) s e in
    (stated-read t f.0 s f.1).known
