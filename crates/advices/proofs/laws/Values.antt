-- Fields of amounts that are made new are read as what they were made of, under tables that hold their currency.
use Rattle.std.proofs.Common.{◌≡◌, ℕ, ◌+◌, ◌<◌, ◌==◌, true, false, List, ◌++◌, length, take, drop, Option, Some, None, Ok, refl, ap, ◌∙◌, arith, nat_le}
use Rattle.std.specs.Prelude.{IfSome}
use Rattle.std.specs.List.{list_all}
use Rattle.std.proofs.lemmas.Bool.{le-leb}
use Rattle.std.proofs.lemmas.Bool.Decides.{nat_tests}
use Rattle.std.proofs.lemmas.List.{drop_at, length-append, take_at}
use Rattle.corr_text.specs.Sets.{is_in}
use Rattle.corr_text.specs.declared.set.Set.TheVariants.{N, A}
use Rattle.corr_ids.specs.Day.{day_of, yymmdd_of}
use Rattle.corr_ids.proofs.laws.DaySpelling.{day-again}
use Rattle.corr_money.specs.Amounts.{amount_of, amount_text}
use Rattle.corr_money.specs.declared.amount.Amount.{Amount}
use Rattle.corr_money.proofs.laws.Written.{reads_written}
use Rattle.ref_tables.specs.Seen.{Tables}
use Rattle.fin_contents.specs.declared.value.Value.{Value}
use Rattle.fin_contents.specs.Money.{ccy_amount_in, ccy_amount_of, is_ccy_amount, is_dated_amount, value_in, value_of}
use Rattle.fin_contents.specs.Writing.{ccy_amount_field, ccy_amount_text, value_field}
use Rattle.advices.specs.inner.Spelled.{IsMoved, IsWritableAmount}
use Rattle.advices.specs.Valid.{IsTabled}
use Rattle.advices.proofs.laws.Bytes.{amount-plain, amount-some, day-digits}

-- an amount of a currency of the tables
record Written (t : Tables) (a : Amount) : Type 0 where
  form : is_ccy_amount (ccy_amount_text a) ≡ true
  read : ccy_amount_in t (ccy_amount_text a) ≡ Ok a
  front : take 3 (ccy_amount_text a) ≡ a.ccy.0
  long : nat_le 4 (length (ccy_amount_text a)) ≡ true

written : (t : Tables) (a : Amount) → IsWritableAmount a → IsTabled t a → Written t a
unfolding ccy_amount_in
written t a is tabled =
    let text : List ℕ = amount_text a.decimals a.minor.0 in
    let front : take 3 (a.ccy.0 ++ text) ≡ a.ccy.0 = take_at a.ccy.0 text 3 tabled.three in
    let back : drop 3 (a.ccy.0 ++ text) ≡ text = drop_at a.ccy.0 text 3 tabled.three in
    let minor : amount_of a.decimals text ≡ Ok a.minor = reads_written a.decimals a.minor.0 is.amount.few is.amount.small in
    let plain = amount-plain a.decimals a.minor.0 is.amount.few is.amount.small in
    let some = amount-some a.decimals a.minor.0 is.amount.few is.amount.small in
    let long : nat_le 4 (length (a.ccy.0 ++ text)) ≡ true =
    le-leb 4 (length (a.ccy.0 ++ text)) (omega (arith, length-append a.ccy.0 text, tabled.three, some)) in
    let letters : list_all (is_in A) a.ccy.0 ≡ true = is.letters in
    record {
      form = rw (long, front, letters, back, plain) refl;
      read = rw (front, tabled.known, back, minor) refl;
      front = front;
      long = long;
    }

-- 33B and 71F
pub amount-made : (t : Tables) (tag : ℕ) (letter : Option ℕ) (a : Amount) → IsWritableAmount a → IsTabled t a
    → ccy_amount_of t (ccy_amount_field tag letter a) ≡ Ok a
unfolding ccy_amount_of
amount-made t tag letter a is tabled = let w = written t a is tabled in rw (w.form, w.read) refl

-- a charge is read of its 71F
abbrev pub ChargeReads : Tables → Option Amount → Type 0
ChargeReads t charge = IfSome charge (λ a. ccy_amount_of t (ccy_amount_field 71 (Some 70) a) ≡ Ok a)

pub charge-made : (t : Tables) (charge : Option Amount) → IfSome charge (λ a. IsWritableAmount a × IsTabled t a) → ChargeReads t charge
charge-made t None is = tt
charge-made t (Some a) is = amount-made t 71 (Some 70) a is.0 is.1

dated-long : (n : ℕ) → nat_le 4 n ≡ true → nat_le 10 (6 + n) ≡ true
dated-long n e = grind (arith, nat_tests)

above : (n : ℕ) → 0 < n → (n == 0) ≡ false
above n e = grind (arith, nat_tests)

value-read : (t : Tables) (v : Value) (date : List ℕ) → date ≡ yymmdd_of v.day → length date ≡ 6 → IsMoved v → IsTabled t v.amount → 0 < v.amount.minor.0
    → (is_dated_amount (date ++ ccy_amount_text v.amount) ≡ true) × (value_in t (date ++ ccy_amount_text v.amount) ≡ Ok v)
unfolding value_in
value-read t v date spelled six is tabled some =
    let w = written t v.amount is.amount tabled in
    let front : take 6 (date ++ ccy_amount_text v.amount) ≡ date = take_at date (ccy_amount_text v.amount) 6 six in
    let back : drop 6 (date ++ ccy_amount_text v.amount) ≡ ccy_amount_text v.amount = drop_at date (ccy_amount_text v.amount) 6 six in
    let total : length (date ++ ccy_amount_text v.amount) ≡ 6 + length (ccy_amount_text v.amount) =
    omega (arith, length-append date (ccy_amount_text v.amount), six) in
    let long : nat_le 10 (length (date ++ ccy_amount_text v.amount)) ≡ true =
    ap (nat_le 10) total ∙ dated-long (length (ccy_amount_text v.amount)) w.long in
    let digits : list_all (is_in N) date ≡ true = ap (λ (x : List ℕ). list_all (is_in N) x) spelled ∙ day-digits v.day is.day in
    let day : day_of date ≡ Some v.day = ap (λ (x : List ℕ). day_of x) spelled ∙ day-again v.day is.day in (
      rw (long, front, digits, back, w.form) refl,
      rw (front, day, back, w.front, tabled.metal, w.read, above v.amount.minor.0 some) refl,
    )

-- 32A
pub value-made : (t : Tables) (v : Value) → IsMoved v → IsTabled t v.amount → 0 < v.amount.minor.0 → value_of t (value_field v) ≡ Ok v
unfolding value_of
value-made t v is tabled some =
    let r = value-read t v (yymmdd_of v.day) refl refl is tabled some in
    rw (r.0, r.1) refl
