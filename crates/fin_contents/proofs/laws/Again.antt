-- A content that was read is read again from the field that it is written as.
use Rattle.std.proofs.Common.{◌≡◌, ℕ, ◌+◌, ◌<◌, ◌≤◌, ◌==◌, ◌&&◌, not, Bool, true, false, List, [], ◌∷◌, ◌++◌, length, take, drop, Option, Some, None, Result, Ok, Err, refl, sym, ap, ◌∙◌, arith, nat_le, nat_lt}
use Rattle.std.specs.Prelude.{IfSome, IsTrue}
use Rattle.std.specs.List.{list_all}
use Rattle.std.proofs.lemmas.Bool.{le-leb}
use Rattle.std.proofs.lemmas.Bool.Decides.{nat_tests}
use Rattle.std.proofs.lemmas.List.{drop_at, length-append, length-take-le, take_at}
use Rattle.std.specs.Str.{bytes_eq}
use Rattle.corr_text.specs.Sets.{is_in}
use Rattle.corr_text.specs.Slashes.{has_stray_slash}
use Rattle.corr_text.specs.declared.set.Set.TheVariants.{X, N, A}
use Rattle.corr_ids.specs.Day.{InCentury, day_of, yymmdd_of}
use Rattle.corr_ids.proofs.laws.DaySpelling.{day-named}
use Rattle.corr_money.specs.Amounts.{amount_end, amount_of, amount_text, decimals_of, is_comma_number, minor_of}
use Rattle.corr_money.specs.declared.amount.Amount.{Amount}
use Rattle.corr_money.specs.declared.amount.Minor.{Minor}
use Rattle.corr_money.specs.declared.fault.AmountFault.{AmountFault}
use Rattle.corr_money.specs.declared.fault.AmountFault.TheVariants.{T40 as NoNumber, T43 as TooLong, C03 as TooFine, TooLarge}
use Rattle.corr_money.proofs.laws.Written.{reads_written}
use Rattle.ref_tables.specs.Seen.{Tables, decimals_in, few_decimals}
use Rattle.ref_tables.proofs.laws.Decimals.{lookup_few}
use Rattle.fin_fields.specs.declared.field.Field.{Field}
use Rattle.fin_fields.specs.declared.pattern.Pattern.TheVariants.{Lines}
use Rattle.fin_fields.specs.Patterns.{is_run, meets}
use Rattle.fin_layout.specs.declared.place.Place.{Place}
use Rattle.fin_layout.specs.Contents.{in_place}
use Rattle.fin_layout.specs.Order.{field_in}
use Rattle.fin_layout.proofs.laws.ReadBack.{must-ok}
use Rattle.fin_parties.specs.Party.{party_of}
use Rattle.fin_parties.specs.Writing.{party_field}
use Rattle.fin_parties.specs.declared.party.Party.{Party}
use Rattle.fin_parties.proofs.laws.Again.{party-again}
use Rattle.fin_contents.specs.declared.value.Value.{Value}
use Rattle.fin_contents.specs.Money.{IsPayable, ccy_amount_in, ccy_amount_of, coded, is_ccy_amount, is_dated_amount, is_metal, minor_in, rate_of, value_in, value_of}
use Rattle.fin_contents.specs.Parties.{is_known, known_party_of}
use Rattle.fin_contents.specs.Plain.{is_time, one_line, reference_of, short_line_of, texts_of, time_of}
use Rattle.fin_contents.specs.Writing.{IsAmount, IsValue, ccy_amount_field, ccy_amount_text, line_field, lines_field, value_field}
use Rattle.fin_contents.proofs.laws.Bytes.{and-three, comma_number-of-x}
use Rattle.fin_contents.proofs.laws.Steps.{checked, is-only, read-then, there}

-- ---- contents that keep their lines

-- a field that is read as a reference is that one line
pub reference-kept : (f : Field) (x : List ℕ) → reference_of f ≡ Ok x → f.lines ≡ x ∷ []
unfolding reference_of
reference-kept f x e =
    let line = there (one_line f) _ _ x e in
    let run = checked (is_run (is_in X) 16 line.0) _ _ x line.2 in
    let plain = checked (not (has_stray_slash line.0)) _ _ x run.1 in
    let same : line.0 ≡ x = cc plain.1 in
    is-only f.lines line.0 line.1 ∙ ap (λ (y : List ℕ). y ∷ []) same

-- a reference that was read, written as a field, is read as itself
pub reference-again : (tag : ℕ) (letter : Option ℕ) (f : Field) (x : List ℕ) → reference_of f ≡ Ok x → reference_of (line_field tag letter x) ≡ Ok x
unfolding reference_of
reference-again tag letter f x e = ap (λ (ls : List (List ℕ)). reference_of (lines_field tag letter ls)) (sym (reference-kept f x e)) ∙ e

-- a field that is read as a time indication is that one line
pub time-kept : (f : Field) (x : List ℕ) → time_of f ≡ Ok x → f.lines ≡ x ∷ []
unfolding time_of
time-kept f x e =
    let line = there (one_line f) _ _ x e in
    let is = checked (is_time line.0) _ _ x line.2 in
    let same : line.0 ≡ x = cc is.1 in
    is-only f.lines line.0 line.1 ∙ ap (λ (y : List ℕ). y ∷ []) same

-- a time indication that was read, written as a field, is read as itself
pub time-again : (tag : ℕ) (letter : Option ℕ) (f : Field) (x : List ℕ) → time_of f ≡ Ok x → time_of (line_field tag letter x) ≡ Ok x
unfolding time_of
time-again tag letter f x e = ap (λ (ls : List (List ℕ)). time_of (lines_field tag letter ls)) (sym (time-kept f x e)) ∙ e

-- a field that is read as a rate is that one line
pub rate-kept : (f : Field) (x : List ℕ) → rate_of f ≡ Ok x → f.lines ≡ x ∷ []
unfolding rate_of
rate-kept f x e =
    let line = there (one_line f) _ _ x e in
    let some = checked (nat_le 1 (length line.0) && list_all (is_in X) line.0) _ _ x line.2 in
    let number = checked (is_comma_number line.0) _ _ x some.1 in
    let short = checked (nat_le (length line.0) 12) _ _ x number.1 in
    let same : line.0 ≡ x = cc short.1 in
    is-only f.lines line.0 line.1 ∙ ap (λ (y : List ℕ). y ∷ []) same

-- a rate that was read, written as a field, is read as itself
pub rate-again : (tag : ℕ) (letter : Option ℕ) (f : Field) (x : List ℕ) → rate_of f ≡ Ok x → rate_of (line_field tag letter x) ≡ Ok x
unfolding rate_of
rate-again tag letter f x e = ap (λ (ls : List (List ℕ)). rate_of (lines_field tag letter ls)) (sym (rate-kept f x e)) ∙ e

-- a field that is read as a short line is that line
pub short_line-kept : (most : ℕ) (f : Field) (x : List ℕ) → short_line_of most f ≡ Ok x → f.lines ≡ x ∷ []
unfolding short_line_of
short_line-kept most f x e =
    let line = there (one_line f) _ _ x e in
    let run = checked (is_run (is_in X) most line.0) _ _ x line.2 in
    let same : line.0 ≡ x = cc run.1 in
    is-only f.lines line.0 line.1 ∙ ap (λ (y : List ℕ). y ∷ []) same

-- a short line that was read, written as a field, is read as itself
pub short_line-again : (most tag : ℕ) (letter : Option ℕ) (f : Field) (x : List ℕ) → short_line_of most f ≡ Ok x → short_line_of most (line_field tag letter x) ≡ Ok x
unfolding short_line_of
short_line-again most tag letter f x e = ap (λ (ls : List (List ℕ)). short_line_of most (lines_field tag letter ls)) (sym (short_line-kept most f x e)) ∙ e

-- a field that is read as lines of text is those lines
pub texts-kept : (most : ℕ) (f : Field) (lines : List (List ℕ)) → texts_of most f ≡ Ok lines → f.lines ≡ lines
unfolding texts_of
texts-kept most f lines e = cc (checked (meets (Lines most 35) f.lines) _ _ lines e).1

-- lines of text that were read, written as a field, are read as themselves
pub texts-again : (most tag : ℕ) (letter : Option ℕ) (f : Field) (lines : List (List ℕ)) → texts_of most f ≡ Ok lines → texts_of most (lines_field tag letter lines) ≡ Ok lines
unfolding texts_of
texts-again most tag letter f lines e = ap (λ (ls : List (List ℕ)). texts_of most (lines_field tag letter ls)) (sym (texts-kept most f lines e)) ∙ e

-- ---- amounts

-- an amount that is read with codes for its faults is read without them
pub coded-ok : (r : Result Minor AmountFault) (minor : Minor) → coded r ≡ Ok minor → r ≡ Ok minor
coded-ok (Ok m) minor e = ap Ok (cc e)
coded-ok (Err fault) minor e = absurd (cc e)

-- what is known of an amount that was read from a line
pub record AmountRead (t : Tables) (line : List ℕ) (a : Amount) : Type 0 where
  pub ccy : a.ccy.0 ≡ take 3 line
  pub known : decimals_in t (take 3 line) ≡ Some a.decimals
  pub minor : amount_of a.decimals (drop 3 line) ≡ Ok a.minor

-- what a line says that is read as an amount: its currency, the decimals of the table, and the number
pub amount-read : (t : Tables) (line : List ℕ) (a : Amount) → ccy_amount_in t line ≡ Ok a → AmountRead t line a
unfolding ccy_amount_in
amount-read t line a e =
    let decimals = there (decimals_in t (take 3 line)) _ _ a e in
    let minor = read-then (minor_in decimals.0 (drop 3 line)) _ a decimals.2 in
    let same : record { ccy = record { 0 = take 3 line }; minor = minor.0; decimals = decimals.0 } ≡ a = cc minor.2 in
    rw (← same) (record { ccy = refl; known = decimals.1; minor = coded-ok (amount_of decimals.0 (drop 3 line)) minor.0 minor.1 })

below : (n : ℕ) → nat_lt n amount_end ≡ true → n < amount_end
below n e = grind (arith, nat_tests)

-- an amount that was read is below the end of amounts
pub small-amount : (decimals : ℕ) (bs : List ℕ) (m : Minor) → amount_of decimals bs ≡ Ok m → (is_comma_number bs ≡ true) × (m.0 < amount_end)
unfolding amount_of
small-amount decimals bs m e =
    let number = checked (is_comma_number bs) NoNumber _ m e in
    let short = checked (nat_le (length bs) 15) TooLong _ m number.1 in
    let few = checked (nat_le (length (decimals_of bs)) decimals) TooFine _ m short.1 in
    let small = checked (nat_lt (minor_of decimals bs) amount_end) TooLarge _ m few.1 in
    let same : record { 0 = minor_of decimals bs } ≡ m = cc small.1 in
    (number.0, rw (← same) (below (minor_of decimals bs) small.0))

some-few : (o : Option ℕ) (d : ℕ) → o ≡ Some d → IfSome o (λ n. n ≤ 4) → d ≤ 4
some-few (Some n) d e h = let same : n ≡ d = cc e in rw (← same) h
some-few None d e h = absurd (cc e)

-- what was read may be written, where the table's currencies have at most 4 decimals
amount-is : (t : Tables) (line : List ℕ) (a : Amount) → IsTrue (few_decimals t.ccys) → ccy_amount_in t line ≡ Ok a → IsAmount a
amount-is t line a few e =
    let read = amount-read t line a e in
    record {
      small = (small-amount a.decimals (drop 3 line) a.minor read.minor).1;
      few = some-few (decimals_in t (take 3 line)) a.decimals read.known (lookup_few (bytes_eq (take 3 line)) t.ccys few);
    }

-- an amount that a field says under tables of few decimals can be written
pub ccy_amount-is : (t : Tables) (f : Field) (a : Amount) → IsTrue (few_decimals t.ccys) → ccy_amount_of t f ≡ Ok a → IsAmount a
unfolding ccy_amount_of
ccy_amount-is t f a few e =
    let line = there (one_line f) _ _ a e in
    let form = checked (is_ccy_amount line.0) _ _ a line.2 in
    amount-is t line.0 a few form.1

-- an amount as it is written
pub record AmountWritten (t : Tables) (a : Amount) : Type 0 where
  pub form : is_ccy_amount (ccy_amount_text a) ≡ true
  pub read : ccy_amount_in t (ccy_amount_text a) ≡ Ok a
  pub front : take 3 (ccy_amount_text a) ≡ a.ccy.0

within-4 : (n : ℕ) → nat_le 4 n ≡ true → 3 ≤ n
within-4 n e = grind (arith, nat_tests)

-- an amount in a currency of three letters that the table has with these decimals
pub amount-spelled : (t : Tables) (a : Amount) → IsAmount a → length a.ccy.0 ≡ 3 → list_all (is_in A) a.ccy.0 ≡ true → decimals_in t a.ccy.0 ≡ Some a.decimals → AmountWritten t a
unfolding ccy_amount_in
amount-spelled t a is three letters known =
    let text : List ℕ = amount_text a.decimals a.minor.0 in
    let front : take 3 (a.ccy.0 ++ text) ≡ a.ccy.0 = take_at a.ccy.0 text 3 three in
    let back : drop 3 (a.ccy.0 ++ text) ≡ text = drop_at a.ccy.0 text 3 three in
    let minor : amount_of a.decimals text ≡ Ok a.minor = reads_written a.decimals a.minor.0 is.few is.small in
    let number = comma_number-of-x text (small-amount a.decimals text a.minor minor).0 in
    let long : nat_le 4 (length (a.ccy.0 ++ text)) ≡ true = le-leb 4 (length (a.ccy.0 ++ text)) (omega (arith, length-append a.ccy.0 text, three, number.1)) in
    record {
      form = rw (long, front, letters, back, number.0) refl;
      read = rw (front, known, back, minor) refl;
      front = front;
    }

-- the letters of an amount that was read are three capitals
pub amount-letters : (t : Tables) (line : List ℕ) (a : Amount) → is_ccy_amount line ≡ true → ccy_amount_in t line ≡ Ok a → (length a.ccy.0 ≡ 3) × (list_all (is_in A) a.ccy.0 ≡ true)
amount-letters t line a form e =
    let read = amount-read t line a e in
    let parts = and-three (nat_le 4 (length line)) (list_all (is_in A) (take 3 line)) (list_all (is_in X) (drop 3 line)) form in
    (ap (λ (x : List ℕ). length x) read.ccy ∙ length-take-le 3 line (within-4 (length line) parts.0), ap (λ (x : List ℕ). list_all (is_in A) x) read.ccy ∙ parts.1)

amount-written : (t : Tables) (line : List ℕ) (a : Amount) → IsAmount a → is_ccy_amount line ≡ true → ccy_amount_in t line ≡ Ok a → AmountWritten t a
amount-written t line a is form e =
    let read = amount-read t line a e in
    let letters = amount-letters t line a form e in
    amount-spelled t a is letters.0 letters.1 (ap (λ (x : List ℕ). decimals_in t x) read.ccy ∙ read.known)

-- an amount that was read, written as a field, is read as itself
pub ccy_amount-again : (tag : ℕ) (letter : Option ℕ) (t : Tables) (f : Field) (a : Amount) → IsAmount a → ccy_amount_of t f ≡ Ok a → ccy_amount_of t (ccy_amount_field tag letter a) ≡ Ok a
unfolding ccy_amount_of
ccy_amount-again tag letter t f a is e =
    let line = there (one_line f) _ _ a e in
    let form = checked (is_ccy_amount line.0) _ _ a line.2 in
    let written = amount-written t line.0 a is form.0 form.1 in
    rw (written.form, written.read) refl

-- ---- values

-- what is known of a value that was read from a line
record ValueRead (t : Tables) (line : List ℕ) (v : Value) : Type 0 where
  day : day_of (take 6 line) ≡ Some v.day
  metal : is_metal (take 3 (drop 6 line)) ≡ false
  amount : ccy_amount_in t (drop 6 line) ≡ Ok v.amount
  some : (v.amount.minor.0 == 0) ≡ false

not-true : (b : Bool) → not b ≡ true → b ≡ false
not-true true e = absurd (cc e)
not-true false e = refl

value-read : (t : Tables) (line : List ℕ) (v : Value) → value_in t line ≡ Ok v → ValueRead t line v
unfolding value_in
value-read t line v e =
    let day = there (day_of (take 6 line)) _ _ v e in
    let metal = checked (not (is_metal (take 3 (drop 6 line)))) _ _ v day.2 in
    let amount = read-then (ccy_amount_in t (drop 6 line)) _ v metal.1 in
    let some = checked (not (amount.0.minor.0 == 0)) _ _ v amount.2 in
    let same : record { day = day.0; amount = amount.0 } ≡ v = cc some.1 in
    rw (← same) (record { day = day.1; metal = not-true (is_metal (take 3 (drop 6 line))) metal.0; amount = amount.1; some = not-true (amount.0.minor.0 == 0) some.0 })

-- the day of a value is one of the century
pub value-day : (t : Tables) (f : Field) (v : Value) → value_of t f ≡ Ok v → InCentury v.day
unfolding value_of
value-day t f v e =
    let line = there (one_line f) _ _ v e in
    let form = checked (is_dated_amount line.0) _ _ v line.2 in
    (day-named (take 6 line.0) v.day (value-read t line.0 v form.1).day).0

-- so can a value date with its amount
pub value-is : (t : Tables) (f : Field) (v : Value) → IsTrue (few_decimals t.ccys) → value_of t f ≡ Ok v → IsValue v
unfolding value_of
value-is t f v few e =
    let line = there (one_line f) _ _ v e in
    let form = checked (is_dated_amount line.0) _ _ v line.2 in
    let read = value-read t line.0 v form.1 in
    record { day = value-day t f v e; amount = amount-is t (drop 6 line.0) v.amount few read.amount }

positive : (n : ℕ) → (n == 0) ≡ false → 0 < n
positive n e = grind (arith, nat_tests)

-- what 32A says may be paid
value-payable : (t : Tables) (f : Field) (v : Value) → value_of t f ≡ Ok v → IsPayable v.amount
unfolding value_of
value-payable t f v e =
    let line = there (one_line f) _ _ v e in
    let form = checked (is_dated_amount line.0) _ _ v line.2 in
    let read = value-read t line.0 v form.1 in
    let amount = amount-read t (drop 6 line.0) v.amount read.amount in
    record { above = positive v.amount.minor.0 read.some; below = (small-amount v.amount.decimals (drop 3 (drop 6 line.0)) v.amount.minor amount.minor).1 }

-- an amount that stands at a place of 32A is one that can be paid
pub place-payable : (t : Tables) (order : List Place) (fs : List Field) (found : List ℕ) (k : ℕ) (v : Value) → in_place order fs found k (value_of t) ≡ Ok v → IsPayable v.amount
place-payable t order fs found k v e = let f = must-ok order fs k (value_of t) (field_in fs found k) v e in value-payable t f.0 v f.1

-- six digits before an amount
dated : (n : ℕ) → nat_le 4 n ≡ true → nat_le 10 (6 + n) ≡ true
dated n e = grind (arith, nat_tests)

-- a date and an amount after it
value-written : (t : Tables) (line date : List ℕ) (v : Value) → IsValue v → date ≡ take 6 line → length date ≡ 6 → is_dated_amount line ≡ true → value_in t line ≡ Ok v
    → (is_dated_amount (date ++ ccy_amount_text v.amount) ≡ true) × (value_in t (date ++ ccy_amount_text v.amount) ≡ Ok v)
unfolding value_in
value-written t line date v is spelled six form e =
    let read = value-read t line v e in
    let parts = and-three (nat_le 10 (length line)) (list_all (is_in N) (take 6 line)) (is_ccy_amount (drop 6 line)) form in
    let amount = amount-written t (drop 6 line) v.amount is.amount parts.2 read.amount in
    let text : List ℕ = ccy_amount_text v.amount in
    let front : take 6 (date ++ text) ≡ date = take_at date text 6 six in
    let back : drop 6 (date ++ text) ≡ text = drop_at date text 6 six in
    let digits : list_all (is_in N) date ≡ true = ap (λ (x : List ℕ). list_all (is_in N) x) spelled ∙ parts.1 in
    let day : day_of date ≡ Some v.day = ap (λ (x : List ℕ). day_of x) spelled ∙ read.day in
    let metal : is_metal (take 3 text) ≡ false = ap (λ (x : List ℕ). is_metal x) (amount.front ∙ (amount-read t (drop 6 line) v.amount read.amount).ccy) ∙ read.metal in
    let four = (and-three (nat_le 4 (length text)) (list_all (is_in A) (take 3 text)) (list_all (is_in X) (drop 3 text)) amount.form).0 in
    let long : nat_le 10 (length (date ++ text)) ≡ true = rw (length-append date text, six) (dated (length text) four) in
    (rw (long, front, digits, back, amount.form) refl, rw (front, day, back, metal, amount.read, read.some) refl)

-- a value date with its amount that was read, written as a field, is read as itself
pub value-again : (t : Tables) (f : Field) (v : Value) → IsValue v → value_of t f ≡ Ok v → value_of t (value_field v) ≡ Ok v
unfolding value_of
value-again t f v is e =
    let line = there (one_line f) _ _ v e in
    let form = checked (is_dated_amount line.0) _ _ v line.2 in
    let written = value-written t line.0 (yymmdd_of v.day) v is (day-named (take 6 line.0) v.day (value-read t line.0 v form.1).day).1 refl form.0 form.1 in
    rw (written.0, written.1) refl

-- ---- parties

-- a party whose bank is known is a party of its field
pub party-of-known : (t : Tables) (f : Field) (p : Party) → known_party_of t f ≡ Ok p → (party_of f ≡ Some p) × (is_known t p ≡ true)
unfolding known_party_of
party-of-known t f p e =
    let party = there (party_of f) _ _ p e in
    let known = checked (is_known t party.0) _ _ p party.2 in
    let same : party.0 ≡ p = cc known.1 in
    rw (← same) (party.1, known.0)

pub known_party-again : (t : Tables) (f : Field) (p : Party) → known_party_of t f ≡ Ok p → known_party_of t (party_field f.tag p) ≡ Ok p
unfolding known_party_of
known_party-again t f p e =
    let read = party-of-known t f p e in
    rw (party-again f p read.0, read.1) refl
