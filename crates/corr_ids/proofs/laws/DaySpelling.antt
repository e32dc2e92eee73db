-- The days of the century as six digits spell them.
use Rattle.std.proofs.Common.{◌≡◌, ℕ, ◌+◌, ◌-◌, ◌*◌, ◌/◌, ◌%◌, ◌≤◌, ◌&&◌, List, [], ◌∷◌, ◌++◌, Option, Some, None, refl, sym, ap, ◌∙◌, arith, pos, option_and_then, IfSome}
use Rattle.std.specs.Int.{IsInRange}
use Rattle.std.specs.Char.{is_ascii_digit}
use Rattle.std.proofs.lemmas.Bool.Decides.{nat_tests}
use Rattle.jiff_core.specs.Calendar.{days_from_civil}
use Rattle.corr_ids.specs.declared.day.Day.{Day}
use Rattle.corr_ids.specs.Day.{Civil, InCentury, civil_day, civil_of, day_of, digits_of, is_civil, pair_of, year_of, yymmdd_of}
use Rattle.corr_ids.proofs.laws.Century.{century_from, civil-again, civil_is, in_parts}
use Rattle.corr_ids.proofs.laws.Civil.{date_from}
use Rattle.corr_ids.proofs.laws.Spelling.{some_if}

-- two digits are read again, and so are the last two of a year
pair-again : (n : ℕ) → n ≤ 99 → pair_of (48 + n / 10) (48 + n % 10) ≡ Some n
pair-again n h = grind (arith, nat_tests)

year-again : (y : ℕ) → IsInRange 1980 2079 y → year_of (y % 100) ≡ y
year-again y h = grind (arith, nat_tests)

-- a day of the century is read again as it is spelled
pub day-again : (d : Day) → InCentury d → day_of (yymmdd_of d) ≡ Some d
unfolding day_of
day-again d century =
    let c : Civil = civil_of d in
    let parts = in_parts d century in
    rw (pair-again (c.year % 100) (omega arith), pair-again c.month parts.month_in, pair-again c.day parts.day_in, year-again c.year parts.year_in) (civil-again d century)

-- two digits that were read are spelled so again, and so is a year
pair-spelled : (a b n : ℕ) → pair_of a b ≡ Some n → (digits_of n ≡ a ∷ b ∷ []) × (n ≤ 99)
pair-spelled a b n e =
    let s = some_if (is_ascii_digit a && is_ascii_digit b) (10 * (a - 48) + (b - 48)) n e in
    let high : 48 + n / 10 ≡ a = grind (arith, nat_tests) in
    let low : 48 + n % 10 ≡ b = grind (arith, nat_tests) in
    (rw (high, low) refl, grind (arith, nat_tests))

year_in_century : (yy : ℕ) → yy ≤ 99 → IsInRange 1980 2079 (year_of yy) × (year_of yy % 100 ≡ yy)
year_in_century yy h = grind (arith, nat_tests)

then_some : {A B : Type 0} (o : Option A) (f : A → Option B) (b : B) → option_and_then f o ≡ Some b → (x : A) × (o ≡ Some x) × (f x ≡ Some b)
then_some (Some x) f b e = (x, refl, e)
then_some None f b e = absurd (cc e)

-- a date that was read is a day of the century, and spells it
civil-named : (yy m n : ℕ) (d : Day) → yy ≤ 99 → civil_day (year_of yy) m n ≡ Some d → InCentury d × (yymmdd_of d ≡ digits_of yy ++ digits_of m ++ digits_of n)
civil-named yy m n d h e =
    let year = year_in_century yy h in
    let s = some_if (is_civil (year_of yy) m n) (record { 0 = days_from_civil (pos (year_of yy)) m n }) d e in
    let date = date_from (year_of yy) m n (omega arith) s.0 in
    let century : InCentury d = rw (← s.1) (century_from (year_of yy) m n year.0 date) in
    let is = civil_is (year_of yy) m n d date century (ap (λ x. x.0) s.1) in
    (century, rw (is.0, is.1, is.2, year.1) refl)

joined : (a b c x y z : List ℕ) → a ≡ x → b ≡ y → c ≡ z → a ++ b ++ c ≡ x ++ y ++ z
joined a b c x y z p q r = cc

-- the day that a text names is one of the century, and is spelled by that text alone
pub day-named : (bs : List ℕ) (d : Day) → day_of bs ≡ Some d → InCentury d × (yymmdd_of d ≡ bs)
unfolding day_of
day-named (y1 ∷ y2 ∷ m1 ∷ m2 ∷ d1 ∷ d2 ∷ []) d e =
    let y = then_some (pair_of y1 y2) _ d e in
    let m = then_some (pair_of m1 m2) _ d y.2 in
    let n = then_some (pair_of d1 d2) _ d m.2 in
    let year = pair-spelled y1 y2 y.0 y.1 in
    let month = pair-spelled m1 m2 m.0 m.1 in
    let day = pair-spelled d1 d2 n.0 n.1 in
    let named = civil-named y.0 m.0 n.0 d year.1 n.2 in
    (named.0, named.1 ∙ joined (digits_of y.0) (digits_of m.0) (digits_of n.0) (y1 ∷ y2 ∷ []) (m1 ∷ m2 ∷ []) (d1 ∷ d2 ∷ []) year.0 month.0 day.0)
day-named [] d e = absurd (cc e)
day-named (a ∷ []) d e = absurd (cc e)
day-named (a ∷ b ∷ []) d e = absurd (cc e)
day-named (a ∷ b ∷ c ∷ []) d e = absurd (cc e)
day-named (a ∷ b ∷ c ∷ f ∷ []) d e = absurd (cc e)
day-named (a ∷ b ∷ c ∷ f ∷ g ∷ []) d e = absurd (cc e)
day-named (a ∷ b ∷ c ∷ f ∷ g ∷ h ∷ i ∷ more) d e = absurd (cc e)

-- and what was read tells it
pub read-spelled : (bs : List ℕ) (read : Option Day) → read ≡ day_of bs → IfSome read (λ d. yymmdd_of d ≡ bs)
read-spelled bs (Some d) e = (day-named bs d (sym e)).1
read-spelled bs None e = tt
