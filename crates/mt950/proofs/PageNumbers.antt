-- Numbers of up to five digits, and field 28C.
use Rattle.std.proofs.Common.{◌≡◌, ℕ, ◌-◌, ◌^◌, ◌<◌, ◌≤◌, Bool, true, false, cond, List, [], ◌∷◌, ◌++◌, length, replicate, position, Option, Some, None, option_map, Ok, refl, ap, arith, rules, nat_le}
use Rattle.std.specs.Prelude.{IfSome, is_some}
use Rattle.std.specs.Char.{is_ascii_digit}
use Rattle.std.specs.Fmt.{decimal}
use Rattle.std.specs.List.{after_first, before_first}
use Rattle.std.specs.Str.{all_ascii_digits}
use Rattle.std.specs.Str.Parse.{digits_value, digits_value_after}
use Rattle.std.proofs.Math.Nat.{pow-le-pow_right}
use Rattle.std.proofs.lemmas.Bool.{le-leb}
use Rattle.std.proofs.lemmas.Bool.Decides.{nat_tests}
use Rattle.std.proofs.lemmas.Fmt.{decimal_is_IsNumeral, length-decimal-le}
use Rattle.std.proofs.lemmas.Grind.{common_steps}
use Rattle.std.proofs.lemmas.Int.Digits.{digits_value-lt}
use Rattle.std.proofs.lemmas.List.{append-nil}
use Rattle.std.proofs.lemmas.Str.Parse.{IsNumeralModel, numerals_by_fold}
use Rattle.corr_text.specs.Digits.{number_of, padded}
use Rattle.corr_text.proofs.laws.Number.{digit_is, number_of-decimal}
use Rattle.fin_fields.specs.declared.field.Field.{Field}
use Rattle.fin_fields.proofs.laws.Positions.{position-none}
use Rattle.fin_contents.specs.Plain.{is_slash, one_line}
use Rattle.fin_contents.proofs.laws.Steps.{there}
use Rattle.fin_contents.proofs.laws.Placed.{all-of}
use Rattle.mt950.specs.Number.{few_digits_of, number_alone, number_and_page, numbers_in, numbers_of}
use Rattle.mt950.specs.Writing.{number_field}
use Rattle.mt950.specs.declared.number.Numbers.{Numbers}
use Rattle.mt950.proofs.First.{Fail, before-it, after-it, position-after}
use Rattle.mt950.proofs.Steps.{and-then, both, mapped, or-some, some-if}

own : IsNumeralModel (λ ds. all_ascii_digits ds ≡ true) (digits_value_after 10 0)
own = numerals_by_fold _ (search rules) (digits_value_after 10) (search (rules, digit_is))

-- up to five digits write a number below 100000
pub number-few : (bs : List ℕ) (n : ℕ) → length bs ≤ 5 → number_of bs ≡ Some n → n < 100000
number-few bs n few e =
    let all : all_ascii_digits bs ≡ true = grind (arith, nat_tests) in
    let value : digits_value 10 bs ≡ n = grind (arith, nat_tests) in
    let some : 0 < 10 = omega arith in
    let most : 10 ^ length bs ≤ 10 ^ 5 = pow-le-pow_right some few in
    omega (arith, digits_value-lt 10 bs (own.to bs all), most, value)

pub ruleset few_digits = (arith, nat_tests, number-few)

-- with no zeros before them digits stand alone
pub bare : (n : ℕ) → padded 0 n ≡ decimal n
bare n =
    let none : 0 - length (decimal n) ≡ 0 = omega arith in
    ap (λ k. replicate k 48 ++ decimal n) none

pub ruleset bare_digits = (arith, common_steps, bare)

-- ---- digits have no slash

digit-other : (b : ℕ) → is_ascii_digit b ≡ true → is_slash b ≡ false
digit-other b e = grind (arith, nat_tests)

digits-other : (bs : List ℕ) → all_ascii_digits bs ≡ true → Fail is_slash bs
digits-other [] e = tt
digits-other (b ∷ bs) e = let p = both (is_ascii_digit b) (all_ascii_digits bs) e in (digit-other b p.0, digits-other bs p.1)

pub decimal-digits : (n : ℕ) → n < 100000 → all_ascii_digits (decimal n) ≡ true
decimal-digits n small =
    let fits : n < 2 ^ 64 = omega arith in
    own.from (decimal n) (decimal_is_IsNumeral n fits).0.1

decimal-other : (n : ℕ) → n < 100000 → Fail is_slash (decimal n)
decimal-other n small = digits-other (decimal n) (decimal-digits n small)

-- ---- a number that is written is read

few-again : (n : ℕ) → n < 100000 → few_digits_of (decimal n) ≡ Some n
few-again n small =
    let fits : n < 2 ^ 64 = omega arith in
    let some : 0 < 5 = omega arith in
    let below : n < 10 ^ 5 = omega arith in
    let short : nat_le (length (decimal n)) 5 ≡ true = le-leb (length (decimal n)) 5 (length-decimal-le 5 n some below fits) in
    let large : n < 10 ^ 19 = omega arith in
    rw (short, number_of-decimal n large) refl

alone-again : (n : ℕ) → n < 100000 → numbers_in (decimal n) ≡ Some (record { number = n; page = None })
unfolding numbers_in
alone-again n small =
    let none : position is_slash (decimal n) ≡ None =
    position-none is_slash (decimal n) (all-of (λ b. is_slash b ≡ false) (decimal n) (decimal-other n small)) in
    rw (none, few-again n small) refl

paged-again : (n k : ℕ) → n < 100000 → k < 100000 → numbers_in (decimal n ++ 47 ∷ decimal k) ≡ Some (record { number = n; page = Some k })
unfolding numbers_in
paged-again n k small few =
    let other = decimal-other n small in
    let at : position is_slash (decimal n ++ 47 ∷ decimal k) ≡ Some (length (decimal n)) =
    position-after is_slash (decimal n) 47 (decimal k) other refl in
    let front : before_first is_slash (decimal n ++ 47 ∷ decimal k) ≡ decimal n = before-it is_slash (decimal n) 47 (decimal k) other refl in
    let back : after_first is_slash (decimal n ++ 47 ∷ decimal k) ≡ decimal k = after-it is_slash (decimal n) 47 (decimal k) other refl in
    rw (at, front, back, few-again n small, few-again k few) refl

pub numbers-again : (n : ℕ) (page : Option ℕ) → n < 100000 → IfSome page (λ k. k < 100000)
    → numbers_of (number_field n page) ≡ Ok (record { number = n; page = page })
unfolding numbers_of
numbers-again n None small few = rw (append-nil (decimal n), alone-again n small) refl
numbers-again n (Some k) small few = rw (paged-again n k small few) refl

-- ---- what is read is below 100000

few-bound : (bs : List ℕ) (n : ℕ) → few_digits_of bs ≡ Some n → n < 100000
few-bound bs n e =
    let few = some-if (nat_le (length bs) 5) (number_of bs) n e in
    let short : length bs ≤ 5 = grind (arith, nat_tests) in
    number-few bs n short few.1

-- both numbers can be written
pub record AreFew (x : Numbers) : Type 0 where
  pub number : x.number < 100000
  pub page : IfSome x.page (λ k. k < 100000)

abbrev alone : ℕ → Numbers
alone n = record { number = n; page = None }

abbrev paged : ℕ → ℕ → Numbers
paged n k = record { number = n; page = Some k }

alone-few : (bs : List ℕ) (x : Numbers) → number_alone bs ≡ Some x → AreFew x
alone-few bs x e =
    let n = mapped alone (few_digits_of bs) x e in
    rw (← n.2) (record { number = few-bound bs n.0 n.1; page = tt })

paged-few : (bs page : List ℕ) (x : Numbers) → number_and_page bs page ≡ Some x → AreFew x
paged-few bs page x e =
    let n = and-then (few_digits_of bs) (λ n. option_map (paged n) (few_digits_of page)) x e in
    let k = mapped (paged n.0) (few_digits_of page) x n.2 in
    rw (← k.2) (record { number = few-bound bs n.0 n.1; page = few-bound page k.0 k.1 })

either : (b : Bool) (o p : Option Numbers) (x : Numbers) → ((y : Numbers) → o ≡ Some y → AreFew y) → ((y : Numbers) → p ≡ Some y → AreFew y)
    → cond b o p ≡ Some x → AreFew x
either true o p x h k e = h x e
either false o p x h k e = k x e

in-few : (line : List ℕ) (x : Numbers) → numbers_in line ≡ Some x → AreFew x
unfolding numbers_in
in-few line x e =
    either (is_some (position is_slash line)) (number_and_page (before_first is_slash line) (after_first is_slash line)) (number_alone line) x
    (λ y h. paged-few (before_first is_slash line) (after_first is_slash line) y h) (λ y h. alone-few line y h) e

pub numbers-few : (f : Field) (x : Numbers) → numbers_of f ≡ Ok x → AreFew x
unfolding numbers_of
numbers-few f x e =
    let line = there (one_line f) _ _ x e in
    in-few line.0 x (or-some (numbers_in line.0) _ x line.2)
