-- Numbers of 15 digits fit.
use Rattle.std.proofs.Common.{◌≡◌, ℕ, ◌^◌, ◌<◌, ◌≤◌, true, List, length, Option, Some, None, sym, arith, rules, FitsSigned, w64, pos, to_z}
use Rattle.std.proofs.lemmas.Int.{ints, to_z_pos}
use Rattle.std.specs.Prelude.{IfSome}
use Rattle.std.specs.Str.{all_ascii_digits}
use Rattle.std.specs.Str.Parse.{digits_value, digits_value_after}
use Rattle.std.proofs.lemmas.Str.Parse.{IsNumeralModel, numerals_by_fold}
use Rattle.std.proofs.Math.Nat.{pow-le-pow_right}
use Rattle.std.proofs.lemmas.Bool.Decides.{nat_tests}
use Rattle.std.proofs.lemmas.Int.Digits.{digits_value-lt}
use Rattle.corr_text.specs.Digits.{number_of}
use Rattle.corr_text.proofs.laws.Number.{digit_is}

own : IsNumeralModel (λ ds. all_ascii_digits ds ≡ true) (digits_value_after 10 0)
own = numerals_by_fold _ (search rules) (digits_value_after 10) (search (rules, digit_is))

number-short : (bs : List ℕ) (n : ℕ) → length bs ≤ 15 → number_of bs ≡ Some n → n < 10 ^ 15
number-short bs n short e =
    let all : all_ascii_digits bs ≡ true = grind (arith, nat_tests) in
    let value : digits_value 10 bs ≡ n = grind (arith, nat_tests) in
    let some : 0 < 10 = omega arith in
    let most : 10 ^ length bs ≤ 10 ^ 15 = pow-le-pow_right some short in
    omega (arith, digits_value-lt 10 bs (own.to bs all), most, value)

-- what 15 digits write is below 10^15
pub written-short : (bs : List ℕ) (o : Option ℕ) → length bs ≤ 15 → o ≡ number_of bs → IfSome o (λ n. n < 10 ^ 15)
written-short bs None short e = tt
written-short bs (Some n) short e = number-short bs n short (sym e)

pub fits : (n : ℕ) → n < 10 ^ 15 → FitsSigned w64 (pos n)
fits n small = omega (arith, ints)

pub signed-same : (n : ℕ) → n < 10 ^ 15 → to_z w64 n ≡ pos n
signed-same n small = to_z_pos w64 n (omega arith)
