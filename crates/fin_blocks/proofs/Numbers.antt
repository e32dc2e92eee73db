-- Numbers of three digits.
use Rattle.std.proofs.Common.{◌≡◌, ℕ, ◌^◌, ◌<◌, true, List, length, Some, refl, arith, rules}
use Rattle.std.specs.Str.{all_ascii_digits}
use Rattle.std.specs.Str.Parse.{digits_value, digits_value_after}
use Rattle.std.proofs.lemmas.Str.Parse.{IsNumeralModel, numerals_by_fold}
use Rattle.std.proofs.lemmas.Bool.Decides.{nat_tests}
use Rattle.std.proofs.lemmas.Int.Digits.{digits_value-lt}
use Rattle.corr_text.specs.Digits.{number_of}
use Rattle.corr_text.proofs.laws.Number.{digit_is}

model : IsNumeralModel (λ ds. all_ascii_digits ds ≡ true) (digits_value_after 10 0)
model = numerals_by_fold _ (search rules) (digits_value_after 10) (search (rules, digit_is))

pub three_below : (bs : List ℕ) (n : ℕ) → number_of bs ≡ Some n → length bs ≡ 3 → n < 1000
three_below bs n e long =
    let all : all_ascii_digits bs ≡ true = grind (arith, nat_tests) in
    let value : digits_value 10 bs ≡ n = grind (arith, nat_tests) in
    let most : 10 ^ length bs ≡ 1000 = rw long refl in
    omega (arith, digits_value-lt 10 bs (model.to bs all), most, value)

pub ruleset three = (arith, three_below)
