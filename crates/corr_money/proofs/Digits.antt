-- The number of digits that follow one another.
use Rattle.std.proofs.Common.{inl, inr, ◌≡◌, ℕ, ◌+◌, ◌-◌, ◌*◌, ◌^◌, ◌<◌, ◌≤◌, true, List, [], ◌∷◌, ◌++◌, length, get_or, take, drop, replicate, zero, suc, refl, sym, ap, ◌∙◌, arith}
use Rattle.std.specs.Char.{digit_value, is_ascii_digit}
use Rattle.std.specs.List.{list_all}
use Rattle.std.specs.Str.Parse.{digits_value, digits_value_after, AllDigits}
use Rattle.std.proofs.lemmas.Bool.{cases_Bool, false≢true}
use Rattle.std.proofs.lemmas.Bool.Decides.{nat_tests}
use Rattle.std.proofs.lemmas.List.{take-append-drop, take_more, length-replicate, length-append, take-replicate}
use Rattle.std.proofs.lemmas.List.Folds.{list_all-append, list_all_at}
use Rattle.std.proofs.Math.Nat.{pow-le-pow_right}
use Rattle.std.proofs.lemmas.Int.Digits.{digits_value-lt}
use Rattle.corr_text.proofs.laws.Number.{digit_is}

pub after_append : (n : ℕ) (xs ys : List ℕ) → digits_value_after 10 n (xs ++ ys) ≡ digits_value_after 10 (digits_value_after 10 n xs) ys
after_append n [] ys = refl
after_append n (x ∷ xs) ys = after_append (n * 10 + digit_value x) xs ys

pub after_grows : (n : ℕ) (xs : List ℕ) → n ≤ digits_value_after 10 n xs
after_grows n [] = omega arith
after_grows n (x ∷ xs) = omega (arith, after_grows (n * 10 + digit_value x) xs)

pub after_within : (n : ℕ) (bs : List ℕ) (i : ℕ) → digits_value_after 10 n (take i bs) ≤ digits_value_after 10 n bs
after_within n bs i =
    let parts = after_append n (take i bs) (drop i bs) in
    let whole = ap (digits_value_after 10 n) (take-append-drop i bs) in
    omega (arith, after_grows (digits_value_after 10 n (take i bs)) (drop i bs), parts, whole)

pub after_more : (n : ℕ) (bs : List ℕ) (i : ℕ) → i < length bs → digits_value_after 10 n (take (i + 1) bs) ≡ digits_value_after 10 n (take i bs) * 10 + digit_value (get_or bs i 0)
after_more n bs i lt = ap (digits_value_after 10 n) (take_more bs i 0 lt) ∙ after_append n (take i bs) (get_or bs i 0 ∷ [])

pub all_digits : (bs : List ℕ) → list_all is_ascii_digit bs ≡ true → AllDigits 10 bs
all_digits [] h = tt
all_digits (b ∷ bs) h =
    let parts : (is_ascii_digit b ≡ true) × (list_all is_ascii_digit bs ≡ true) = grind arith in
    (grind (arith, nat_tests), all_digits bs parts.1)

pub zeros_are_digits : (k : ℕ) → list_all is_ascii_digit (replicate k 48) ≡ true
zeros_are_digits zero = refl
zeros_are_digits (suc k) = zeros_are_digits k

-- a digit within digits, and the number that they go on to
pub digit_at : (bs : List ℕ) (i : ℕ) → list_all is_ascii_digit bs ≡ true → i < length bs → is_ascii_digit (get_or bs i 0) ≡ true
digit_at bs i h lt = elim (cases_Bool (is_ascii_digit (get_or bs i 0))) [ inl holds ↦ holds | inr fails ↦ absurd (false≢true (sym (list_all_at is_ascii_digit bs i 0 lt fails) ∙ h)) ]

pub one_more : (n : ℕ) (bs : List ℕ) (i : ℕ) → list_all is_ascii_digit bs ≡ true → i < length bs
    → digits_value_after 10 n (take i bs) * 10 + (get_or bs i 0 - 48) ≡ digits_value_after 10 n (take (i + 1) bs)
one_more n bs i h lt = omega (arith, after_more n bs i lt, (digit_is (get_or bs i 0) (digit_at bs i h lt)).0)

-- ---- the parts of an amount
pub record Parts (whole written : List ℕ) (decimals : ℕ) : Type 0 where
  pub digits_before : list_all is_ascii_digit whole ≡ true
  pub digits_after : list_all is_ascii_digit written ≡ true
  pub short : length whole ≤ 15
  pub few : length written ≤ decimals
  pub most : decimals ≤ 4

abbrev pub joined : List ℕ → List ℕ → ℕ → List ℕ
joined whole written decimals = whole ++ written ++ replicate (decimals - length written) 48

pub joined-value : (whole written : List ℕ) (decimals : ℕ) → digits_value 10 (joined whole written decimals)
    ≡ digits_value_after 10 (digits_value_after 10 (digits_value_after 10 0 whole) written) (replicate (decimals - length written) 48)
joined-value whole written decimals =
    after_append 0 (whole ++ written) (replicate (decimals - length written) 48)
    ∙ ap (λ n. digits_value_after 10 n (replicate (decimals - length written) 48)) (after_append 0 whole written)

pub joined-small : (whole written : List ℕ) (decimals : ℕ) → Parts whole written decimals → digits_value 10 (joined whole written decimals) < 2 ^ 64
joined-small whole written decimals p =
    let zeros : List ℕ = replicate (decimals - length written) 48 in
    let all : list_all is_ascii_digit (whole ++ written ++ zeros) ≡ true =
    rw (list_all-append is_ascii_digit (whole ++ written) zeros, list_all-append is_ascii_digit whole written, p.digits_before, p.digits_after) (zeros_are_digits (decimals - length written)) in
    let long = length-append (whole ++ written) zeros in
    let front = length-append whole written in
    let back = length-replicate {A = ℕ} (decimals - length written) 48 in
    let few : length (whole ++ written ++ zeros) ≤ 19 = omega (arith, long, front, back, p.short, p.few, p.most) in
    let some : 0 < 10 = omega arith in
    let most : 10 ^ length (whole ++ written ++ zeros) ≤ 10 ^ 19 = pow-le-pow_right some few in
    omega (arith, digits_value-lt 10 (whole ++ written ++ zeros) (all_digits (whole ++ written ++ zeros) all), most)

pub zeros_of : (k : ℕ) → k ≤ 4 → take {A = ℕ} k (48 ∷ 48 ∷ 48 ∷ 48 ∷ []) ≡ replicate k 48
zeros_of k le = take-replicate k 4 48 le
