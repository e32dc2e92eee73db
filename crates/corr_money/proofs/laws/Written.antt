-- An amount that is written reads as itself.
use Rattle.std.proofs.Common.{◌≡◌, ℕ, ◌+◌, ◌-◌, ◌^◌, ◌<◌, ◌≤◌, ◌==◌, true, false, ◌&&◌, List, [], ◌∷◌, ◌++◌, length, take, drop, replicate, zero, suc, refl, sym, ap, ◌∙◌, arith, add-one, Ok, nat_lt, nat_le}
use Rattle.std.specs.Prelude.{ℤ, pos, negsuc, neg_ℤ, unsigned_abs}
use Rattle.std.specs.Int.{is_negative}
use Rattle.std.specs.Char.{is_ascii_digit}
use Rattle.std.specs.Fmt.{decimal}
use Rattle.std.specs.List.{after_first, before_first, list_all, position_or_len}
use Rattle.std.specs.Str.Parse.{digits_value, digits_value_after, AllDigits}
use Rattle.std.proofs.lemmas.Bool.{and_parts, lt-ltb, le-leb}
use Rattle.std.proofs.lemmas.Bool.Decides.{nat_tests}
use Rattle.std.proofs.lemmas.Fmt.{decimal_is_IsNumeral, length-decimal-le}
use Rattle.std.proofs.lemmas.List.{take-append-drop, length-replicate, length-append, length-take-le, length-drop, append-nil}
use Rattle.std.proofs.lemmas.List.Folds.{list_all-append}
use Rattle.std.proofs.Math.Seq.{take-append_seam}
use Rattle.corr_text.specs.Digits.{padded}
use Rattle.corr_money.specs.Amounts.{amount_end, amount_of, amount_text, is_comma, is_comma_number, minor_of, signed_minor_of, signed_text}
use Rattle.corr_money.proofs.Digits.{after_append, zeros_are_digits}

digits_are : (bs : List ℕ) → AllDigits 10 bs → list_all is_ascii_digit bs ≡ true
digits_are [] h = refl
digits_are (b ∷ bs) h =
    let here : is_ascii_digit b ≡ true = grind (arith, nat_tests) in
    rw (here, digits_are bs h.1) refl

zeros-value : (k : ℕ) → digits_value_after 10 0 (replicate k 48) ≡ 0
zeros-value zero = refl
zeros-value (suc k) = zeros-value k

-- ---- a number with zeros before it
padded-digits : (w n : ℕ) → n < 2 ^ 64 → list_all is_ascii_digit (padded w n) ≡ true
padded-digits w n fits =
    rw (list_all-append is_ascii_digit (replicate (w - length (decimal n)) 48) (decimal n), zeros_are_digits (w - length (decimal n)))
    (digits_are (decimal n) (decimal_is_IsNumeral n fits).0.1)

padded-value : (w n : ℕ) → n < 2 ^ 64 → digits_value 10 (padded w n) ≡ n
padded-value w n fits =
    after_append 0 (replicate (w - length (decimal n)) 48) (decimal n)
    ∙ (ap (λ k. digits_value_after 10 k (decimal n)) (zeros-value (w - length (decimal n))) ∙ (decimal_is_IsNumeral n fits).1)

padded-length : (w n : ℕ) → length (padded w n) ≡ w - length (decimal n) + length (decimal n)
padded-length w n =
    length-append (replicate (w - length (decimal n)) 48) (decimal n) ∙ ap (λ k. k + length (decimal n)) (length-replicate {A = ℕ} (w - length (decimal n)) 48)

-- ---- digits, a comma, digits
first_comma : (xs ys : List ℕ) → list_all is_ascii_digit xs ≡ true → position_or_len is_comma (xs ++ 44 ∷ ys) ≡ length xs
first_comma [] ys h = refl
first_comma (x ∷ xs) ys h =
    let parts : (is_ascii_digit x ≡ true) × (list_all is_ascii_digit xs ≡ true) = grind arith in
    let other : (x == 44) ≡ false = grind (arith, nat_tests) in
    rw (other, first_comma xs ys parts.1) (omega arith)

-- digits, of which so many stand after the comma
pub record Spelled (decimals n : ℕ) (xs ys : List ℕ) : Type 0 where
  pub before : list_all is_ascii_digit xs ≡ true
  pub after : list_all is_ascii_digit ys ≡ true
  pub some : 0 < length xs
  pub exact : length ys ≡ decimals
  pub short : length xs + length ys ≤ 14
  pub value : digits_value 10 (xs ++ ys) ≡ n
  pub small : n < amount_end

drop_past : (xs ys : List ℕ) (y : ℕ) → drop (suc (length xs)) (xs ++ y ∷ ys) ≡ ys
drop_past [] ys y = refl
drop_past (x ∷ xs) ys y = drop_past xs ys y

pub reads_spelled : (decimals n : ℕ) (xs ys : List ℕ) → Spelled decimals n xs ys → amount_of decimals (xs ++ 44 ∷ ys) ≡ Ok (record { 0 = n })
unfolding amount_of is_comma_number minor_of
reads_spelled decimals n xs ys s =
    let at = first_comma xs ys s.before in
    let whole : before_first is_comma (xs ++ 44 ∷ ys) ≡ xs = rw at (take-append_seam xs (44 ∷ ys)) in
    let written : after_first is_comma (xs ++ 44 ∷ ys) ≡ ys = rw (at, add-one) (drop_past xs ys 44) in
    let long : length (xs ++ 44 ∷ ys) ≡ length xs + (length ys + 1) = omega (arith, length-append xs (44 ∷ ys)) in
    let inside : nat_lt (length xs) (length (xs ++ 44 ∷ ys)) ≡ true = lt-ltb (length xs) (length (xs ++ 44 ∷ ys)) (omega arith) in
    let some : nat_lt 0 (length xs) ≡ true = lt-ltb 0 (length xs) s.some in
    let short : nat_le (length (xs ++ 44 ∷ ys)) 15 ≡ true = le-leb (length (xs ++ 44 ∷ ys)) 15 (omega (arith, s.short)) in
    let few : nat_le (length ys) decimals ≡ true = le-leb (length ys) decimals (omega (arith, s.exact)) in
    let none : decimals - length ys ≡ 0 = omega (arith, s.exact) in
    let small : nat_lt n amount_end ≡ true = lt-ltb n amount_end s.small in
    rw (whole, written, at, inside, some, s.before, s.after, short, few, none, append-nil (xs ++ ys), s.value, small) refl

-- an amount as it is printed is read as itself
pub reads_written : (decimals n : ℕ) → decimals ≤ 4 → n < amount_end → amount_of decimals (amount_text decimals n) ≡ Ok (record { 0 = n })
unfolding amount_text
reads_written decimals n most small =
    let ds : List ℕ = padded (decimals + 1) n in
    let m : ℕ = length ds - decimals in
    let fits : n < 2 ^ 64 = omega arith in
    let long : length ds ≡ decimals + 1 - length (decimal n) + length (decimal n) = padded-length (decimals + 1) n in
    let digits : length (decimal n) ≤ 14 = length-decimal-le 14 n (omega arith) small fits in
    let halves : take m ds ++ drop m ds ≡ ds = take-append-drop m ds in
    let both : (list_all is_ascii_digit (take m ds) && list_all is_ascii_digit (drop m ds)) ≡ true =
    sym (list_all-append is_ascii_digit (take m ds) (drop m ds)) ∙ (ap (list_all is_ascii_digit) halves ∙ padded-digits (decimals + 1) n fits) in
    let parts : (list_all is_ascii_digit (take m ds) ≡ true) × (list_all is_ascii_digit (drop m ds) ≡ true) = grind arith in
    let front : length (take m ds) ≡ m = length-take-le m ds (omega arith) in
    let back : length (drop m ds) ≡ length ds - m = length-drop m ds in
    let exact : length (drop m ds) ≡ decimals = omega arith in
    reads_spelled decimals n (take m ds) (drop m ds) (record {
      before = parts.0;
      after = parts.1;
      some = omega arith;
      exact = exact;
      short = omega arith;
      value = ap (digits_value 10) halves ∙ padded-value (decimals + 1) n fits;
      small = small;
    })

-- ---- the digits without the comma are the number

spelled-minor : (decimals n : ℕ) (xs ys : List ℕ) → list_all is_ascii_digit xs ≡ true → length ys ≡ decimals → digits_value 10 (xs ++ ys) ≡ n
    → minor_of decimals (xs ++ 44 ∷ ys) ≡ n
unfolding minor_of
spelled-minor decimals n xs ys before exact value =
    let at = first_comma xs ys before in
    let whole : before_first is_comma (xs ++ 44 ∷ ys) ≡ xs = rw at (take-append_seam xs (44 ∷ ys)) in
    let written : after_first is_comma (xs ++ 44 ∷ ys) ≡ ys = rw (at, add-one) (drop_past xs ys 44) in
    let none : decimals - length ys ≡ 0 = omega (arith, exact) in
    rw (whole, written, none, append-nil (xs ++ ys)) value

pub minor-written : (decimals n : ℕ) → n < 2 ^ 64 → minor_of decimals (amount_text decimals n) ≡ n
unfolding amount_text
minor-written decimals n fits =
    let ds : List ℕ = padded (decimals + 1) n in
    let m : ℕ = length ds - decimals in
    let long : length ds ≡ decimals + 1 - length (decimal n) + length (decimal n) = padded-length (decimals + 1) n in
    let halves : take m ds ++ drop m ds ≡ ds = take-append-drop m ds in
    let both : (list_all is_ascii_digit (take m ds) && list_all is_ascii_digit (drop m ds)) ≡ true =
    sym (list_all-append is_ascii_digit (take m ds) (drop m ds)) ∙ (ap (list_all is_ascii_digit) halves ∙ padded-digits (decimals + 1) n fits) in
    let exact : length (drop m ds) ≡ decimals = omega (arith, length-drop m ds, long) in
    spelled-minor decimals n (take m ds) (drop m ds) (and_parts (list_all is_ascii_digit (take m ds)) (list_all is_ascii_digit (drop m ds)) both).0 exact
    (ap (digits_value 10) halves ∙ padded-value (decimals + 1) n fits)

-- an amount without a minus begins with a digit
no-minus : (decimals : ℕ) (xs ys : List ℕ) → list_all is_ascii_digit xs ≡ true → 0 < length xs
    → signed_minor_of decimals (xs ++ ys) ≡ pos (minor_of decimals (xs ++ ys))
no-minus decimals [] ys digits some = absurd (omega (arith, some))
no-minus decimals (x ∷ xs) ys digits some =
    let digit : is_ascii_digit x ≡ true = (and_parts (is_ascii_digit x) (list_all is_ascii_digit xs) digits).0 in
    let other : (x == 45) ≡ false = grind (arith, nat_tests) in
    rw other refl

text-unsigned : (decimals n : ℕ) → n < 2 ^ 64 → signed_minor_of decimals (amount_text decimals n) ≡ pos (minor_of decimals (amount_text decimals n))
unfolding amount_text
text-unsigned decimals n fits =
    let ds : List ℕ = padded (decimals + 1) n in
    let m : ℕ = length ds - decimals in
    let long : length ds ≡ decimals + 1 - length (decimal n) + length (decimal n) = padded-length (decimals + 1) n in
    let halves : take m ds ++ drop m ds ≡ ds = take-append-drop m ds in
    let both : (list_all is_ascii_digit (take m ds) && list_all is_ascii_digit (drop m ds)) ≡ true =
    sym (list_all-append is_ascii_digit (take m ds) (drop m ds)) ∙ (ap (list_all is_ascii_digit) halves ∙ padded-digits (decimals + 1) n fits) in
    let front : length (take m ds) ≡ m = length-take-le m ds (omega arith) in
    no-minus decimals (take m ds) (44 ∷ drop m ds) (and_parts (list_all is_ascii_digit (take m ds)) (list_all is_ascii_digit (drop m ds)) both).0 (omega (arith, front, long))

pub signed-written : (decimals : ℕ) (v : ℤ) → unsigned_abs v < 2 ^ 64 → signed_minor_of decimals (signed_text decimals v) ≡ v
unfolding signed_text
signed-written decimals (pos n) fits =
    let plain : is_negative (pos n) ≡ false = grind (arith, nat_tests) in
    rw plain (text-unsigned decimals n fits ∙ ap pos (minor-written decimals n fits))
signed-written decimals (negsuc n) fits = ap (λ k. neg_ℤ (pos k)) (minor-written decimals (suc n) fits)

pub ruleset printing = (arith, minor-written, signed-written)
