-- Lines whose bytes are of X.
use Rattle.std.proofs.Common.{◌≡◌, ℕ, ◌<◌, ◌≤◌, ◌==◌, ◌&&◌, ◌||◌, Bool, true, false, cond, List, [], ◌∷◌, ◌++◌, length, get_or, Some, None, refl, ap, ◌∙◌, arith, nat_lt}
use Rattle.std.specs.Prelude.{is_some, position}
use Rattle.std.specs.Char.{is_ascii_uppercase, is_ascii_lowercase, is_ascii_digit}
use Rattle.std.specs.List.{list_all, list_any, position_or_len}
use Rattle.std.proofs.lemmas.Bool.Decides.{nat_tests}
use Rattle.std.proofs.lemmas.List.Folds.{list_all-append}
use Rattle.std.proofs.lemmas.List.Sums.{passes_at_first, split_at_first}
use Rattle.corr_text.specs.Sets.{is_in, is_x_byte, marks}
use Rattle.corr_text.specs.declared.set.Set.TheVariants.{X}
use Rattle.corr_money.specs.Amounts.{decimals_of, is_comma, is_comma_number, whole_of}
use Rattle.fin_fields.specs.Faults.{has_other_byte}

-- two tests that hold together hold each
pub and-both : (a b : Bool) → (a && b) ≡ true → (a ≡ true) × (b ≡ true)
and-both a b e = grind (arith, nat_tests)

-- and so do three
pub and-three : (a b c : Bool) → (a && b && c) ≡ true → (a ≡ true) × (b ≡ true) × (c ≡ true)
and-three a b c e = grind (arith, nat_tests)

and-four : (a b c d : Bool) → (a && b && c && d) ≡ true → (a ≡ true) × (b ≡ true) × (c ≡ true) × (d ≡ true)
and-four a b c d e = grind (arith, nat_tests)

-- a line of X has no byte outside of it
pub all-of-x : (line : List ℕ) → list_all (is_in X) line ≡ true → has_other_byte line ≡ false
all-of-x [] e = refl
all-of-x (b ∷ line) e =
    let both = and-both (is_x_byte b) (list_all (is_in X) line) e in
    rw (both.0, all-of-x line both.1) refl

digit-third : (upper lower digit mark : Bool) → digit ≡ true → (upper || lower || digit || mark) ≡ true
digit-third true lower digit mark e = refl
digit-third false true digit mark e = refl
digit-third false false true mark e = refl
digit-third false false false mark e = absurd (cc e)

-- digits are characters of X
pub digits-of-x : (bs : List ℕ) → list_all is_ascii_digit bs ≡ true → list_all (is_in X) bs ≡ true
digits-of-x [] e = refl
digits-of-x (b ∷ bs) e =
    let both = and-both (is_ascii_digit b) (list_all is_ascii_digit bs) e in
    rw (digit-third (is_ascii_uppercase b) (is_ascii_lowercase b) (is_ascii_digit b) (list_any (λ m. b == m) marks) both.0) (digits-of-x bs both.1)

-- and so are capital letters
pub letters-of-x : (bs : List ℕ) → list_all is_ascii_uppercase bs ≡ true → list_all (is_in X) bs ≡ true
letters-of-x [] e = refl
letters-of-x (b ∷ bs) e =
    let both = and-both (is_ascii_uppercase b) (list_all is_ascii_uppercase bs) e in
    rw (both.0) (letters-of-x bs both.1)

found-within : (i n : ℕ) → is_some (cond (nat_lt i n) (Some i) None) ≡ true → i < n
found-within i n e = grind (arith, nat_tests)

comma-of-x : (b : ℕ) → is_comma b ≡ true → is_x_byte b ≡ true
comma-of-x b e =
    let same : b ≡ 44 = grind (arith, nat_tests) in
    rw same refl

-- a number with a comma is of X, and is not empty
pub comma_number-of-x : (bs : List ℕ) → is_comma_number bs ≡ true → (list_all (is_in X) bs ≡ true) × (1 ≤ length bs)
unfolding is_comma_number
comma_number-of-x bs e =
    let parts = and-four (is_some (position is_comma bs)) (nat_lt 0 (length (whole_of bs))) (list_all is_ascii_digit (whole_of bs)) (list_all is_ascii_digit (decimals_of bs)) e in
    let within = found-within (position_or_len is_comma bs) (length bs) parts.0 in
    let comma = get_or bs (position_or_len is_comma bs) 0 in
    let whole : bs ≡ whole_of bs ++ comma ∷ decimals_of bs = split_at_first is_comma bs 0 within in
    let all : list_all (is_in X) (whole_of bs ++ comma ∷ decimals_of bs) ≡ true =
    list_all-append (is_in X) (whole_of bs) (comma ∷ decimals_of bs)
    ∙ rw (digits-of-x (whole_of bs) parts.2, comma-of-x comma (passes_at_first is_comma bs 0 within), digits-of-x (decimals_of bs) parts.3) refl in
    (ap (list_all (is_in X)) whole ∙ all, omega (arith, within))
