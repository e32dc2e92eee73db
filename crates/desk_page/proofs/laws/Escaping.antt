-- An escaped text has no markup, and is read as the text.
use Rattle.std.proofs.Common.{◌≡◌, ℕ, zero, suc, ◌+◌, ◌-◌, ◌*◌, ◌<◌, ◌^◌, ◌/◌, ◌%◌, ◌==◌, true, false, List, [], ◌∷◌, ◌++◌, Some, None, length, replicate, inl, inr, refl, ap, ◌∙◌, arith, append_assoc}
use Rattle.std.specs.Prelude.{codes}
use Rattle.std.specs.Fmt.{decimal}
use Rattle.std.specs.List.{list_all}
use Rattle.std.proofs.lemmas.Bool.{and_from, and_parts, cases_Bool}
use Rattle.std.proofs.lemmas.Bool.Decides.{nat_tests}
use Rattle.std.proofs.lemmas.Fmt.{decimal_by_steps}
use Rattle.std.proofs.lemmas.List.Folds.{list_all-append}
use Rattle.corr_text.specs.Digits.{padded}
use Rattle.desk_page.specs.Escaped.{EscapesAll, escaped, escaped_byte, is_bare, is_byte, is_no_markup, read_back, read_from}

abbrev HasNone : List ℕ → Type 0
HasNone bs = list_all is_no_markup bs ≡ true

both_none : (a b : List ℕ) → HasNone a → HasNone b → HasNone (a ++ b)
both_none a b p q = list_all-append is_no_markup a b ∙ and_from (list_all is_no_markup a) (list_all is_no_markup b) p q

-- ---- a byte

bare_none : (b : ℕ) → is_bare b ≡ true → is_no_markup b ≡ true
bare_none b e = grind (arith, nat_tests)

digit_none : (n : ℕ) → n < 10 → is_no_markup (48 + n) ≡ true
digit_none n lt = grind (arith, nat_tests)

digits_none : (n : ℕ) → n < 2 ^ 64 → HasNone (decimal n)
digits_none n small =
    decimal_by_steps (λ m ds. HasNone ds) (λ m lt. and_from (is_no_markup (48 + m)) true (digit_none m lt) refl)
    (λ m ds some have. both_none ds ((48 + m % 10) ∷ []) have (and_from (is_no_markup (48 + m % 10)) true (digit_none (m % 10) (omega arith)) refl)) n small

zeros_none : (k : ℕ) → HasNone (replicate k 48)
zeros_none zero = refl
zeros_none (suc k) = zeros_none k

told_none : (b : ℕ) → b < 2 ^ 64 → HasNone (codes "&#" ++ padded 1 b ++ codes ";")
told_none b small =
    both_none (codes "&#" ++ padded 1 b) (codes ";") (both_none (codes "&#") (padded 1 b) refl (both_none (replicate (1 - length (decimal b)) 48) (decimal b) (zeros_none (1 - length (decimal b))) (digits_none b small))) refl

small_byte : (b : ℕ) → is_byte b ≡ true → b < 2 ^ 64
small_byte b e = grind (arith, nat_tests)

byte_none : (b : ℕ) → is_byte b ≡ true → HasNone (escaped_byte b)
byte_none b byte = elim (cases_Bool (is_bare b)) [
  | inl bare ↦ rw bare (and_from (is_no_markup b) true (bare_none b bare) refl)
  | inr told ↦ rw told (told_none b (small_byte b byte))
]

-- ---- what a reader takes it for

bare_read : (b : ℕ) (rest : List ℕ) → is_bare b ≡ true → read_from None (b ∷ rest) ≡ b ∷ read_from None rest
bare_read b rest bare =
    let plain : (b == 38) ≡ false = grind (arith, nat_tests) in
    rw plain refl

digit_read : (n d : ℕ) (rest : List ℕ) → d < 10 → read_from (Some n) ((48 + d) ∷ rest) ≡ read_from (Some (10 * n + d)) rest
digit_read n d rest lt =
    let no_end : (48 + d == 59) ≡ false = grind (arith, nat_tests) in
    let no_sign : (48 + d == 35) ≡ false = grind (arith, nat_tests) in
    let value : 48 + d - 48 ≡ d = omega arith in
    rw (no_end, no_sign, value) refl

abbrev Reads : ℕ → List ℕ → Type 0
Reads m ds = (rest : List ℕ) → read_from (Some 0) (ds ++ rest) ≡ read_from (Some m) rest

digits_read : (n : ℕ) → n < 2 ^ 64 → Reads n (decimal n)
digits_read n small =
    decimal_by_steps (λ m ds. Reads m ds)
    (λ m lt rest. let one : 10 * 0 + m ≡ m = omega arith in digit_read 0 m rest lt ∙ ap (λ (k : ℕ). read_from (Some k) rest) one)
    (λ m ds some have rest.
    let digit : m % 10 < 10 = omega arith in
    let whole : 10 * (m / 10) + m % 10 ≡ m = omega arith in
    ap (read_from (Some 0)) (append_assoc ds ((48 + m % 10) ∷ []) rest) ∙ have ((48 + m % 10) ∷ rest) ∙ digit_read (m / 10) (m % 10) rest digit
    ∙ ap (λ (k : ℕ). read_from (Some k) rest) whole) n small

zeros_read : (k : ℕ) (rest : List ℕ) → read_from (Some 0) (replicate k 48 ++ rest) ≡ read_from (Some 0) rest
zeros_read zero rest = refl
zeros_read (suc k) rest = zeros_read k rest

told_read : (b : ℕ) (rest : List ℕ) → b < 2 ^ 64 → read_from None ((codes "&#" ++ padded 1 b ++ codes ";") ++ rest) ≡ b ∷ read_from None rest
told_read b rest small =
    let zeros : List ℕ = replicate (1 - length (decimal b)) 48 in
    ap (read_from (Some 0)) (append_assoc (zeros ++ decimal b) (59 ∷ []) rest ∙ append_assoc zeros (decimal b) (59 ∷ rest))
    ∙ zeros_read (1 - length (decimal b)) (decimal b ++ 59 ∷ rest) ∙ digits_read b small (59 ∷ rest)

byte_read : (b : ℕ) (rest : List ℕ) → is_byte b ≡ true → read_from None (escaped_byte b ++ rest) ≡ b ∷ read_from None rest
byte_read b rest byte = elim (cases_Bool (is_bare b)) [
  | inl bare ↦ rw bare (bare_read b rest bare)
  | inr told ↦ rw told (told_read b rest (small_byte b byte))
]

-- ---- texts

no_markup : (text : List ℕ) → list_all is_byte text ≡ true → HasNone (escaped text)
no_markup [] bytes = refl
no_markup (b ∷ bs) bytes =
    let parts = and_parts (is_byte b) (list_all is_byte bs) bytes in
    both_none (escaped_byte b) (escaped bs) (byte_none b parts.0) (no_markup bs parts.1)

again : (text : List ℕ) → list_all is_byte text ≡ true → read_back (escaped text) ≡ text
again [] bytes = refl
again (b ∷ bs) bytes =
    let parts = and_parts (is_byte b) (list_all is_byte bs) bytes in
    byte_read b (escaped bs) parts.0 ∙ ap (λ (rest : List ℕ). b ∷ rest) (again bs parts.1)

pub escapes_all : EscapesAll
escapes_all text bytes = record { no_markup = no_markup text bytes; again = again text bytes }
