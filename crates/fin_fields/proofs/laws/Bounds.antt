-- Fields are no more than the lines, these no more than the bytes, and a heading's tag has two digits.
use Rattle.std.proofs.Common.{◌≡◌, ℕ, suc, ◌+◌, ◌-◌, ◌*◌, ◌≤◌, ◌==◌, ◌&&◌, Bool, true, false, cond, List, [], ◌∷◌, length, Option, Some, None, refl, arith}
use Rattle.std.specs.Prelude.{IfSome}
use Rattle.std.specs.Char.{is_ascii_digit, is_ascii_uppercase}
use Rattle.std.proofs.lemmas.Bool.Decides.{nat_tests}
use Rattle.corr_text.specs.Lines.{begins_with, lines_of, with_byte}
use Rattle.fin_fields.specs.Fields.{Grouped, Heading, after_letter, after_tag, grouped, heading_of, with_line}

-- what a line says that begins a field has a tag of two digits, and a capital letter if any
pub record IsHeading (h : Heading) : Type 0 where
  pub tag : h.tag ≤ 99
  pub letter : IfSome h.letter (λ c. is_ascii_uppercase c ≡ true)

either : (b : Bool) (o p : Option Heading) → (b ≡ true → IfSome o IsHeading) → IfSome p IsHeading → IfSome (cond b o p) IsHeading
either true o p h k = h refl
either false o p h k = k

after-letter : (tag letter : ℕ) (rest : List ℕ) → tag ≤ 99 → is_ascii_uppercase letter ≡ true → IfSome (after_letter tag letter rest) IsHeading
after-letter tag letter [] le up = tt
after-letter tag letter (c ∷ rest) le up = either (c == 58) _ _ (λ _. record { tag = le; letter = up }) tt

after-tag : (tag : ℕ) (rest : List ℕ) → tag ≤ 99 → IfSome (after_tag tag rest) IsHeading
after-tag tag [] le = tt
after-tag tag (c ∷ rest) le =
    either (c == 58) _ _ (λ _. record { tag = le; letter = tt }) (either (is_ascii_uppercase c) _ _ (λ up. after-letter tag c rest le up) tt)

two-digits : (colon : Bool) (tens ones : ℕ) → (colon && is_ascii_digit tens && is_ascii_digit ones) ≡ true → 10 * (tens - 48) + (ones - 48) ≤ 99
two-digits colon tens ones h = grind (arith, nat_tests)

pub is-heading : (line : List ℕ) → IfSome (heading_of line) IsHeading
is-heading [] = tt
is-heading (c ∷ []) = tt
is-heading (c ∷ tens ∷ []) = tt
is-heading (c ∷ tens ∷ ones ∷ rest) =
    either ((c == 58) && is_ascii_digit tens && is_ascii_digit ones) _ _ (λ h. after-tag _ rest (two-digits (c == 58) tens ones h)) tt

one-more : (line : List ℕ) (h : Option Heading) (g : Grouped) (n : ℕ) → length g.fields ≤ n → length (with_line line h g).fields ≤ n + 1
one-more line None g n le = omega arith
one-more line (Some h) g n le = omega arith

-- lines give at most as many fields
pub fields-few : (lines : List (List ℕ)) → length (grouped lines).fields ≤ length lines
fields-few [] = omega arith
fields-few (line ∷ lines) = omega (arith, one-more line (heading_of line) (grouped lines) (length lines) (fields-few lines))

-- ---- a text has no more lines than bytes

with_byte-few : (b : ℕ) (lines : List (List ℕ)) (n : ℕ) → length lines ≤ n → length (with_byte b lines) ≤ suc n
with_byte-few b [] n le = omega arith
with_byte-few b (line ∷ lines) n le = omega arith

line-more : (end return : Bool) (b : ℕ) (lines : List (List ℕ)) (n : ℕ) → length lines ≤ n → length (cond end ([] ∷ lines) (cond return lines (with_byte b lines))) ≤ suc n
line-more true return b lines n le = omega arith
line-more false true b lines n le = omega arith
line-more false false b lines n le = with_byte-few b lines n le

-- a text has at most as many lines as bytes
pub lines_few : (text : List ℕ) → length (lines_of text) ≤ length text
lines_few [] = omega arith
lines_few (b ∷ bs) = line-more (b == 10) ((b == 13) && begins_with 10 bs) b (lines_of bs) (length bs) (lines_few bs)
