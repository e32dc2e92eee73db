-- References of digits and capital letters.
use Rattle.std.proofs.Common.{◌≡◌, ℕ, zero, suc, ◌+◌, ◌-◌, ◌≤◌, ◌<◌, ◌==◌, ◌&&◌, ◌||◌, not, Bool, true, false, List, [], ◌∷◌, ◌++◌, length, drop, None, option_map, refl, sym, ap, ◌∙◌, arith}
use Rattle.std.specs.Char.{is_ascii_digit}
use Rattle.std.specs.Fmt.{decimal}
use Rattle.std.specs.List.{list_all, list_any, zip}
use Rattle.std.proofs.lemmas.Bool.{le-leb}
use Rattle.std.proofs.lemmas.Bool.Decides.{nat_tests}
use Rattle.std.proofs.lemmas.Fmt.{length-decimal-le}
use Rattle.std.proofs.lemmas.List.{length-append}
use Rattle.std.proofs.lemmas.List.Folds.{list_all-append}
use Rattle.corr_text.specs.Digits.{padded}
use Rattle.corr_text.specs.Lines.{begins_with}
use Rattle.corr_text.specs.Sets.{is_c_byte, is_in}
use Rattle.corr_text.specs.Slashes.{has_stray_slash}
use Rattle.corr_text.specs.declared.set.Set.TheVariants.{X}
use Rattle.corr_text.proofs.laws.Number.{length-padded}
use Rattle.corr_ids.specs.Day.{InCentury, yymmdd_of}
use Rattle.corr_ids.specs.declared.day.Day.{Day}
use Rattle.fin_fields.specs.Patterns.{is_run}
use Rattle.fin_fields.proofs.laws.Positions.{position-later}
use Rattle.fin_contents.proofs.laws.Bytes.{and-both}
use Rattle.mt950.specs.Parts.{double_slash_in}
use Rattle.advices.specs.Fields.{ours}
use Rattle.advices.proofs.laws.Bytes.{c-plain, day-digits, decimal-digits, padded-digits}
use Rattle.day_model.specs.Shape.{IsReference}
use Rattle.pay_returns.specs.References.{own_reference}
use Rattle.statement.specs.Pages.{page_reference}

-- ---- no slash

abbrev pub IsWord : List ℕ → Type 0
IsWord text = list_all is_c_byte text ≡ true

word-append : (front back : List ℕ) → IsWord front → IsWord back → IsWord (front ++ back)
word-append front back e f = list_all-append is_c_byte front back ∙ rw (e, f) refl

digit-letter : (b : ℕ) → is_ascii_digit b ≡ true → is_c_byte b ≡ true
digit-letter b e = grind (arith, nat_tests)

word-digits : (text : List ℕ) → list_all is_ascii_digit text ≡ true → IsWord text
word-digits [] e = refl
word-digits (b ∷ text) e =
    let both = and-both (is_ascii_digit b) (list_all is_ascii_digit text) e in
    rw (digit-letter b both.0) (word-digits text both.1)

no-slash : (b : ℕ) → is_c_byte b ≡ true → (b == 47) ≡ false
no-slash b e = grind (arith, nat_tests)

begins-plain : (text : List ℕ) → IsWord text → begins_with 47 text ≡ false
begins-plain [] e = refl
begins-plain (b ∷ text) e = no-slash b (and-both (is_c_byte b) (list_all is_c_byte text) e).0

pub dropped : (p : ℕ → Bool) (k : ℕ) (text : List ℕ) → list_all p text ≡ true → list_all p (drop k text) ≡ true
dropped p zero text e = e
dropped p (suc k) [] e = refl
dropped p (suc k) (b ∷ text) e = dropped p k text (and-both (p b) (list_all p text) e).1

no-double : (text more : List ℕ) → IsWord text → list_any (λ p. (p.0 == 47) && (p.1 == 47)) (zip text more) ≡ false
no-double [] [] e = refl
no-double [] (c ∷ more) e = refl
no-double (b ∷ text) [] e = refl
no-double (b ∷ text) (c ∷ more) e =
    let both = and-both (is_c_byte b) (list_all is_c_byte text) e in
    rw (no-slash b both.0) (no-double text more both.1)

pub word-stray : (text : List ℕ) → IsWord text → has_stray_slash text ≡ false
word-stray text e = rw (begins-plain text e, begins-plain (drop (length text - 1) text) (dropped is_c_byte (length text - 1) text e), no-double text (drop 1 text) e) refl

pub word-run : (most : ℕ) (text : List ℕ) → IsWord text → 1 ≤ length text → length text ≤ most → is_run (is_in X) most text ≡ true
word-run most text e some short = rw (le-leb 1 (length text) some, le-leb (length text) most short, c-plain text e) refl

-- ---- two slashes after a reference end it

abbrev are_slashes : ℕ × ℕ → Bool
are_slashes p = (p.0 == 47) && (p.1 == 47)

either-false : (a b : Bool) → (a || b) ≡ false → (a ≡ false) × (b ≡ false)
either-false true b e = absurd (cc e)
either-false false b e = (refl, e)

later-none : (a b : ℕ) (rest : List ℕ) → are_slashes (a, b) ≡ false → double_slash_in (b ∷ rest) ≡ None → double_slash_in (a ∷ b ∷ rest) ≡ None
later-none a b rest e none = position-later are_slashes (a, b) (zip (b ∷ rest) rest) e ∙ ap (option_map (λ i. i + 1)) none

apart : (a : ℕ) → (a == 47) ≡ false → are_slashes (a, 47) ≡ false
apart a e = rw e refl

ended-by : (text : List ℕ) → list_any are_slashes (zip text (drop 1 text)) ≡ false → begins_with 47 (drop (length text - 1) text) ≡ false → double_slash_in (text ++ 47 ∷ []) ≡ None
ended-by [] e f = refl
ended-by (a ∷ []) e f = later-none a 47 [] (apart a f) refl
ended-by (a ∷ b ∷ text) e f =
    let parts = either-false (are_slashes (a, b)) (list_any are_slashes (zip (b ∷ text) text)) e in
    let place : length (a ∷ b ∷ text) - 1 ≡ suc (length (b ∷ text) - 1) = omega arith in
    let last : begins_with 47 (drop (length (b ∷ text) - 1) (b ∷ text)) ≡ false = ap (λ (k : ℕ). begins_with 47 (drop k (a ∷ b ∷ text))) (sym place) ∙ f in
    later-none a b (text ++ 47 ∷ []) parts.0 (ended-by (b ∷ text) parts.1 last)

pub ended : (text : List ℕ) → has_stray_slash text ≡ false → double_slash_in (text ++ 47 ∷ []) ≡ None
ended text e =
    let parts = either-false (begins_with 47 text || begins_with 47 (drop (length text - 1) text)) (list_any are_slashes (zip text (drop 1 text))) e in
    let ends = either-false (begins_with 47 text) (begins_with 47 (drop (length text - 1) text)) parts.0 in
    ended-by text parts.1 ends.1

-- ---- the references of a statement

-- what field 20 and a line may hold
pub record IsQuoted (text : List ℕ) : Type 0 where
  pub run : is_run (is_in X) 16 text ≡ true
  pub stray : has_stray_slash text ≡ false

quoted-word : (text : List ℕ) → IsWord text → 1 ≤ length text → length text ≤ 16 → IsQuoted text
quoted-word text e some short = record { run = word-run 16 text e some short; stray = word-stray text e }

not-true : (b : Bool) → not b ≡ true → b ≡ false
not-true true e = absurd (cc e)
not-true false e = refl

pub quoted-theirs : (text : List ℕ) → IsReference text → IsQuoted text
quoted-theirs text is = record {
  run = rw (le-leb 1 (length text) is.given, le-leb (length text) 16 is.short, is.plain) refl;
  stray = not-true (has_stray_slash text) is.slashes;
}

module _ (place : ℕ) (small : place ≤ 100000) where
  eight : length (padded 8 place) ≡ 8
  eight = length-padded 8 place (omega arith) (omega (arith, small)) (omega (arith, small))

  eight-word : IsWord (padded 8 place)
  eight-word = word-digits (padded 8 place) (padded-digits 8 place (omega (arith, small)) (omega arith))

  pub quoted-own : IsQuoted (own_reference place)
  quoted-own = quoted-word (own_reference place) eight-word (omega (arith, eight)) (omega (arith, eight))

  pub quoted-ours : (k : ℕ) → k ≤ 255 → IsQuoted (ours place k)
  quoted-ours k few =
      let three : length (decimal k) ≤ 3 = length-decimal-le 3 k (omega arith) (omega (arith, few)) (omega (arith, few)) in
      let size = length-append (padded 8 place) (75 ∷ decimal k) in
      let tail : IsWord (75 ∷ decimal k) = word-digits (decimal k) (decimal-digits k (omega (arith, few))) in
      quoted-word (ours place k) (word-append (padded 8 place) (75 ∷ decimal k) eight-word tail) (omega (arith, size, eight)) (omega (arith, size, eight, three))

pub quoted-page : (day : Day) (n k : ℕ) → InCentury day → n < 10000 → k < 10000 → IsQuoted (page_reference day n k)
quoted-page day n k century small few =
    let date : IsWord (yymmdd_of day) = word-digits (yymmdd_of day) (day-digits day century) in
    let number : IsWord (padded 4 n) = word-digits (padded 4 n) (padded-digits 4 n (omega (arith, small)) (omega arith)) in
    let page : IsWord (80 ∷ padded 4 k) = word-digits (padded 4 k) (padded-digits 4 k (omega (arith, few)) (omega arith)) in
    let of_n : length (padded 4 n) ≡ 4 = length-padded 4 n (omega arith) (omega (arith, small)) (omega (arith, small)) in
    let of_k : length (padded 4 k) ≡ 4 = length-padded 4 k (omega arith) (omega (arith, few)) (omega (arith, few)) in
    let front : IsWord (yymmdd_of day ++ padded 4 n) = word-append (yymmdd_of day) (padded 4 n) date number in
    let front_size = length-append (yymmdd_of day) (padded 4 n) in
    let size = length-append (yymmdd_of day ++ padded 4 n) (80 ∷ padded 4 k) in
    quoted-word (page_reference day n k) (word-append (yymmdd_of day ++ padded 4 n) (80 ∷ padded 4 k) front page) (omega (arith, size)) (omega (arith, size, front_size, of_n, of_k))
