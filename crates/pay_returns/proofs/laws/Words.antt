-- References of digits and capital letters alone.
use Rattle.std.proofs.Common.{◌≡◌, ℕ, zero, suc, ◌-◌, ◌≤◌, ◌==◌, ◌&&◌, not, Bool, true, false, List, [], ◌∷◌, ◌++◌, length, drop, refl, ap, ◌∙◌, arith}
use Rattle.std.specs.Char.{is_ascii_digit}
use Rattle.std.specs.List.{list_all, list_any, zip}
use Rattle.std.proofs.lemmas.Bool.Decides.{nat_tests}
use Rattle.std.proofs.lemmas.List.{length-append}
use Rattle.std.proofs.lemmas.List.Folds.{list_all-append}
use Rattle.corr_text.specs.Digits.{padded}
use Rattle.corr_text.specs.Lines.{begins_with}
use Rattle.corr_text.specs.Sets.{is_c_byte}
use Rattle.corr_text.specs.Slashes.{has_stray_slash}
use Rattle.corr_text.proofs.laws.Number.{length-padded}
use Rattle.fin_contents.proofs.laws.Bytes.{and-both}
use Rattle.day_model.specs.Shape.{IsReference}
use Rattle.advices.proofs.laws.Bytes.{c-plain, padded-digits}
use Rattle.pay_returns.specs.References.{own_reference}

abbrev pub IsWord : List ℕ → Type 0
IsWord text = list_all is_c_byte text ≡ true

pub word-append : (front back : List ℕ) → IsWord front → IsWord back → IsWord (front ++ back)
word-append front back e f = list_all-append is_c_byte front back ∙ rw (e, f) refl

digit-letter : (b : ℕ) → is_ascii_digit b ≡ true → is_c_byte b ≡ true
digit-letter b e = grind (arith, nat_tests)

pub word-digits : (text : List ℕ) → list_all is_ascii_digit text ≡ true → IsWord text
word-digits [] e = refl
word-digits (b ∷ text) e =
    let both = and-both (is_ascii_digit b) (list_all is_ascii_digit text) e in
    rw (digit-letter b both.0) (word-digits text both.1)

-- ---- no slash

no-slash : (b : ℕ) → is_c_byte b ≡ true → (b == 47) ≡ false
no-slash b e = grind (arith, nat_tests)

begins-plain : (text : List ℕ) → IsWord text → begins_with 47 text ≡ false
begins-plain [] e = refl
begins-plain (b ∷ text) e = no-slash b (and-both (is_c_byte b) (list_all is_c_byte text) e).0

pub dropped : (p : ℕ → Bool) (k : ℕ) (text : List ℕ) → list_all p text ≡ true → list_all p (drop k text) ≡ true
dropped p zero text e = e
dropped p (suc k) [] e = refl
dropped p (suc k) (b ∷ text) e = dropped p k text (and-both (p b) (list_all p text) e).1

no-double : (text more : List ℕ) → IsWord text → list_any (λ p. (p.0 == 47) && (p.1 == 47)) (zip text more) ≡ false
no-double [] [] e = refl
no-double [] (c ∷ more) e = refl
no-double (b ∷ text) [] e = refl
no-double (b ∷ text) (c ∷ more) e =
    let both = and-both (is_c_byte b) (list_all is_c_byte text) e in
    rw (no-slash b both.0) (no-double text more both.1)

pub word-stray : (text : List ℕ) → IsWord text → has_stray_slash text ≡ false
word-stray text e = rw (begins-plain text e, begins-plain (drop (length text - 1) text) (dropped is_c_byte (length text - 1) text e), no-double text (drop 1 text) e) refl

-- so a short one is a reference
pub word-reference : (text : List ℕ) → IsWord text → 1 ≤ length text → length text ≤ 16 → IsReference text
word-reference text e some short = record { given = some; short = short; plain = c-plain text e; slashes = ap not (word-stray text e) }

-- ---- of entries

module _ (place : ℕ) (small : place ≤ 100000) where
  pub own-word : IsWord (own_reference place)
  own-word = word-digits (padded 8 place) (padded-digits 8 place (omega (arith, small)) (omega arith))

  pub own-long : length (own_reference place) ≡ 9
  own-long =
      let eight = length-padded 8 place (omega arith) (omega (arith, small)) (omega (arith, small)) in
      omega (arith, eight)

  -- the reference of a return's text
  pub return-reference : IsReference (own_reference place ++ 82 ∷ [])
  return-reference =
      let long = length-append (own_reference place) (82 ∷ []) in
      word-reference (own_reference place ++ 82 ∷ []) (word-append (own_reference place) (82 ∷ []) own-word refl) (omega (arith, long, own-long)) (omega (arith, long, own-long))
