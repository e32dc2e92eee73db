-- A BIC as a line of a field.
use Rattle.std.proofs.Common.{◌≡◌, ℕ, ◌==◌, ◌&&◌, ◌||◌, not, Bool, true, false, List, [], ◌∷◌, ◌++◌, take, drop, Some, refl, sym, ap, ◌∙◌, arith}
use Rattle.std.specs.List.{list_all, list_any}
use Rattle.std.specs.Char.{is_ascii_uppercase, is_ascii_lowercase, is_ascii_digit}
use Rattle.std.proofs.lemmas.Bool.Decides.{nat_tests}
use Rattle.std.proofs.lemmas.List.{take-append-drop}
use Rattle.std.proofs.lemmas.List.Folds.{list_any-append}
use Rattle.corr_text.specs.Lines.{begins_with}
use Rattle.corr_text.specs.Sets.{is_c_byte, is_x_byte, marks}
use Rattle.corr_ids.specs.declared.bic.Bic.{Bic}
use Rattle.corr_ids.specs.Bic.{is_bic, bic_of, bic_text, branch_of}
use Rattle.corr_ids.proofs.laws.Spelling.{some_if, bic-again, bic-printed}
use Rattle.fin_fields.specs.Faults.{has_other_byte, is_empty}
use Rattle.fin_fields.specs.Writing.{Continues}

and_both : (a b : Bool) → (a && b) ≡ true → (a ≡ true) × (b ≡ true)
and_both a b e = grind (arith, nat_tests)

and_three : (a b c : Bool) → (a && b && c) ≡ true → (a ≡ true) × (b ≡ true) × (c ≡ true)
and_three a b c e = grind (arith, nat_tests)

-- what is spelled so has the form of a BIC
pub bic-form : (line : List ℕ) (b : Bic) → bic_of line ≡ Some b → is_bic line ≡ true
bic-form line b e = (some_if (is_bic line) (record { head = take 8 line; branch = branch_of line }) b e).0

-- and is read again as it is printed
pub bic-spelled : (line : List ℕ) (b : Bic) → bic_of line ≡ Some b → bic_of (bic_text b) ≡ Some b
bic-spelled line b e =
    let s = some_if (is_bic line) (record { head = take 8 line; branch = branch_of line }) b e in
    bic-printed b (rw (← s.1) (bic-again line s.0))

-- ---- it begins with a letter

other-letter : (x c : ℕ) (more : Bool) → is_ascii_uppercase c ≡ false → (is_ascii_uppercase x && more) ≡ true → (x == c) ≡ false
other-letter x c more n e = grind (arith, nat_tests)

pub bic-begins : (c : ℕ) (line : List ℕ) → is_ascii_uppercase c ≡ false → is_bic line ≡ true → begins_with c line ≡ false
unfolding is_bic
bic-begins c [] n e = refl
bic-begins c (x ∷ xs) n e = other-letter x c (list_all is_ascii_uppercase (take 5 xs)) n (and_three _ _ _ e).1

bic-some : (line : List ℕ) → is_bic line ≡ true → is_empty line ≡ false
unfolding is_bic
bic-some [] e = absurd (cc e)
bic-some (x ∷ xs) e = refl

pub bic-continues : (line : List ℕ) → is_bic line ≡ true → Continues line
bic-continues line e = (bic-some line e, bic-begins 58 line refl e, bic-begins 45 line refl e)

-- ---- its bytes are of X

upper-or-digit : (upper lower digit mark : Bool) → (upper || digit) ≡ true → (upper || lower || digit || mark) ≡ true
upper-or-digit true lower digit mark e = refl
upper-or-digit false true true mark e = refl
upper-or-digit false false true mark e = refl
upper-or-digit false lower false mark e = absurd (cc e)

c-in-x : (b : ℕ) → is_c_byte b ≡ true → is_x_byte b ≡ true
c-in-x b e = upper-or-digit (is_ascii_uppercase b) (is_ascii_lowercase b) (is_ascii_digit b) (list_any (λ m. b == m) marks) e

letter-in-x : (b : ℕ) → is_ascii_uppercase b ≡ true → is_x_byte b ≡ true
letter-in-x b e = c-in-x b (rw e refl)

no-other : (p : ℕ → Bool) (xs : List ℕ) → ((x : ℕ) → p x ≡ true → is_x_byte x ≡ true) → list_all p xs ≡ true → has_other_byte xs ≡ false
no-other p [] in_x e = refl
no-other p (x ∷ xs) in_x e =
    let both = and_both (p x) (list_all p xs) e in
    rw (in_x x both.0, no-other p xs in_x both.1) refl

pub bic-of-x : (line : List ℕ) → is_bic line ≡ true → has_other_byte line ≡ false
unfolding is_bic
bic-of-x line e =
    let parts = and_three _ (list_all is_ascii_uppercase (take 6 line)) (list_all is_c_byte (drop 6 line)) e in
    let first : has_other_byte (take 6 line) ≡ false = no-other is_ascii_uppercase (take 6 line) letter-in-x parts.1 in
    let rest : has_other_byte (drop 6 line) ≡ false = no-other is_c_byte (drop 6 line) c-in-x parts.2 in
    let whole : has_other_byte (take 6 line ++ drop 6 line) ≡ false = rw (list_any-append (λ b. not (is_x_byte b)) (take 6 line) (drop 6 line), first, rest) refl in
    sym (ap has_other_byte (take-append-drop 6 line)) ∙ whole
