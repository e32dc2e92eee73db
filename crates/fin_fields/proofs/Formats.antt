-- A format by its count of lines and by each of them.
use Rattle.std.proofs.Common.{◌≡◌, ℕ, ◌&&◌, Bool, true, false, List, [], ◌∷◌, length, nat_eq, refl, arith}
use Rattle.std.specs.List.{list_all}
use Rattle.std.proofs.lemmas.Bool.Decides.{nat_tests}
use Rattle.corr_text.specs.Sets.{is_in}
use Rattle.fin_fields.specs.declared.pattern.Pattern.{Pattern}
use Rattle.fin_fields.specs.declared.pattern.Pattern.TheVariants.{Lines, Fixed, UpTo}
use Rattle.fin_fields.specs.Patterns.{is_one_line, is_run, meets}
use Rattle.fin_fields.specs.inner.Patterns.{fits_count, fits_line}

and-true : (b : Bool) → (b && true) ≡ b
and-true true = refl
and-true false = refl

one-of-one : (test : List ℕ → Bool) (lines : List (List ℕ)) → (nat_eq (length lines) 1 && list_all test lines) ≡ is_one_line test lines
one-of-one test [] = refl
one-of-one test (line ∷ []) = and-true (test line)
one-of-one test (line ∷ next ∷ lines) =
    let more : nat_eq (length (line ∷ next ∷ lines)) 1 ≡ false = grind (arith, nat_tests) in
    rw more refl

pub meets_by_parts : (p : Pattern) (lines : List (List ℕ)) → (fits_count p (length lines) && list_all (fits_line p) lines) ≡ meets p lines
meets_by_parts (Lines max len) lines = refl
meets_by_parts (Fixed set len) lines = one-of-one (λ line. nat_eq (length line) len && list_all (is_in set) line) lines
meets_by_parts (UpTo set len) lines = one-of-one (is_run (is_in set) len) lines

-- where the count is right, each line decides
pub meets_by_each : (p : Pattern) (lines : List (List ℕ)) → fits_count p (length lines) ≡ true → list_all (fits_line p) lines ≡ meets p lines
meets_by_each p lines fit = rw fit at (meets_by_parts p lines)
