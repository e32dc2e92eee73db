-- Lines that have no byte outside set X.
use Rattle.std.proofs.Common.{◌≡◌, ℕ, zero, suc, ◌&&◌, not, Bool, true, false, List, [], ◌∷◌, length, drop, refl, ap, ◌∙◌}
use Rattle.std.specs.Prelude.{nat_le}
use Rattle.std.specs.List.{list_all, list_any}
use Rattle.std.proofs.lemmas.Bool.{or_parts}
use Rattle.corr_text.specs.Sets.{is_in, is_x_byte}
use Rattle.corr_text.specs.declared.set.Set.TheVariants.{X}
use Rattle.fin_fields.specs.Faults.{has_other_byte}
use Rattle.fin_fields.specs.Patterns.{is_run}
use Rattle.fin_fields.specs.inner.Patterns.{is_short}

-- so has the first byte, and so have the bytes after it
pub each-of-x : (b : ℕ) (bs : List ℕ) → has_other_byte (b ∷ bs) ≡ false → (not (is_x_byte b) ≡ false) × (has_other_byte bs ≡ false)
each-of-x b bs e = or_parts (not (is_x_byte b)) (has_other_byte bs) e

-- and what is left after some bytes
pub rest_of_x : (n : ℕ) (line : List ℕ) → has_other_byte line ≡ false → has_other_byte (drop n line) ≡ false
rest_of_x zero line e = e
rest_of_x (suc n) [] e = e
rest_of_x (suc n) (b ∷ bs) e = rest_of_x n bs (each-of-x b bs e).1

-- the first of such lines, and the lines after it
pub lines-of-x : (line : List ℕ) (lines : List (List ℕ)) → list_any has_other_byte (line ∷ lines) ≡ false
    → (has_other_byte line ≡ false) × (list_any has_other_byte lines ≡ false)
lines-of-x line lines e = or_parts (has_other_byte line) (list_any has_other_byte lines) e

both : (a b : Bool) → not a ≡ false → b ≡ true → (a && b) ≡ true
both true b p q = q
both false b p q = absurd (cc p)

-- such a line has bytes of X alone
pub all_of_x : (line : List ℕ) → has_other_byte line ≡ false → list_all (is_in X) line ≡ true
all_of_x [] e = refl
all_of_x (b ∷ bs) e =
    let parts = each-of-x b bs e in
    both (is_x_byte b) (list_all (is_in X) bs) parts.0 (all_of_x bs parts.1)

and-true : (a b c : Bool) → c ≡ true → (a && b && c) ≡ (a && b)
and-true true true c e = e
and-true true false c e = refl
and-true false b c e = refl

-- its number of bytes tells whether it is a run
pub run_of_x : (most : ℕ) (line : List ℕ) → has_other_byte line ≡ false → is_run (is_in X) most line ≡ is_short most line
run_of_x most line e = and-true (nat_le 1 (length line)) (nat_le (length line) most) (list_all (is_in X) line) (all_of_x line e)

-- of several such lines their numbers tell it
pub runs_of_x : (most : ℕ) (lines : List (List ℕ)) → list_any has_other_byte lines ≡ false
    → list_all (is_run (is_in X) most) lines ≡ list_all (is_short most) lines
runs_of_x most [] e = refl
runs_of_x most (line ∷ lines) e =
    let parts = lines-of-x line lines e in
    ap (λ b. b && list_all (is_run (is_in X) most) lines) (run_of_x most line parts.0)
    ∙ ap (λ b. is_short most line && b) (runs_of_x most lines parts.1)
