-- Currencies have at most 4 decimals.
use Rattle.std.proofs.Common.{◌≡◌, ℕ, ◌-◌, ◌≤◌, Bool, true, false, cond, ◌&&◌, List, [], ◌∷◌, map, Option, Some, None, unwrap_or, refl, arith, nat_le}
use Rattle.std.specs.Prelude.{IfSome, IsTrue}
use Rattle.std.specs.Map.{lookup}
use Rattle.std.proofs.lemmas.Bool.Decides.{nat_tests}
use Rattle.ref_tables.specs.Columns.{decimals_in_cell}
use Rattle.ref_tables.specs.Rows.{Cells, cell}
use Rattle.ref_tables.specs.Seen.{few_decimals}
use Rattle.ref_tables.specs.Tables.{ccy_of}

digit-few : (b : ℕ) → nat_le (unwrap_or (cond (nat_le 48 b && nat_le b 52) (Some (b - 48)) None) 0) 4 ≡ true
digit-few b = grind (arith, nat_tests)

-- a column of decimals says at most 4
few : (bs : List ℕ) → nat_le (unwrap_or (decimals_in_cell bs) 0) 4 ≡ true
few [] = refl
few (b ∷ []) = digit-few b
few (b ∷ c ∷ bs) = refl

pub rows_few : (rows : List Cells) → IsTrue (few_decimals (map ccy_of rows))
rows_few [] = refl
rows_few (row ∷ rows) = rw (few (cell 1 row)) (rows_few rows)

found : (b r : Bool) (d : ℕ) (rest : Bool) (later : Option ℕ) → nat_le d 4 ≡ r → (r && rest) ≡ true → (rest ≡ true → IfSome later (λ d. d ≤ 4)) → IfSome (cond b (Some d) later) (λ d. d ≤ 4)
found true true d rest later e h k = grind (arith, nat_tests)
found b false d rest later e h k = absurd (cc h)
found false true d rest later e h k = k h

-- a currency that is found in a table of few decimals has few
pub lookup_few : (test : List ℕ → Bool) (ccys : List (List ℕ × ℕ)) → IsTrue (few_decimals ccys) → IfSome (lookup test ccys) (λ d. d ≤ 4)
lookup_few test [] all = tt
lookup_few test (c ∷ ccys) all = found (test c.0) (nat_le c.1 4) c.1 (few_decimals ccys) (lookup test ccys) refl all (λ h. lookup_few test ccys h)
