-- A table of bytes that holds the answers of a test.
use Rattle.std.proofs.Common.{◌≡◌, ◌<◌, ◌&&◌, ℕ, zero, suc, Bool, true, false, not, List, [], ◌∷◌, length, get_or, refl, sym, arith}
use Rattle.std.specs.Prelude.{◌==◌}
use Rattle.std.proofs.lemmas.Bool.{and_parts}
use Rattle.corr_text.specs.Sets.{is_x_byte}
use Rattle.corr_text.specs.declared.set.TheConstants.{IN_X}

abbrev is_same : Bool → Bool → Bool
is_same true b = b
is_same false b = not b

same : (a b : Bool) → is_same a b ≡ true → a ≡ b
same true b h = sym h
same false true h = absurd (cc h)
same false false h = refl

-- each entry is 1 where the number of its place passes
abbrev holds : (ℕ → Bool) → List ℕ → Bool
holds P [] = true
holds P (x ∷ xs) = is_same (x == 1) (P 0) && holds (λ n. P (suc n)) xs

holds-at : (P : ℕ → Bool) (xs : List ℕ) (k : ℕ) → holds P xs ≡ true → k < length xs → (get_or xs k 0 == 1) ≡ P k
holds-at P [] k h lt = absurd (omega (arith, lt))
holds-at P (x ∷ xs) zero h lt = same (x == 1) (P 0) (and_parts (is_same (x == 1) (P 0)) (holds (λ n. P (suc n)) xs) h).0
holds-at P (x ∷ xs) (suc k) h lt =
    holds-at (λ n. P (suc n)) xs k (and_parts (is_same (x == 1) (P 0)) (holds (λ n. P (suc n)) xs) h).1 (omega (arith, lt))

pub in_x : (b : ℕ) → b < 256 → (get_or IN_X b 0 == 1) ≡ is_x_byte b
in_x b lt = holds-at is_x_byte IN_X b refl lt
