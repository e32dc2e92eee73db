-- The records of the tests are short enough.
use Rattle.std.specs.Prelude.{slice_index_or}
use Rattle.std.proofs.Common.{ℕ, zero, suc, ◌<◌, ◌≤◌, List, [], ◌∷◌, length, arith}
use Rattle.jrn_file.specs.Reading.{most_record_bytes}

-- AB, none and C
pub three : (k : ℕ) (d : List ℕ) → k < 3 → length (slice_index_or ((65 ∷ 66 ∷ []) ∷ [] ∷ (67 ∷ []) ∷ []) k d) ≤ most_record_bytes
three zero d below = omega arith
three (suc zero) d below = omega arith
three (suc (suc zero)) d below = omega arith
three (suc (suc (suc k))) d below = absurd (omega (arith, below))

-- a header with records after it
pub with-head : (head : List ℕ) (records : List (List ℕ)) → length head ≤ most_record_bytes
    → ((k : ℕ) (d : List ℕ) → k < length records → length (slice_index_or records k d) ≤ most_record_bytes)
    → (k : ℕ) (d : List ℕ) → k < length (head ∷ records) → length (slice_index_or (head ∷ records) k d) ≤ most_record_bytes
with-head head records one all zero d below = one
with-head head records one all (suc k) d below = all k d (omega (arith, below))
