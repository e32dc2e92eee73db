-- Laws of a disk in memory.
use Rattle.std.specs.Prelude.{ℕ, suc, ◌≤◌, false, IsTrue, List, [], ◌∷◌, length, Some, None, refl}
use Rattle.std.proofs.Common.{inl, inr, arith}
use Rattle.corr_disk.specs.Past.{DiskStep, bytes_after, Image, LeftSince}

-- this moment is one of those since an earlier one
pub now_counts : (first : List ℕ) (steps : List DiskStep) (t : ℕ) (c : List ℕ) → Image first steps c → LeftSince first steps t c
now_counts first [] t c now = now
now_counts first (step ∷ earlier) t c now = inl now

-- no moment is after the last one
too_late : (n : ℕ) → suc n ≤ n → ⊥
too_late n le = omega (arith, le)

-- since this moment there is no other
pub no_other : (first : List ℕ) (steps : List DiskStep) (c : List ℕ) → LeftSince first steps (length steps) c → Image first steps c
no_other first [] c left = left
no_other first (step ∷ earlier) c (inl now) = now
no_other first (step ∷ earlier) c (inr past) = absurd (too_late (length earlier) past.0)

-- what a read gives is one of the images
pub reads_stay : (first : List ℕ) (steps : List DiskStep) → Image first steps (bytes_after first steps)
reads_stay first [] = refl
reads_stay first (None ∷ earlier) = refl
reads_stay first (Some write ∷ earlier) = inl refl

-- a disk that isn't honest
pub not_told : IsTrue false → ⊥
not_told honest = cc
