-- What a disk with a fuse leaves is an image.
use Rattle.std.proofs.Common.{◌≡◌, inr, ℕ, ◌≤◌, List, [], ◌∷◌, length, Bool, true, false, if◌then◌else◌, Some, None, refl, arith}
use Rattle.std.specs.Prelude.{nat_le}
use Rattle.std.proofs.lemmas.Bool.Decides.{nat_tests}
use Rattle.std.proofs.lemmas.Grind.{common_steps}
use Rattle.corr_disk.specs.Disk.{written, Torn}
use Rattle.corr_disk.specs.Past.{DiskStep, Image}
use Rattle.corr_disk.specs.Tearing.{arrived, torn_write, left_of}
use Rattle.corr_disk.proofs.Steps.{part_is_torn}

-- no more arrives than was written
pub length-arrived : (torn : ℕ) (piece : List ℕ) → length (arrived torn piece) ≤ length piece
length-arrived torn piece = grind (arith, common_steps, nat_tests)

nothing_is_torn : (at n : ℕ) (bytes : List ℕ) → Torn at n bytes bytes
nothing_is_torn at n bytes = record { before = refl; after = refl; no_shorter = omega arith; no_longer = omega arith }

torn_write-torn : (torn at : ℕ) (piece image : List ℕ) → Torn at (length piece) image (torn_write torn at piece image)
torn_write-torn torn at piece image = torn_if (nat_le at (length image)) (λ le. grind (arith, nat_tests, le))
  where
    torn_if : (test : Bool) → (test ≡ true → at ≤ length image) → Torn at (length piece) image (if test then written at (arrived torn piece) image else image)
    torn_if true le = part_is_torn at (length piece) (arrived torn piece) image (le refl) (length-arrived torn piece)
    torn_if false le = nothing_is_torn at (length piece) image

pub left_is_image : (torn : ℕ) (first : List ℕ) (steps : List DiskStep) → Image first steps (left_of torn first steps)
left_is_image torn first [] = refl
left_is_image torn first (None ∷ earlier) = refl
left_is_image torn first (Some write ∷ earlier) =
    inr (left_of torn first earlier, left_is_image torn first earlier, torn_write-torn torn write.0 write.1 (left_of torn first earlier))
