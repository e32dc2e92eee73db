-- What a disk in memory has been through, and all that a crash may leave of it.
use Rattle.std.specs.Prelude.{◌≡◌, ◌⊎◌, ℕ, ◌≤◌, List, [], ◌∷◌, length, Option, Some, None}
use Rattle.corr_disk.specs.Disk.{written, Torn}

-- a write of a piece at a place, or a sync
abbrev pub DiskStep : Type 0
DiskStep = Option (ℕ × List ℕ)

-- what a read gives
abbrev pub bytes_after : List ℕ → List DiskStep → List ℕ
bytes_after first [] = first
bytes_after first (None ∷ earlier) = bytes_after first earlier
bytes_after first (Some write ∷ earlier) = written write.0 write.1 (bytes_after first earlier)

-- what a crash may leave: all that was written, or since the last sync each write torn
abbrev pub Image : List ℕ → List DiskStep → List ℕ → Type 0
Image first [] c = c ≡ first
Image first (None ∷ earlier) c = c ≡ bytes_after first earlier
Image first (Some write ∷ earlier) c =
    (c ≡ bytes_after first (Some write ∷ earlier)) ⊎ ((d : List ℕ) × Image first earlier d × Torn write.0 (length write.1) d c)

-- what a crash at some moment from that one on might have left; the moment is the number of steps
abbrev pub LeftSince : List ℕ → List DiskStep → ℕ → List ℕ → Type 0
LeftSince first [] t c = c ≡ first
LeftSince first (step ∷ earlier) t c = Image first (step ∷ earlier) c ⊎ ((t ≤ length earlier) × LeftSince first earlier t c)
