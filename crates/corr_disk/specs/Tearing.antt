-- The image that a disk with a fuse leaves.
use Rattle.std.specs.Prelude.{ℕ, ◌-◌, ◌/◌, nat_le, List, [], ◌∷◌, length, take, map, Some, None, if◌then◌else◌, ◌==◌}
use Rattle.corr_disk.specs.Disk.{written}
use Rattle.corr_disk.specs.Past.{DiskStep, bytes_after}

-- how much of a piece reached the disk: by the number none, all, the first half, all but with each byte turned, or its first so many bytes
abbrev pub arrived : ℕ → List ℕ → List ℕ
arrived torn piece =
    if torn == 0 then []
    else if torn == 1 then piece
    else if torn == 2 then take (length piece / 2) piece
    else if torn == 3 then map (λ b. 255 - b) piece
    else take (torn - 3) piece

-- a torn write, which reaches nothing after the image's end
abbrev pub torn_write : ℕ → ℕ → List ℕ → List ℕ → List ℕ
torn_write torn at piece image = if nat_le at (length image) then written at (arrived torn piece) image else image

-- what is left: each write since the last sync so torn
abbrev pub left_of : ℕ → List ℕ → List DiskStep → List ℕ
left_of torn first [] = first
left_of torn first (None ∷ earlier) = bytes_after first earlier
left_of torn first (Some write ∷ earlier) = torn_write torn write.0 write.1 (left_of torn first earlier)
