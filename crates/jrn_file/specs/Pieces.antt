-- Bytes that are read piece by piece, and the records that are taken out of them.
use Rattle.std.specs.Prelude.{ℕ, ◌+◌, ◌/◌, ◌^◌}

-- a file is read in pieces of so many bytes
abbrev pub piece_size : ℕ
piece_size = 2 ^ 16

-- the calls that show a disk's bytes up to this place, or its end there, by reads of so many bytes: a sync and the reads
abbrev pub calls_to_open : ℕ → ℕ → ℕ
calls_to_open piece place = 2 + place / piece
