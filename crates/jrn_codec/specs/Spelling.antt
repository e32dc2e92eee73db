-- How the fields of records are spelled. Numbers are big-endian; signed ones are two's complement.
use Rattle.std.specs.Prelude.{ℕ, List, [], ◌∷◌, ◌++◌, length, Option, Some, None, ℤ}
use Rattle.std.specs.List.{flat_map}
use Rattle.std.specs.Int.{Width, w32, to_be_bytes, cast_unsigned}
use Rattle.corr_ids.specs.declared.bic.Bic.{Bic}

-- a signed number, as the number of the same bits
unfoldable pub signed_bytes : Width → ℤ → List ℕ
signed_bytes w n = to_be_bytes w (cast_unsigned w n)

-- the 11 characters of a BIC, its branch too where that is XXX
abbrev pub bic_bytes : Bic → List ℕ
bic_bytes bic = bic.head ++ bic.branch

-- a mark, and after the mark 1 the value
abbrev pub optional_bytes : {A : Type 0} → (A → List ℕ) → Option A → List ℕ
optional_bytes spell None = 0 ∷ []
optional_bytes spell (Some x) = 1 ∷ spell x

-- the length in one byte, then the bytes
abbrev pub short_bytes : List ℕ → List ℕ
short_bytes text = length text ∷ text

-- the length in four bytes, then the bytes
unfoldable pub long_bytes : List ℕ → List ℕ
long_bytes text = to_be_bytes w32 (length text) ++ text

-- how many there are in one byte, then each of them
abbrev pub listed_bytes : {A : Type 0} → (A → List ℕ) → List A → List ℕ
listed_bytes spell xs = length xs ∷ flat_map spell xs
