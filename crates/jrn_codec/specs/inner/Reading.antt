-- Reading a field from the front of bytes: the value and the bytes after it, or nothing.
use Rattle.std.specs.Prelude.{ℕ, zero, suc, List, [], ◌∷◌, take, drop, length, Option, Some, None, ℤ, nat_lt, if◌then◌else◌}
use Rattle.std.specs.Int.{Width, w32, byte_len, from_be_bytes, cast_signed}
use Rattle.corr_ids.specs.Bic.{bic_of}
use Rattle.corr_ids.specs.Day.{◌>>=◌}
use Rattle.corr_ids.specs.declared.bic.Bic.{Bic}

-- the first n bytes
abbrev pub cut : ℕ → List ℕ → Option (List ℕ × List ℕ)
cut n bytes = if nat_lt (length bytes) n then None else Some (take n bytes, drop n bytes)

-- one byte
abbrev pub byte_at : List ℕ → Option (ℕ × List ℕ)
byte_at [] = None
byte_at (b ∷ rest) = Some (b, rest)

-- a number of a width
abbrev pub number_at : Width → List ℕ → Option (ℕ × List ℕ)
number_at w bytes =
    if nat_lt (length bytes) (byte_len w) then None
    else Some (from_be_bytes w (take (byte_len w) bytes), drop (byte_len w) bytes)

-- a signed number of a width
unfoldable pub signed_at : Width → List ℕ → Option (ℤ × List ℕ)
signed_at w bytes = do
  n ← number_at w bytes
  Some (cast_signed w n.0, n.1)

-- n bytes that spell a value
unfoldable pub spelled_at : {A : Type 0} → ℕ → (List ℕ → Option A) → List ℕ → Option (A × List ℕ)
spelled_at n value bytes = do
  part ← cut n bytes
  x ← value part.0
  Some (x, part.1)

-- one byte that stands for a value
unfoldable pub mark_at : {A : Type 0} → (ℕ → Option A) → List ℕ → Option (A × List ℕ)
mark_at value bytes = do
  mark ← byte_at bytes
  x ← value mark.0
  Some (x, mark.1)

-- the eleven characters of a BIC
abbrev pub bic_at : List ℕ → Option (Bic × List ℕ)
bic_at bytes = spelled_at 11 bic_of bytes

-- the mark 0, or the mark 1 and a value
unfoldable pub optional_at : {A : Type 0} → (List ℕ → Option (A × List ℕ)) → List ℕ → Option (Option A × List ℕ)
optional_at read [] = None
optional_at read (zero ∷ rest) = Some (None, rest)
optional_at read (suc zero ∷ rest) = do
  x ← read rest
  Some (Some x.0, x.1)
optional_at read (suc (suc b) ∷ rest) = None

-- a length in one byte, and that many bytes
unfoldable pub short_at : List ℕ → Option (List ℕ × List ℕ)
short_at bytes = do
  n ← byte_at bytes
  cut n.0 n.1

-- a length in four bytes, and that many bytes
unfoldable pub long_at : List ℕ → Option (List ℕ × List ℕ)
long_at bytes = do
  n ← number_at w32 bytes
  cut n.0 n.1

-- so many values one after another
unfoldable pub items_at : {A : Type 0} → (List ℕ → Option (A × List ℕ)) → ℕ → List ℕ → Option (List A × List ℕ)
items_at read zero bytes = Some ([], bytes)
items_at read (suc n) bytes = do
  first ← read bytes
  others ← items_at read n first.1
  Some (first.0 ∷ others.0, others.1)

-- how many there are in one byte, and that many values
unfoldable pub listed_at : {A : Type 0} → (List ℕ → Option (A × List ℕ)) → List ℕ → Option (List A × List ℕ)
listed_at read bytes = do
  n ← byte_at bytes
  items_at read n.0 n.1
