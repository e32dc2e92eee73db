-- Bytes that are read piece by piece, and the records that are taken out of them.
use Rattle.std.specs.Prelude.{◌≡◌, ◌⊎◌, ℕ, ◌+◌, ◌<◌, ◌≤◌, Bool, IsTrue, List, [], ◌++◌, length, map, take, drop}
use Rattle.jrn_file.specs.Journal.{after_gates}
use Rattle.jrn_file.specs.inner.Journal.{AreOpen}

-- a read that asked for so many bytes from this place on: n more are held, the next of the disk, and fewer only at its end
pub record IsPiece (honest : Bool) (reads : List ℕ) (at asked n : ℕ) (old new : List ℕ) : Type 0 where
  pub more : List ℕ
  pub is : new ≡ old ++ more
  pub count : n ≡ length more
  pub most : n ≤ asked
  pub told : IsTrue honest → more ≡ take asked (drop at reads)

-- After open gates these records stand in front of the bytes, and then the rest: where there is a record, at least a gate.
pub record AreTakenOff (bytes : List ℕ) (all : List (List ℕ)) (rest : List ℕ) : Type 0 where
  pub entries : List (ℕ × List ℕ)
  pub gates : AreOpen entries
  pub same : map (λ entry. entry.1) entries ≡ all
  pub is : bytes ≡ after_gates entries ++ rest
  pub gate : (all ≡ []) ⊎ (0 < length rest)

-- some bytes have P, and where a disk tells its bytes, it is these
abbrev pub OfBytes : Bool → List ℕ → (List ℕ → Type 0) → Type 0
OfBytes honest reads P = (bytes : List ℕ) × P bytes × (IsTrue honest → bytes ≡ reads)
