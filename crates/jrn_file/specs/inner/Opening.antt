-- What opening a journal tells of the bytes of a disk.
use Rattle.std.specs.Prelude.{◌≡◌, ◌⊎◌, ℕ, ◌+◌, ◌<◌, ◌≤◌, Bool, List, [], ◌∷◌, ◌++◌, length, take}
use Rattle.std.specs.Int.{w32, from_be_bytes}
use Rattle.jrn_file.specs.Reading.{no_journal, cut, most_record_bytes, with_length, opened_of}
use Rattle.jrn_file.specs.Journal.{journal_bytes, StandsFor}
use Rattle.jrn_file.specs.inner.Pieces.{OfBytes}
use Rattle.jrn_file.specs.declared.fault.OpenFault.TheVariants.{NotAJournal, Memory}
use Rattle.jrn_file.specs.declared.loading.LoadFault.{LoadFault}
use Rattle.jrn_file.specs.declared.loading.LoadFault.TheVariants as load

-- after an open gate: this record, with its length before it and a gate after it
pub record BeginsWith (after r : List ℕ) : Type 0 where
  pub gate : ℕ
  pub rest : List ℕ
  pub fits : length r ≤ most_record_bytes
  pub is : after ≡ with_length r ++ gate ∷ rest

-- a whole record stands after the gate
abbrev pub IsWhole : List ℕ → Type 0
IsWhole after = (r : List ℕ) × BeginsWith after r

-- no record in front: no byte, a closed gate, or an open one with no whole record after it
abbrev pub HasNoRecord : List ℕ → Type 0
HasNoRecord [] = Unit {0}
HasNoRecord (gate ∷ after) = (gate ≡ 0) ⊎ (IsWhole after → ⊥)

-- after a gate in front, four bytes that tell more than a record may have
abbrev pub IsTooLong : List ℕ → Type 0
IsTooLong [] = ⊥
IsTooLong (gate ∷ after) = (4 ≤ length after) × (most_record_bytes < from_be_bytes w32 (take 4 after))

-- a closed gate in front
abbrev pub IsShut : List ℕ → Type 0
IsShut [] = ⊥
IsShut (gate ∷ after) = gate ≡ 0

-- the header and the records up to the first closed gate, and its place
pub record IsReadAs (image : List ℕ) (end : ℕ) (all : List (List ℕ)) : Type 0 where
  pub head : List ℕ
  pub records : List (List ℕ)
  pub all_is : all ≡ head ∷ records
  pub stands : StandsFor image head records
  pub place : end + 1 ≡ length (journal_bytes head records)

-- what the bytes of a disk must be where no journal could be read to its closed gate
abbrev pub ExplainsLoad : Bool → List ℕ → LoadFault → Type 0
ExplainsLoad honest reads load.Disk = Unit {0}
ExplainsLoad honest reads load.NotAJournal = OfBytes honest reads (λ bytes. opened_of bytes ≡ no_journal)
ExplainsLoad honest reads (load.Cut at records) = OfBytes honest reads (λ bytes. opened_of bytes ≡ cut records.items at)
ExplainsLoad honest reads load.Memory = Unit {0}
