-- Records that are read one after another as accounts and a history.
use Rattle.std.specs.Prelude.{ℕ, ◌<◌, ◌^◌, List, [], ◌∷◌, ◌++◌, length, nat_lt, if◌then◌else◌}
use Rattle.day_model.specs.Totals.{Pair}
use Rattle.jrn_file.specs.Reading.{size_of, whole}
use Rattle.jrn_file.specs.declared.fault.OpenFault.{OpenFault}
use Rattle.jrn_file.specs.declared.fault.OpenFault.TheVariants as open_fault
use Rattle.jrn_book.specs.declared.version.Version.{Version}
use Rattle.jrn_book.specs.Opening.{HasNoHead, HasOtherHead, IsFaultyAt}

-- totals of accounts, with none for a new account where there are more accounts than that
abbrev pub widened : ℕ → List Pair → List Pair
widened count pairs = if nat_lt (length pairs) count then pairs ++ (0, 0) ∷ [] else pairs

-- What a refusal of records tells: their first is no header, or one of the other version, or one is refused at this place, where
-- it has 64 bits; want of memory tells nothing.
abbrev pub RefusesRecords : Version → List (List ℕ) → OpenFault → Type 0
RefusesRecords version all open_fault.NotAJournal = HasNoHead all
RefusesRecords version all (open_fault.Version found) = HasOtherHead version all found
RefusesRecords version all (open_fault.Damaged at) = size_of all < 2 ^ 64 → IsFaultyAt version (whole all) at
RefusesRecords version all (open_fault.DiskFault before after) = ⊥
RefusesRecords version all open_fault.Memory = Unit {0}

-- what a refusal of a header tells: the bytes are none, or one of the other version; out of memory tells nothing
abbrev pub RefusesHead : Version → List ℕ → OpenFault → Type 0
RefusesHead version bytes open_fault.NotAJournal = HasNoHead (bytes ∷ [])
RefusesHead version bytes (open_fault.Version found) = HasOtherHead version (bytes ∷ []) found
RefusesHead version bytes (open_fault.Damaged at) = ⊥
RefusesHead version bytes (open_fault.DiskFault before after) = ⊥
RefusesHead version bytes open_fault.Memory = Unit {0}

-- the fault isn't the disk's
abbrev pub IsOfBytes : OpenFault → Type 0
IsOfBytes open_fault.NotAJournal = Unit {0}
IsOfBytes (open_fault.Version found) = Unit {0}
IsOfBytes (open_fault.Damaged at) = Unit {0}
IsOfBytes (open_fault.DiskFault before after) = ⊥
IsOfBytes open_fault.Memory = Unit {0}
