-- What opening a journal tells of the bytes of a disk.
use Rattle.std.specs.Prelude.{◌≡◌, ℕ, Bool, Option, IsTrue, List, ◌∷◌}
use Rattle.corr_disk.specs.Calls.{CallsMade}
use Rattle.jrn_file.specs.Reading.{Reading, no_journal, whole, cut, opened_of}
use Rattle.jrn_file.specs.File.{IsSettled}
use Rattle.jrn_file.specs.Faults.{TellsCounts}
use Rattle.jrn_file.specs.Pieces.{calls_to_open}
use Rattle.jrn_file.specs.declared.file.Ending.{Ending}
use Rattle.jrn_file.specs.declared.file.Ending.TheVariants as ending
use Rattle.jrn_file.specs.declared.file.JFile.{JFile}
use Rattle.jrn_file.specs.declared.fault.OpenFault.{OpenFault}
use Rattle.jrn_file.specs.declared.fault.OpenFault.TheVariants.{NotAJournal, Version, Damaged, DiskFault, Memory}

-- A fault of the disk tells its counts, and NotAJournal what the bytes are, where they are told. Where the disk didn't fail, its
-- count is as it was. There is no other fault: the bytes of a header are not read here.
abbrev pub ReadCause : ℕ → ℕ → Bool → List ℕ → OpenFault → Type 0
ReadCause old new honest image NotAJournal = (new ≡ old) × (IsTrue honest → opened_of image ≡ no_journal)
ReadCause old new honest image (Version found) = ⊥
ReadCause old new honest image (Damaged at) = ⊥
ReadCause old new honest image (DiskFault before after) = TellsCounts old before after new
ReadCause old new honest image Memory = new ≡ old

-- the same, and Damaged tells the place of damage after whole records
abbrev pub OpenCause : ℕ → ℕ → Bool → List ℕ → OpenFault → Type 0
OpenCause old new honest image NotAJournal = (new ≡ old) × (IsTrue honest → opened_of image ≡ no_journal)
OpenCause old new honest image (Version found) = ⊥
OpenCause old new honest image (Damaged at) = (new ≡ old) × (IsTrue honest → (all : List (List ℕ)) × (opened_of image ≡ cut all at))
OpenCause old new honest image (DiskFault before after) = TellsCounts old before after new
OpenCause old new honest image Memory = new ≡ old

-- a file was opened: it holds the first of these as header and the others as records
pub record IsOpened {D : Type 0} (honest : D → Bool) (reads : D → List ℕ) (may_leave : D → List ℕ → Type 0) (file : JFile D) (all : List (List ℕ)) : Type 0 where
  pub head : List ℕ
  pub records : List (List ℕ)
  pub all_is : all ≡ head ∷ records
  pub settled : IsSettled honest reads may_leave file head records

-- the disk after an ending
abbrev pub disk_in : {D : Type 0} → Ending D → D
disk_in (ending.Open file) = file.disk
disk_in (ending.Damaged disk at) = disk

-- what the bytes are that end so after these records
abbrev pub reading_in : {D : Type 0} → List (List ℕ) → Ending D → Reading
reading_in all (ending.Open file) = whole all
reading_in all (ending.Damaged disk at) = cut all at

-- an open file holds the records that were read
abbrev pub IsOpenEnding : {D : Type 0} → (D → Bool) → (D → List ℕ) → (D → List ℕ → Type 0) → List (List ℕ) → Ending D → Type 0
IsOpenEnding honest reads may_leave all (ending.Open file) = IsOpened honest reads may_leave file all
IsOpenEnding honest reads may_leave all (ending.Damaged disk at) = Unit {0}

-- a file was opened by so many calls as show its bytes up to its closed gate
abbrev pub OpensByCalls : {D : Type 0} → (D → ℕ → Option Bool) → ℕ → D → Ending D → Type 0
OpensByCalls plan piece old (ending.Open file) = CallsMade (calls_to_open piece file.end) (plan old) (plan file.disk)
OpensByCalls plan piece old (ending.Damaged disk at) = Unit {0}
