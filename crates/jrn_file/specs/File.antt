-- An open journal file.
use Rattle.std.specs.Prelude.{◌≡◌, ℕ, ◌+◌, Bool, IsTrue, List, length}
use Rattle.corr_disk.specs.Disk.{Only}
use Rattle.jrn_file.specs.Journal.{journal_bytes, StandsFor}
use Rattle.jrn_file.specs.declared.file.JFile.{JFile}

-- its disk
abbrev pub disk_of : {D : Type 0} → JFile D → D
disk_of file = file.disk

-- the place of its closed gate
abbrev pub end_of : {D : Type 0} → JFile D → ℕ
end_of file = file.end

-- The file holds this header and these records, its closed gate stands after them, and all of it is on the disk.
pub record IsSettled {D : Type 0} (honest : D → Bool) (reads : D → List ℕ) (may_leave : D → List ℕ → Type 0)
    (file : JFile D) (head : List ℕ) (records : List (List ℕ)) : Type 0 where
  pub stands : IsTrue (honest file.disk) → StandsFor (reads file.disk) head records
  pub durable : IsTrue (honest file.disk) → Only (reads file.disk) (may_leave file.disk)
  pub place : file.end + 1 ≡ length (journal_bytes head records)

-- the file holds some header and records
abbrev pub IsOpen : {D : Type 0} → (D → Bool) → (D → List ℕ) → (D → List ℕ → Type 0) → JFile D → Type 0
IsOpen honest reads may_leave file = (head : List ℕ) × (records : List (List ℕ)) × IsSettled honest reads may_leave file head records
