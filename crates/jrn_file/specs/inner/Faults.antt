-- The causes of faults.
use Rattle.std.specs.Prelude.{◌≡◌, ℕ}
use Rattle.corr_text.specs.Faults.{Rose}
use Rattle.jrn_file.specs.declared.loading.LoadFault.{LoadFault}
use Rattle.jrn_file.specs.declared.loading.LoadFault.TheVariants as load

-- a fault of the disk raised its count by one, and all else left it
abbrev pub LoadCause : ℕ → ℕ → LoadFault → Type 0
LoadCause before now load.Disk = Rose before now
LoadCause before now load.NotAJournal = now ≡ before
LoadCause before now (load.Cut at records) = now ≡ before
LoadCause before now load.Memory = now ≡ before
