-- What stands on a disk before a journal is made on it.
use Rattle.std.specs.Prelude.{◌≡◌, ◌⊎◌, ℕ, ◌+◌, ◌<◌, ◌≤◌, List, [], ◌∷◌, length, take}
use Rattle.corr_disk.specs.Disk.{written, Torn, most_disk_bytes}
use Rattle.jrn_file.specs.declared.making.Front.{Front}
use Rattle.jrn_file.specs.declared.making.Front.TheVariants.{Short, Closed, Open}
use Rattle.jrn_file.specs.declared.making_with.Refusal.{Refusal}
use Rattle.jrn_file.specs.declared.making_with.Refusal.TheVariants.{Other, TooLong}
use Rattle.jrn_file.specs.Making.{IsOther}

-- what was seen in front
abbrev pub IsFront : Front → List ℕ → Type 0
IsFront Short bytes = length bytes ≤ 1
IsFront Closed bytes = (1 < length bytes) × (take 1 bytes ≡ 0 ∷ [])
IsFront (Open first) bytes = IsOther bytes first

-- the calls that show it: the length, and the first byte where there is more than one
abbrev pub calls_to_look : Front → ℕ
calls_to_look Short = 1
calls_to_look Closed = 2
calls_to_look (Open first) = 2

-- why nothing is made: something else stands there, or the journal has more bytes than a disk, which is as it was
abbrev pub Refuses : Type 0 → List ℕ → ℕ → Type 0 → Refusal → Type 0
Refuses told bytes size untouched (Other first) = told → IsOther bytes first
Refuses told bytes size untouched TooLong = (most_disk_bytes < size) × untouched

-- Within an entry at a gate: the frame is being written after it, or the gate before the whole frame.
abbrev pub IsEntering : ℕ → List ℕ → List ℕ → List ℕ → Type 0
IsEntering gate frame bytes image =
    Torn (gate + 1) (length frame) bytes image ⊎ Torn gate 1 (written (gate + 1) frame bytes) image
