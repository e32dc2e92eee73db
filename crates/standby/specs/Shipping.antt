-- What packets that arrive make of the records that are held.
use Rattle.std.specs.Prelude.{◌≡◌, ℕ, ◌+◌, ◌-◌, ◌==◌, All, List, [], ◌∷◌, ◌++◌, length, nat_lt, slice_get, Option, Some, None, if◌then◌else◌}
use Rattle.standby.specs.declared.packet.Packet.{Packet}

-- a packet whose number is one more than the records held adds its record, and every other packet changes nothing
abbrev pub taken_in : List (List ℕ) → Packet → List (List ℕ)
taken_in held packet = if packet.number == length held + 1 then held ++ packet.body ∷ [] else held

-- the records that are held after packets, one after another
abbrev pub shipped : List (List ℕ) → List Packet → List (List ℕ)
shipped held [] = held
shipped held (packet ∷ packets) = shipped (taken_in held packet) packets

-- the item with a number, which count from 1
abbrev pub nth : {A : Type 0} → List A → ℕ → Option A
nth items n = if nat_lt 0 n then slice_get items (n - 1) else None

-- one list is the front of another
abbrev pub IsFrontOf : List (List ℕ) → List (List ℕ) → Type 0
IsFrontOf front whole = (rest : List (List ℕ)) × (whole ≡ front ++ rest)

-- the packet is of one of these records
abbrev pub IsSentBy : List (List ℕ) → Packet → Type 0
IsSentBy leader packet = nth leader packet.number ≡ Some packet.body

-- each packet is
abbrev pub AreSentBy : List (List ℕ) → List Packet → Type 0
AreSentBy leader packets = All (IsSentBy leader) packets
