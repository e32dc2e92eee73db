-- Packets: the records of a journal as they travel.
use Rattle.std.specs.Prelude.{◌≡◌, ℕ, ◌+◌, ◌-◌, ◌<◌, ◌^◌, List, [], ◌∷◌, ◌++◌, length, take, drop}
use Rattle.std.specs.Int.{w32, to_be_bytes}
use Rattle.jrn_file.specs.Reading.{with_length}

-- the packet of a record: its number in four bytes, its length in four, and the record
abbrev pub packet_of : ℕ → List ℕ → List ℕ
packet_of number r = to_be_bytes w32 number ++ with_length r

-- the packet of this record stands in front of the bytes, and then the rest
pub record BeginsWithPacket (bytes : List ℕ) (number : ℕ) (r rest : List ℕ) : Type 0 where
  pub few : number < 2 ^ 32
  pub short : length r < 2 ^ 32
  pub is : bytes ≡ packet_of number r ++ rest

-- the bytes are the packet of this record
abbrev pub IsPacket : List ℕ → ℕ → List ℕ → Type 0
IsPacket bytes number r = BeginsWithPacket bytes number r []

-- they aren't one whole packet
abbrev pub IsNoPacket : List ℕ → Type 0
IsNoPacket bytes = (number : ℕ) (r : List ℕ) → IsPacket bytes number r → ⊥

-- the packets of records, of which the first has this number
abbrev pub packets_from : ℕ → List (List ℕ) → List (List ℕ)
packets_from number [] = []
packets_from number (r ∷ records) = packet_of number r ∷ packets_from (number + 1) records

-- of records that are numbered from 1, the packets of those from one number to another that there are
abbrev pub packets_of : List (List ℕ) → ℕ → ℕ → List (List ℕ)
packets_of records from until = packets_from from (take (until + 1 - from) (drop (from - 1) records))
