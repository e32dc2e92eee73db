-- What packets that arrive make of the records that are held.
use Rattle.std.specs.Prelude.{ℕ, List}
use Rattle.standby.specs.declared.packet.Packet.{Packet}
use Rattle.standby.specs.Shipping.{shipped, IsFrontOf, AreSentBy}

-- whoever holds a front of a leader's records holds a front of them after packets of that leader, and all that it held
abbrev pub ShippedIsFront : Type 0
ShippedIsFront = (leader held : List (List ℕ)) (packets : List Packet) → IsFrontOf held leader → AreSentBy leader packets →
    IsFrontOf (shipped held packets) leader × IsFrontOf held (shipped held packets)
