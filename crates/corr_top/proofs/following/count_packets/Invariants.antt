use Rattle.std.proofs.Common.{◌≡◌, ◌+◌, ◌*◌, ◌≤◌, ◌++◌, List, ℕ, length}
use Rattle.standby.specs.declared.packet.Packet.{Packet}
use Rattle.corr_top.specs.Followed.{ArePackets}
use Rattle.corr_top.proofs.following.count_packets.Given as goal

-- the bytes so far are as many packets as were counted, each of eight bytes at least
abbrev pub invariant-loop-after : goal.invariant-loop-after
invariant-loop-after l =
    (front : List ℕ) × (packets : List Packet) × (l.file ≡ front ++ l.rest) × ArePackets front packets × (l.count ≡ length packets) × (l.count * 8 + length l.rest ≤ length l.file)

-- the rest gets shorter
abbrev pub decreases-loop-after : goal.decreases-loop-after
decreases-loop-after l = length l.rest
