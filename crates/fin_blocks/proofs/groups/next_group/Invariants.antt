use Rattle.std.proofs.Common.{◌≤◌, ◌-◌, length}
use Rattle.fin_blocks.proofs.Cutting.{IsOpen}
use Rattle.fin_blocks.proofs.groups.next_group.Given as goal

-- the bytes passed are the front of a group that is still open
abbrev pub invariant-loop-at : goal.invariant-loop-at
invariant-loop-at l = record {
  most : l.at ≤ length l.bytes;
  still : IsOpen l.bytes l.at l.depth;
}

abbrev pub decreases-loop-at : goal.decreases-loop-at
decreases-loop-at l = length l.bytes - l.at
