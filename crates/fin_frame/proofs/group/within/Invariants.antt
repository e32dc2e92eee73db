use Rattle.std.proofs.Common.{◌≡◌, ◌≤◌, ◌+◌, ◌-◌, length, take, Some}
use Rattle.fin_frame.specs.File.{left_open}
use Rattle.fin_frame.proofs.group.within.Given as goal

abbrev pub invariant-loop-left : goal.invariant-loop-left
invariant-loop-left l = record {
  most : l.len ≤ length l.bytes;
  bound : l.left ≤ l.depth + l.len;
  left : left_open l.depth (take l.len l.bytes) ≡ Some l.left;
}

abbrev pub decreases-loop-left : goal.decreases-loop-left
decreases-loop-left l = length l.bytes - l.len
