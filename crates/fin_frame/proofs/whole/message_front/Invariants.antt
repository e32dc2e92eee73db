use Rattle.std.proofs.Common.{◌≤◌, ◌-◌, length, take}
use Rattle.fin_frame.specs.File.{IsMessageTo}
use Rattle.fin_frame.proofs.whole.message_front.Given as goal

abbrev pub invariant-loop-len : goal.invariant-loop-len
invariant-loop-len l = record {
  most : l.len ≤ length l.bytes;
  message : IsMessageTo 0 (take l.len l.bytes);
}

abbrev pub decreases-loop-len : goal.decreases-loop-len
decreases-loop-len l = length l.bytes - l.len
