use Rattle.std.proofs.Common.{◌≤◌, ◌-◌, length, take}
use Rattle.fin_frame.proofs.WholeFile.{EndsGap}
use Rattle.fin_frame.proofs.whole.gap_len.Given as goal

abbrev pub invariant-loop-len : goal.invariant-loop-len
invariant-loop-len l = record {
  most : l.len ≤ length l.bytes;
  come : EndsGap l.marked l.ended (take l.len l.bytes);
}

abbrev pub decreases-loop-len : goal.decreases-loop-len
decreases-loop-len l = length l.bytes - l.len
