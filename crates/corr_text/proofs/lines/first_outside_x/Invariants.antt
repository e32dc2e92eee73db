use Rattle.std.proofs.Common.{◌≤◌, ◌-◌, length}
use Rattle.corr_text.proofs.Plain.{PlainTo}
use Rattle.corr_text.proofs.lines.first_outside_x.Given as goal

abbrev pub invariant-loop-at : goal.invariant-loop-at
invariant-loop-at l = record {
  most : l.at ≤ length l.text;
  plain : PlainTo l.text l.at;
}

abbrev pub decreases-loop-at : goal.decreases-loop-at
decreases-loop-at l = length l.text - l.at
