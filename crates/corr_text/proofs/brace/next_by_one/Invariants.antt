use Rattle.std.proofs.Common.{◌≤◌, ◌-◌, length}
use Rattle.corr_text.proofs.Braces.{NoBrace}
use Rattle.corr_text.proofs.brace.next_by_one.Given as goal

abbrev pub invariant-loop-at : goal.invariant-loop-at
invariant-loop-at l = record {
  least : l.from ≤ l.at;
  most : l.at ≤ length l.text;
  first : NoBrace l.text l.from l.at;
}

abbrev pub decreases-loop-at : goal.decreases-loop-at
decreases-loop-at l = length l.text - l.at
