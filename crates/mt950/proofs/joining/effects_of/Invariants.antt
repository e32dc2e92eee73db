use Rattle.std.proofs.Common.{◌≡◌, ◌*◌, drop, pos, ◌+ℤ◌, neg_ℤ, ◌≤ℤ◌}
use Rattle.corr_money.specs.Amounts.{amount_end}
use Rattle.mt950.specs.Joining.{effects_of}
use Rattle.mt950.proofs.joining.effects_of.Given as goal

-- what the lines add so far, and those that are left
abbrev pub invariant-loop-line : goal.invariant-loop-line
invariant-loop-line l = record {
  whole : effects_of l.lines ≡ l.sum +ℤ effects_of (drop l.line-index l.lines);
  above : neg_ℤ (pos (amount_end * l.line-index)) ≤ℤ l.sum;
  below : l.sum ≤ℤ pos (amount_end * l.line-index);
}
