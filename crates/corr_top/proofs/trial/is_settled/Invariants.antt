use Rattle.std.proofs.Common.{◌≤◌}
use Rattle.corr_top.proofs.Trying.{AreSettledTo}
use Rattle.corr_top.proofs.trial.is_settled.Given as goal

-- the accounts so far stay within their limits
abbrev pub invariant-loop-n : goal.invariant-loop-n
invariant-loop-n l = record {
  from_one : 1 ≤ l.n;
  settled : AreSettledTo l.n l.a l.h.entries;
}
