use Rattle.std.proofs.Common.{◌<◌, ◌≤◌, ◌-◌, ℕ, length, get_or}
use Rattle.acct_locks.specs.Holdings.{Holding}
use Rattle.acct_locks.proofs.all.HeldAll.place.Given as goal

abbrev pub invariant-loop-low : goal.invariant-loop-low
invariant-loop-low g l =
    let held = l.self-inside.locked.items in
    record {
      some : l.low < l.high;
      within : l.high ≤ length held;
      first : (d : Holding) → (get_or held l.low d).number ≤ l.n;
      rest : (k : ℕ) (d : Holding) → l.high ≤ k → k < length held → l.n < (get_or held k d).number;
    }

abbrev pub decreases-loop-low : goal.decreases-loop-low
decreases-loop-low g l = l.high - l.low
