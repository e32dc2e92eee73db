use Rattle.std.proofs.Common.{◌≡◌, ◌≤◌, length}
use Rattle.std.specs.Prelude.{is_some}
use Rattle.pay_returns.specs.Returns.{returns_place}
use Rattle.pay_returns.proofs.laws.Tagging.{flipped}
use Rattle.pay_returns.proofs.chain.is_return.Given as goal

-- the first place is a return exactly where the one that was come to is none, after an odd number of steps, or is one, after an even one
abbrev pub invariant-loop-next : goal.invariant-loop-next
invariant-loop-next l = record {
  from : 1 ≤ l.at;
  there : l.at ≤ length l.h.entries;
  same : is_some (returns_place l.a l.h.entries l.place) ≡ flipped l.odd (is_some (returns_place l.a l.h.entries l.at));
}

abbrev pub decreases-loop-next : goal.decreases-loop-next
decreases-loop-next l = l.at
