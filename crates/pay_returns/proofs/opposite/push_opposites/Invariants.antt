use Rattle.std.proofs.Common.{◌≡◌, ◌++◌, map, take}
use Rattle.pay_returns.specs.Opposite.{on_side, opposite_leg}
use Rattle.pay_returns.specs.inner.Opposite.{AreByteQuotes}
use Rattle.pay_returns.proofs.opposite.push_opposites.Given as goal

-- the opposites of the legs so far, each of which quotes a byte
abbrev pub invariant-loop-k : goal.invariant-loop-k
invariant-loop-k l = record {
  value : l.out ≡ l.initial.out ++ map (opposite_leg l.place) (on_side l.side (take l.k l.legs));
  bytes : AreByteQuotes (on_side l.side (take l.k l.legs));
}
