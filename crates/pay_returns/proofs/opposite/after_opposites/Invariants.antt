use Rattle.std.proofs.Common.{◌≡◌, drop, map}
use Rattle.pay_returns.specs.Equal.{is_leg}
use Rattle.pay_returns.specs.Opposite.{on_side, opposite_leg}
use Rattle.pay_returns.specs.inner.Texts.{after_all}
use Rattle.pay_returns.proofs.opposite.after_opposites.Given as goal

-- the opposites of the legs so far stand in front of the rest
abbrev pub invariant-loop-k : goal.invariant-loop-k
invariant-loop-k l =
    after_all is_leg (map (opposite_leg l.place) (on_side l.side l.of)) l.legs ≡ after_all is_leg (map (opposite_leg l.place) (on_side l.side (drop l.k l.of))) l.rest
