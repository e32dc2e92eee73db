use Rattle.std.proofs.Common.{◌≡◌, drop}
use Rattle.day_model.specs.CoreLedger.{with_legs}
use Rattle.day_model.specs.inner.CoreLedger.{CanAddAll}
use Rattle.day_model.proofs.core_ledger.add_legs.Given as goal

abbrev pub invariant-loop-leg : goal.invariant-loop-leg
invariant-loop-leg l =
    CanAddAll l.purses.items (drop l.leg-index l.legs) × (with_legs l.purses.items (drop l.leg-index l.legs) ≡ with_legs l.initial.purses.items l.legs)
