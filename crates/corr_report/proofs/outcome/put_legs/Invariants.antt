use Rattle.std.proofs.Common.{◌≡◌, ◌++◌, take}
use Rattle.std.specs.List.{flat_map}
use Rattle.corr_report.specs.Bookings.{leg_words}
use Rattle.corr_report.specs.Lines.{spaced}
use Rattle.corr_report.proofs.outcome.put_legs.Given as goal

-- the legs so far
abbrev pub invariant-loop-leg : goal.invariant-loop-leg
invariant-loop-leg l = l.out ≡ l.fn.out ++ spaced (flat_map (leg_words l.a) (take l.leg-index l.leg-items))
