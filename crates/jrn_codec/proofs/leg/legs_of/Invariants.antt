use Rattle.std.proofs.Common.{◌≡◌, ◌-◌}
use Rattle.jrn_codec.specs.inner.Reading.{items_at}
use Rattle.jrn_codec.specs.inner.RecordReading.{leg_at}
use Rattle.jrn_codec.proofs.Loop.{with_front}
use Rattle.jrn_codec.proofs.leg.legs_of.Given as goal

abbrev pub invariant-loop : goal.invariant-loop
invariant-loop l = with_front l.legs (items_at leg_at (l.count - l.counter) l.rest) ≡ items_at leg_at l.count l.bytes
