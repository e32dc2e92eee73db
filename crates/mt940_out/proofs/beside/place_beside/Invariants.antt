use Rattle.std.proofs.Common.{◌≡◌, ◌+◌, drop, false}
use Rattle.mt940_out.specs.inner.Faults.{place_beside}
use Rattle.mt940_out.proofs.beside.place_beside.Given as goal

abbrev pub invariant-loop-at : goal.invariant-loop-at
invariant-loop-at l = place_beside false l.fields l.ahead ≡ l.at + place_beside l.behind (drop l.at l.fields) l.left
