use Rattle.std.proofs.Common.{◌≡◌, ◌∷◌}
use Rattle.standby.proofs.Numbered.{packets_to}
use Rattle.standby.proofs.shipping.packets.Given as goal

abbrev pub invariant-loop-number : goal.invariant-loop-number
invariant-loop-number l = l.packets.items ≡ packets_to (l.head ∷ l.recs) l.from l.number
