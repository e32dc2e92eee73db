use Rattle.std.proofs.Common.{◌≡◌, All, Some, take}
use Rattle.day_model.specs.Totals.{pair_at}
use Rattle.acct_locks.specs.Holdings.{held_totals}
use Rattle.jrn_book.proofs.settling.agree_all.Given as goal

abbrev pub invariant-loop-leg : goal.invariant-loop-leg
invariant-loop-leg g l =
    All (λ leg. pair_at l.initial.sides.pairs leg.account.0 ≡ Some (held_totals (g.H.Holder.held l.initial.held) leg.account.0)) (take l.leg-index l.legs)
    × (g.H.Holder.held l.held ≡ g.H.Holder.held l.initial.held) × (g.H.Holder.table l.held ≡ g.H.Holder.table l.initial.held)
    × (g.H.Holder.count l.held ≡ g.H.Holder.count l.initial.held) × (l.sides ≡ l.initial.sides)
