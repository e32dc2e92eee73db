use Rattle.std.proofs.Common.{◌≡◌, reverse, vec_len}
use Rattle.jrn_book.proofs.Settled.{IsSettling}
use Rattle.jrn_book.proofs.settling.settle_all.Given as goal

abbrev pub invariant-loop-e : goal.invariant-loop-e
invariant-loop-e g l =
    IsSettling l.a l.initial.history.entries (reverse l.initial.rest.items) (g.H.Holder.held l.initial.held) l.rest.items l.history.spare l.history.entries (g.H.Holder.held l.held) l.sides.pairs
    × (g.H.Holder.table l.held ≡ g.H.Holder.table l.initial.held) × (g.H.Holder.count l.held ≡ g.H.Holder.count l.initial.held)
    × (l.sides ≡ record l.initial.sides { pairs = l.sides.pairs })

abbrev pub decreases-loop-e : goal.decreases-loop-e
decreases-loop-e g l = vec_len l.rest
