use Rattle.std.proofs.Common.{◌≡◌}
use Rattle.corr_books.specs.inner.Taking.{AreMade}
use Rattle.corr_books.proofs.seating.make_passes.Given as goal

abbrev pub invariant-loop-i : goal.invariant-loop-i
invariant-loop-i l = AreMade l.initial.writer l._i l.passes.items × (l.writer ≡ record l.initial.writer { made = l._i })
