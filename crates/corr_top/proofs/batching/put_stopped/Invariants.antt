use Rattle.std.proofs.Common.{◌≡◌, ◌++◌, vec_capacity}
use Rattle.corr_top.specs.inner.Batching.{stopped_so}
use Rattle.corr_top.proofs.batching.put_stopped.Given as goal

abbrev pub invariant-loop-at : goal.invariant-loop-at
invariant-loop-at l = (l.made.items ≡ l.initial.made.items ++ stopped_so l._at l.why) × (vec_capacity l.made ≡ vec_capacity l.initial.made)
