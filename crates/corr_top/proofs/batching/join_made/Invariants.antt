use Rattle.std.proofs.Common.{◌≡◌, ◌++◌}
use Rattle.corr_top.specs.inner.Batching.{all_made}
use Rattle.corr_top.proofs.batching.join_made.Given as goal

-- what is put, and what is left of it
abbrev pub invariant-loop-made : goal.invariant-loop-made
invariant-loop-made l = (l.served.items ++ all_made l.made-iterator.rest.items ≡ all_made l.initial.made-iterator.rest.items)
