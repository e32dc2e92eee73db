use Rattle.std.proofs.Common.{◌≡◌, ◌+◌, ◌≤◌, ◌++◌, length, vec_capacity}
use Rattle.corr_top.specs.inner.Batching.{all_made}
use Rattle.corr_top.proofs.batching.put_all.Given as goal

abbrev pub invariant-loop-made : goal.invariant-loop-made
invariant-loop-made l = record {
  each : l.served.items ++ all_made l.made-iterator.rest.items ≡ all_made l.fn.replies.items;
  room : length l.served.items + length (all_made l.made-iterator.rest.items) ≤ vec_capacity l.served;
}
