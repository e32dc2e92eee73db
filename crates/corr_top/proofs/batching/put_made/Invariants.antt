use Rattle.std.proofs.Common.{◌≡◌, ◌+◌, ◌≤◌, ◌++◌, length, vec_capacity}
use Rattle.corr_top.specs.inner.Batching.{halted_by, made_by}
use Rattle.corr_top.proofs.batching.put_made.Given as goal

abbrev pub invariant-loop-ask : goal.invariant-loop-ask
invariant-loop-ask l = record {
  made : l.made.items ++ made_by l.ask-iterator.rest.items l.left ≡ made_by l.fn.asks.items l.answers;
  halted : halted_by l.ask-iterator.rest.items l.left ≡ halted_by l.fn.asks.items l.answers;
  room : length l.made.items + length l.ask-iterator.rest.items ≤ vec_capacity l.made;
  capacity : vec_capacity l.made ≡ vec_capacity l.initial.made;
}
