use Rattle.std.proofs.Common.{◌≡◌, ◌-◌, ◌≤◌, ◌++◌, drop, length}
use Rattle.corr_top.specs.inner.Batching.{messages_in}
use Rattle.corr_top.proofs.batching.share_out.Given as goal

-- so many messages were dealt
abbrev pub invariant-loop-at : goal.invariant-loop-at
invariant-loop-at g l = record {
  dealt : messages_in l.batches.items ++ drop l.at l.messages ≡ l.messages;
  within : l.at ≤ length l.messages;
}

abbrev pub decreases-loop-at : goal.decreases-loop-at
decreases-loop-at g l = length l.messages - l.at
