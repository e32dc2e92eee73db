use Rattle.std.proofs.Common.{◌≡◌, ◌+◌, ◌≤◌, ◌++◌, length, vec_capacity}
use Rattle.corr_top.proofs.batching.put_list.Given as goal

abbrev pub invariant-loop-one : goal.invariant-loop-one
invariant-loop-one l = record {
  each : l.served.items ++ l.one-iterator.rest.items ≡ l.initial.served.items ++ l.fn.each.items;
  room : length l.served.items + length l.one-iterator.rest.items ≤ vec_capacity l.served;
  capacity : vec_capacity l.served ≡ vec_capacity l.initial.served;
}
