use Rattle.std.proofs.Common.{◌≡◌, ◌+◌, ◌≤◌, ◌++◌, length, map, vec_capacity}
use Rattle.corr_top.specs.inner.Batching.{ask_of}
use Rattle.corr_top.specs.Message.{pays_in}
use Rattle.corr_top.proofs.batching.part.Given as goal

abbrev pub invariant-loop-reading : goal.invariant-loop-reading
invariant-loop-reading l = record {
  asks : l.asks.items ++ map ask_of l.reading-iterator.rest.items ≡ map ask_of l.fn.readings.items;
  pays : l.pays.items ++ pays_in l.reading-iterator.rest.items ≡ pays_in l.fn.readings.items;
  asks_room : length l.asks.items + length l.reading-iterator.rest.items ≤ vec_capacity l.asks;
  pays_room : length l.pays.items + length l.reading-iterator.rest.items ≤ vec_capacity l.pays;
}
