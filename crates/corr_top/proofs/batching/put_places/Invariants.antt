use Rattle.std.proofs.Common.{◌≡◌, ◌≤◌, length, map, take, vec_capacity}
use Rattle.corr_top.specs.inner.Batching.{behind}
use Rattle.corr_top.proofs.batching.put_places.Given as goal

-- so many places were put
abbrev pub invariant-loop-place : goal.invariant-loop-place
invariant-loop-place l = record {
  put : map (behind l.begin) l.places.items ≡ take l.place-index l.at;
  count : length l.places.items ≡ l.place-index;
  room : length l.at ≤ vec_capacity l.places;
}
