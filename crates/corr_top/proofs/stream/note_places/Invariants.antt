use Rattle.std.proofs.Common.{◌≡◌, ◌+◌, ◌≤◌, ◌++◌, length, map, take, vec_capacity}
use Rattle.corr_top.specs.inner.Batching.{behind}
use Rattle.corr_top.proofs.stream.note_places.Given as goal

-- so many places were put behind the others
abbrev pub invariant-loop-place : goal.invariant-loop-place
invariant-loop-place l = record {
  put : l.places.items ≡ l.initial.places.items ++ map (behind l.begin) (take l.place-index l.found);
  room : length l.initial.places.items + length l.found ≤ vec_capacity l.places;
}
