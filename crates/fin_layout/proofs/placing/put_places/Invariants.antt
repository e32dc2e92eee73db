use Rattle.std.proofs.Common.{◌≡◌, ◌≤◌, length}
use Rattle.fin_layout.proofs.PlacedSoFar.{PlacedSoFar}
use Rattle.fin_layout.proofs.placing.put_places.Given as goal

-- the places of the fields so far
abbrev pub invariant-loop-f : goal.invariant-loop-f
invariant-loop-f l = record {
  within : l.free ≤ length l.order;
  placed : PlacedSoFar l.order l.fields l.f-index l.free l.found;
  count : length l.found ≡ l.f-index;
}
