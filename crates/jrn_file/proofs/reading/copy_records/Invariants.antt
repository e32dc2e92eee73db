use Rattle.std.proofs.Common.{◌≡◌, ◌≤◌, ◌-◌, ◌++◌, ℕ, List, drop, length}
use Rattle.jrn_file.specs.inner.Pieces.{AreTakenOff}
use Rattle.jrn_file.proofs.reading.copy_records.Given as goal

abbrev pub invariant-loop-alloc : goal.invariant-loop-alloc
invariant-loop-alloc l = record {
  within : l.at ≤ length l.bytes;
  taken : (more : List (List ℕ)) × (l.records.items ≡ l.initial.records.items ++ more) × AreTakenOff l.bytes more (drop l.at l.bytes);
}

abbrev pub decreases-loop-alloc : goal.decreases-loop-alloc
decreases-loop-alloc l = length l.bytes - l.at
