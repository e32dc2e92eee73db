use Rattle.std.proofs.Common.{◌≡◌, ◌≤◌, ℕ, [], length, take, drop}
use Rattle.std.specs.Io.KnownBytes.{Appends}
use Rattle.corr_top.proofs.writing.write_whole.Given as goal

abbrev pub invariant-loop-rest : goal.invariant-loop-rest
invariant-loop-rest g l = record {
  counted : l.before ≡ g.K.Sink.faults l.fn.sink;
  kept : g.K.Sink.faults l.sink ≡ g.K.Sink.faults l.fn.sink;
  none : l.text ≡ [] → l.sink ≡ l.fn.sink;
  part : (n : ℕ) × (n ≤ length l.text) × (l.rest ≡ drop n l.text) × Appends (g.K.Sink.held l.fn.sink) (g.K.Sink.held l.sink) (take n l.text);
}

abbrev pub decreases-loop-rest : goal.decreases-loop-rest
decreases-loop-rest g l = length l.rest
