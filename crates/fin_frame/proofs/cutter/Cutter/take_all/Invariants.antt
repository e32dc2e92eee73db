use Rattle.std.proofs.Common.{◌≡◌, ◌+◌, ◌++◌, ℕ, List, length, None}
use Rattle.fin_frame.specs.inner.Machine.{run, state_of}
use Rattle.fin_frame.proofs.cutter.Cutter.take_all.Given as goal

abbrev pub invariant-loop-rest : goal.invariant-loop-rest
invariant-loop-rest l = record {
  sound : l.self.failed ≡ None;
  size : l.self.fed + length l.rest ≡ l.fn.self.fed + length l.piece;
  come : (taken : List ℕ) × (l.piece ≡ taken ++ l.rest) × (state_of l.self l.out ≡ run (state_of l.fn.self l.fn.out) taken);
  later : run (state_of l.self l.out) l.rest ≡ run (state_of l.fn.self l.fn.out) l.piece;
}

abbrev pub decreases-loop-rest : goal.decreases-loop-rest
decreases-loop-rest l = length l.rest
