use Rattle.std.proofs.Common.{◌≤◌, length}
use Rattle.fin_frame.proofs.WholeFile.{HasCome}
use Rattle.fin_frame.proofs.whole.cut_whole.Given as goal

abbrev pub invariant-loop-rest : goal.invariant-loop-rest
invariant-loop-rest l = record {
  few : length l.messages ≤ l.most;
  come : HasCome l.file l.rest l.messages;
}

abbrev pub decreases-loop-rest : goal.decreases-loop-rest
decreases-loop-rest l = length l.rest
