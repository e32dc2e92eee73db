use Rattle.std.proofs.Common.{◌≡◌, ◌-◌, ◌≤◌, ◌++◌, drop}
use Rattle.day_model.specs.Chart.{accounts_of}
use Rattle.corr_report.specs.Lines.{numbered}
use Rattle.corr_top.specs.Statements.{pages_sent, sent_statements}
use Rattle.corr_top.proofs.Printing.{AreSoFar}
use Rattle.corr_top.proofs.statements.statements.Given as goal

-- what is still to be added, and that the statements so far are as they are to be
abbrev pub invariant-loop-n : goal.invariant-loop-n
invariant-loop-n l = record {
  from_one : 1 ≤ l.n;
  rest : sent_statements l.owners l.a l.h.entries l.day ≡ l.out ++ numbered (pages_sent l.owners l.a l.h.entries l.day) l.n (drop (l.n - 1) (accounts_of l.a));
  valid : AreSoFar l.owners l.a l.h.entries l.day l.n;
}
