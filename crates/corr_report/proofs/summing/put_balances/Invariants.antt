use Rattle.std.proofs.Common.{◌≡◌, ◌-◌, ◌++◌, take}
use Rattle.day_model.specs.Chart.{accounts_of}
use Rattle.day_model.specs.Balance.{balance_of}
use Rattle.corr_report.specs.Lines.{numbered}
use Rattle.corr_report.specs.Summary.{balance_line}
use Rattle.corr_report.proofs.summing.put_balances.Given as goal

-- the lines so far
abbrev pub invariant-loop-n : goal.invariant-loop-n
invariant-loop-n l = l.out ≡ l.fn.out ++ numbered (λ n. balance_line (balance_of l.a l.h.entries n)) 1 (take (l.n - 1) (accounts_of l.a))
