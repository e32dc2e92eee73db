use Rattle.std.proofs.Common.{◌≡◌, ◌-◌, ◌++◌, take}
use Rattle.corr_report.specs.Lines.{numbered}
use Rattle.day_model.specs.Chart.{accounts_of}
use Rattle.desk_rows.specs.Balances.{balance_header, row_of}
use Rattle.desk_rows.specs.Until.{entries_until}
use Rattle.desk_rows.proofs.account_rows.balances.Given as goal

-- the rows so far
abbrev pub invariant-loop-n : goal.invariant-loop-n
invariant-loop-n l = l.out ≡ balance_header ++ numbered (row_of l.a (entries_until l.fn.until l.h.entries)) 1 (take (l.n - 1) (accounts_of l.a))
