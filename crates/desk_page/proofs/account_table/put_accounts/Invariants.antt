use Rattle.std.proofs.Common.{◌≡◌, ◌-◌, ◌++◌, take}
use Rattle.corr_report.specs.Lines.{numbered}
use Rattle.day_model.specs.Chart.{accounts_of}
use Rattle.desk_page.specs.AccountTable.{line_of}
use Rattle.desk_page.specs.inner.Books.{chart_in, entries_in}
use Rattle.desk_page.proofs.account_table.put_accounts.Given as goal

-- the rows so far
abbrev pub invariant-loop-n : goal.invariant-loop-n
invariant-loop-n l = l.out ≡ l.fn.out ++ numbered (line_of (chart_in l.fn.books) (entries_in l.fn.books) l.fn.ccy) 1 (take (l.n - 1) (accounts_of (chart_in l.fn.books)))
