use Rattle.std.proofs.Common.{◌≡◌, ◌+◌, ◌-◌, drop}
use Rattle.day_model.specs.Chart.{accounts_of}
use Rattle.corr_report.specs.inner.Totals.{part_at, sum_over}
use Rattle.corr_report.proofs.turnover.sum_of.Given as goal

-- with the accounts that are left the sum becomes that of all accounts
abbrev pub invariant-loop-n : goal.invariant-loop-n
invariant-loop-n l =
    l.sum + sum_over (part_at l.side l.pairs) l.ccy l.n (drop (l.n - 1) (accounts_of l.a)) ≡ sum_over (part_at l.side l.pairs) l.ccy 1 (accounts_of l.a)
