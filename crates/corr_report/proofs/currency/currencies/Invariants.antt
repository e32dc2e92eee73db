use Rattle.std.proofs.Common.{◌≡◌, ◌-◌, ◌≤◌, [], drop}
use Rattle.day_model.specs.Chart.{accounts_of}
use Rattle.std.specs.List.{All}
use Rattle.corr_report.specs.Totals.{currencies_of}
use Rattle.corr_report.proofs.currency.currencies.Given as goal

-- with the accounts that are left the currencies become those of all accounts
abbrev pub invariant-loop-n : goal.invariant-loop-n
invariant-loop-n l =
    (currencies_of l.units.items (drop (l.n - 1) (accounts_of l.a)) ≡ currencies_of [] (accounts_of l.a)) × All (λ unit. unit.decimals ≤ 4) l.units.items
