use Rattle.std.proofs.Common.{◌≡◌, ◌-◌, drop, map}
use Rattle.indexmap.specs.IndexSet.{insert_all}
use Rattle.day_model.specs.Chart.{accounts_of, is_same_ccy}
use Rattle.desk_page.specs.AccountTable.{ccys_of}
use Rattle.desk_page.proofs.account_table.currencies.Given as goal

-- with the accounts that are left the currencies become those of all accounts
abbrev pub invariant-loop-n : goal.invariant-loop-n
invariant-loop-n l = insert_all is_same_ccy l.seen.items (map (λ account. account.ccy) (drop (l.n - 1) (accounts_of l.a))) ≡ ccys_of (accounts_of l.a)
