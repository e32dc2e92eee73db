use Rattle.std.proofs.Common.{◌≡◌, ◌++◌, take}
use Rattle.std.specs.List.{flat_map}
use Rattle.desk_page.specs.AccountTable.{ccy_table}
use Rattle.desk_page.specs.inner.Books.{chart_in, entries_in}
use Rattle.desk_page.proofs.account_table.put_tables.Given as goal

-- the tables so far
abbrev pub invariant-loop-ccy : goal.invariant-loop-ccy
invariant-loop-ccy l = l.out ≡ l.fn.out ++ flat_map (ccy_table (chart_in l.fn.books) (entries_in l.fn.books)) (take l.ccy-index l.ccys)
