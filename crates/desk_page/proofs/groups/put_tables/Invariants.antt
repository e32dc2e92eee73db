use Rattle.std.proofs.Common.{◌≡◌, ◌++◌, take}
use Rattle.std.specs.List.{flat_map}
use Rattle.desk_page.specs.inner.Books.{chart_in, entries_in}
use Rattle.desk_page.specs.Messages.{group_table}
use Rattle.desk_page.proofs.groups.put_tables.Given as goal

-- the tables so far
abbrev pub invariant-loop-group : goal.invariant-loop-group
invariant-loop-group l =
    l.out ≡ l.fn.out ++ flat_map (group_table (chart_in l.fn.books) (entries_in l.fn.books) l.rows) (take l.group-index l.groups)
