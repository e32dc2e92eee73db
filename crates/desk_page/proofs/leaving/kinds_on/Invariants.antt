use Rattle.std.proofs.Common.{◌≡◌, ◌-◌, ◌++◌, drop}
use Rattle.desk_page.specs.inner.Books.{entries_in}
use Rattle.desk_page.specs.Leaving.{leaving}
use Rattle.desk_page.proofs.leaving.kinds_on.Given as goal

-- with the kinds of the entries that are left they become those of all entries
abbrev pub invariant-loop-place : goal.invariant-loop-place
invariant-loop-place l = l.kinds.items ++ leaving l.fn.day (drop (l.place - 1) (entries_in l.fn.books)) ≡ leaving l.fn.day (entries_in l.fn.books)
