use Rattle.std.proofs.Common.{◌≡◌, ◌++◌, map, take}
use Rattle.desk_page.specs.Leaving.{kind_of}
use Rattle.desk_page.proofs.leaving.push_all.Given as goal

-- the kinds so far
abbrev pub invariant-loop-order : goal.invariant-loop-order
invariant-loop-order l = l.kinds.items ≡ l.fn.kinds.items ++ map kind_of (take l.order-index l.orders)
