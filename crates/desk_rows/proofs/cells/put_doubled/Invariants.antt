use Rattle.std.proofs.Common.{◌≡◌, ◌++◌, take}
use Rattle.std.specs.List.{flat_map}
use Rattle.desk_rows.specs.Csv.{doubled}
use Rattle.desk_rows.proofs.cells.put_doubled.Given as goal

-- the bytes so far
abbrev pub invariant-loop-b : goal.invariant-loop-b
invariant-loop-b l = l.out ≡ l.fn.out ++ flat_map doubled (take l.b-index l.text)
