use Rattle.std.proofs.Common.{◌≡◌, ◌++◌, take}
use Rattle.std.specs.List.{flat_map}
use Rattle.corr_report.specs.Totals.{total_of}
use Rattle.corr_report.proofs.totals.put_totals.Given as goal

-- the lines so far
abbrev pub invariant-loop-unit : goal.invariant-loop-unit
invariant-loop-unit l = l.out ≡ l.fn.out ++ flat_map (total_of l.a l.h.entries) (take l.unit-index l.unit-items)
