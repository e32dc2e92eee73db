use Rattle.std.proofs.Common.{◌≡◌, ◌++◌, take}
use Rattle.std.specs.Prelude.{codes}
use Rattle.std.specs.List.{flat_map}
use Rattle.advices.specs.Fields.{is_named, kept}
use Rattle.advices.proofs.transfer.push_charges.Given as goal

-- the charges so far
abbrev pub invariant-loop-f : goal.invariant-loop-f
invariant-loop-f l = l.out ≡ l.fn.out ++ flat_map (kept (is_named 71 (codes "F"))) (take l.f-index l.fields)
