use Rattle.std.proofs.Common.{◌≡◌, ◌++◌, take}
use Rattle.std.specs.List.{flat_map}
use Rattle.advices.specs.Fields.{kept}
use Rattle.advices.specs.Transfer.{is_passed_on}
use Rattle.advices.proofs.transfer.push_instructions.Given as goal

-- the instructions so far
abbrev pub invariant-loop-f : goal.invariant-loop-f
invariant-loop-f l = l.out ≡ l.fn.out ++ flat_map (kept (is_passed_on l.has_56 l.has_57)) (take l.f-index l.fields)
