use Rattle.std.proofs.Common.{◌≡◌, ◌++◌, take}
use Rattle.advices.proofs.pass.push_all.Given as goal

-- the fields so far
abbrev pub invariant-loop-f : goal.invariant-loop-f
invariant-loop-f l = l.out ≡ l.fn.out ++ take l.f-index l.fields
