use Rattle.std.proofs.Common.{◌≡◌, take}
use Rattle.fin_fields.proofs.lending.lend_fields.Given as goal

-- the fields so far
abbrev pub invariant-loop-f : goal.invariant-loop-f
invariant-loop-f l = l.lent ≡ take l.f-index l.fields
