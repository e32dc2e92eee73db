use Rattle.std.proofs.Common.{◌≡◌, take}
use Rattle.fin_fields.proofs.field_lines.listed.Given as goal

-- the lines so far
abbrev pub invariant-loop-known : goal.invariant-loop-known
invariant-loop-known l = l.all ≡ take l.known-index l.few
