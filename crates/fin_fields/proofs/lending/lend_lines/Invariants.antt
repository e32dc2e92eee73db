use Rattle.std.proofs.Common.{◌≡◌, take}
use Rattle.fin_fields.proofs.lending.lend_lines.Given as goal

-- the lines so far
abbrev pub invariant-loop-text : goal.invariant-loop-text
invariant-loop-text l = l.lines ≡ take l.text-index l.texts
