use Rattle.std.proofs.Common.{◌≡◌, ◌≤◌, length, take}
use Rattle.fin_fields.proofs.line.refill_lines.Given as goal

-- as many texts as were seen are the lines so far
abbrev pub invariant-loop-at : goal.invariant-loop-at
invariant-loop-at l = record { written : take l.at l.copies ≡ take l.at l.lines; within : l.at ≤ length l.copies }
