use Rattle.std.proofs.Common.{◌≡◌, Some, map, take}
use Rattle.fin_contents.specs.Writing.{line_field}
use Rattle.fin_contents.proofs.fields.push_times.Given as goal

abbrev pub invariant-loop-time : goal.invariant-loop-time
invariant-loop-time l = l.added ≡ map (line_field 13 (Some 67)) (take l.time-index l.times)
