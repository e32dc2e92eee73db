use Rattle.std.proofs.Common.{◌≡◌, ◌++◌, drop}
use Rattle.mt940_out.specs.Order.{notes_of}
use Rattle.mt940_out.proofs.beside.notes_of.Given as goal

abbrev pub invariant-loop-at : goal.invariant-loop-at
invariant-loop-at l = notes_of l.fields ≡ l.notes ++ notes_of (drop l.at l.fields)
