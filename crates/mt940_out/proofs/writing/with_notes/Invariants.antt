use Rattle.std.proofs.Common.{◌≡◌, ◌++◌, ◌≤◌, drop}
use Rattle.mt940_out.specs.Writing.{with_notes}
use Rattle.mt940_out.proofs.writing.with_notes.Given as goal

-- the fields so far with their notes, and the others with what is left of these
abbrev pub invariant-loop-f : goal.invariant-loop-f
invariant-loop-f l = record {
  all : with_notes l.notes l.fields ≡ l.all ++ with_notes (drop l.next l.notes) (drop l.f-index l.fields);
  few : l.next ≤ l.f-index;
}
