use Rattle.std.proofs.Common.{◌≡◌, ◌++◌, ◌≤◌, drop, length}
use Rattle.mt940_out.specs.Order.{fields_beside, without_notes}
use Rattle.mt940_out.proofs.beside.fields_beside.Given as goal

-- the fields so far, and what is left of the others
abbrev pub invariant-loop-f : goal.invariant-loop-f
invariant-loop-f l = record {
  all : fields_beside l.fields ≡ l.beside ++ without_notes l.behind (drop l.f-index l.fields);
  few : length l.beside ≤ l.f-index;
}
