use Rattle.std.proofs.Common.{◌≡◌, drop, false}
use Rattle.mt940_out.specs.inner.Faults.{first_bad_note}
use Rattle.mt940_out.proofs.beside.first_bad_note.Given as goal

abbrev pub invariant-loop-at : goal.invariant-loop-at
invariant-loop-at l = first_bad_note 0 false l.fields ≡ first_bad_note l.at l.behind (drop l.at l.fields)
