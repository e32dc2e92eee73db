use Rattle.std.proofs.Common.{◌≡◌, take}
use Rattle.fin_fields.specs.Writing.{fields_text}
use Rattle.fin_fields.proofs.writing.put_fields.Given as goal

abbrev pub invariant-loop-f : goal.invariant-loop-f
invariant-loop-f l = l.out ≡ fields_text (take l.f-index l.fields)
