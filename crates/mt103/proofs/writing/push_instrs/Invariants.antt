use Rattle.std.proofs.Common.{◌≡◌, ◌++◌, map, take}
use Rattle.mt103.specs.Writing.{instr_field}
use Rattle.mt103.proofs.writing.push_instrs.Given as goal

abbrev pub invariant-loop-instr : goal.invariant-loop-instr
invariant-loop-instr l = l.fields ≡ l.fn.fields ++ map instr_field (take l.instr-index l.instrs)
