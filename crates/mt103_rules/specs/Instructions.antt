-- What the rules ask of a transfer's instructions.
use Rattle.std.specs.Prelude.{ℕ, ◌||◌, not, Bool, List, Option, position, codes}
use Rattle.std.specs.List.{list_any}
use Rattle.std.specs.Str.{bytes_eq}
use Rattle.mt103.specs.declared.instruction.Instr.{Instr}

-- some instruction has this code
abbrev pub has_instr : List ℕ → List Instr → Bool
has_instr code instrs = list_any (λ i. bytes_eq i.code code) instrs

-- a priority payment may have this instruction
abbrev pub is_priority_instruction : Instr → Bool
is_priority_instruction i =
    bytes_eq i.code (codes "SDVA") || bytes_eq i.code (codes "TELB") || bytes_eq i.code (codes "PHOB") || bytes_eq i.code (codes "INTC")

-- where the first stands that it may not have, from 0
abbrev pub first_barred : List Instr → Option ℕ
first_barred instrs = position (λ i. not (is_priority_instruction i)) instrs
