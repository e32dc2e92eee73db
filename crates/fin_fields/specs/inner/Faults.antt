-- The first fault of a text: its lines, then its bytes.
use Rattle.std.specs.Prelude.{◌≡◌, ℕ, Option, Some}
use Rattle.fin_fields.specs.declared.fault.FieldFault.{FieldFault}
use Rattle.fin_fields.specs.declared.fault.FieldFault.TheVariants.{P20, P21, Memory}

-- a fault of lines that is told is that of this line, or out of memory
abbrev pub TellsLineFault : Option ℕ → FieldFault → Type 0
TellsLineFault faulty Memory = Unit {0}
TellsLineFault faulty (P20 line) = faulty ≡ Some line
TellsLineFault faulty (P21 tag nth) = ⊥
