-- What a reader of the code answers, against what the definitions say.
use Rattle.std.specs.Prelude.{List, ℕ, Result, Ok, Err}
use Rattle.corr_text.specs.Answers as answers
use Rattle.corr_text.specs.declared.fault.Code.{Code}
use Rattle.corr_text.specs.declared.fault.Fault.{Fault}
use Rattle.fin_fields.specs.declared.field.Field.{Field}
use Rattle.fin_layout.specs.declared.fault.MtFault.{MtFault}
use Rattle.fin_layout.specs.declared.fault.MtFault.TheVariants as faults
use Rattle.fin_layout.specs.declared.fault.Refusal.{Refusal}
use Rattle.fin_layout.specs.declared.fault.Refusal.TheVariants as refusals
use Rattle.fin_layout.specs.Naming.{fault_at}
use Rattle.fin_layout.specs.Reading.{told_code, told_fault}

-- a refusal is that of the content, or out of memory
abbrev pub Refuses : {A : Type 0} → Refusal → Result A Code → Type 0
Refuses e content = answers.Refuses told_code content e

-- the same of a message
abbrev pub Fails : {A : Type 0} → MtFault → Result A Fault → Type 0
Fails e message = answers.Refuses told_fault message e

-- the refusal of a content as a fault of its field
abbrev pub fault_of_field : List Field → ℕ → Refusal → MtFault
fault_of_field fs i refusals.Memory = faults.Memory
fault_of_field fs i (refusals.Bad code) = faults.Bad (fault_at fs i code)

-- what a field says, its refusal as a fault of the field
abbrev pub placed : {A : Type 0} → List Field → ℕ → Result A Refusal → Result A MtFault
placed fs i (Ok x) = Ok x
placed fs i (Err e) = Err (fault_of_field fs i e)
