-- What the code answers, against what is meant.
use Rattle.std.specs.Prelude.{Result, codes}
use Rattle.corr_text.specs.Answers as answers
use Rattle.corr_text.specs.Codes.{code}
use Rattle.fin_fields.specs.declared.fault.FieldFault.{FieldFault}
use Rattle.fin_fields.specs.declared.fault.FieldFault.TheVariants as field
use Rattle.fin_layout.specs.declared.fault.MtFault.{MtFault}
use Rattle.fin_layout.specs.declared.fault.MtFault.TheVariants as mt
use Rattle.fin_message.specs.Verdict.{Refused}
use Rattle.fin_message.specs.declared.fault.MessageFault.{MessageFault}
use Rattle.fin_message.specs.Answers.{told}

-- an error is the refusal that is meant, or out of memory
abbrev pub Refuses : {A : Type 0} → MessageFault → Result A Refused → Type 0
Refuses e meant = answers.Refuses told meant e

-- P20 with its line, P21 with its field, or out of memory
abbrev pub fault_of_fields : FieldFault → MtFault
fault_of_fields (field.P20 line) = mt.Bad (record { code = code "P20"; tag = codes "B4 "; nth = line })
fault_of_fields (field.P21 tag nth) = mt.Bad (record { code = code "P21"; tag = tag; nth = nth })
fault_of_fields field.Memory = mt.Memory
