-- What a reader of the code answers, against what the definitions say.
use Rattle.std.specs.Prelude.{Option, Some, None, Result}
use Rattle.corr_text.specs.Answers as answers
use Rattle.corr_text.specs.declared.fault.Code.{Code}
use Rattle.corr_text.specs.declared.fault.Fault.{Fault}
use Rattle.fin_layout.specs.declared.fault.MtFault.{MtFault}
use Rattle.fin_layout.specs.declared.fault.MtFault.TheVariants as faults
use Rattle.fin_layout.specs.declared.fault.Refusal.{Refusal}
use Rattle.fin_layout.specs.declared.fault.Refusal.TheVariants as refusals

-- the code that a refusal tells, none where memory is out
abbrev pub told_code : Refusal → Option Code
told_code refusals.Memory = None
told_code (refusals.Bad code) = Some code

-- the fault that a message's fault tells, none where memory is out
abbrev pub told_fault : MtFault → Option Fault
told_fault faults.Memory = None
told_fault (faults.Bad fault) = Some fault

-- a content that is read is what the field says
abbrev pub Reads : {A : Type 0} → Result A Refusal → Result A Code → Type 0
Reads result content = answers.Answers told_code content result

-- a place into which a content is read holds what the field says; after a refusal nothing is said of it
abbrev pub Refills : {A B : Type 0} → Result B Refusal → A → Result A Code → Type 0
Refills result place content = Reads (answers.left_in place result) content

-- a message that is read is what its fields say
abbrev pub Gives : {A : Type 0} → Result A MtFault → Result A Fault → Type 0
Gives result message = answers.Answers told_fault message result

-- a place that is filled holds what the fields say; after a fault nothing is said of it
abbrev pub Fills : {A B : Type 0} → Result B MtFault → A → Result A Fault → Type 0
Fills result place message = Gives (answers.left_in place result) message

-- a fault tells the first test that fails, or out of memory
abbrev pub Tells : Option Fault → MtFault → Type 0
Tells first e = answers.Tells told_fault first e
