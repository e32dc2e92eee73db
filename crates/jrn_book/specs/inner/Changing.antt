-- What a change of the accounts of a journal tells, and what it leaves.
use Rattle.std.specs.Prelude.{◌≡◌, Option, Some, None}
use Rattle.day_model.specs.declared.change.Refusal.{Refusal}
use Rattle.jrn_book.specs.declared.changing.ChangeFault.{ChangeFault}
use Rattle.jrn_book.specs.declared.changing.ChangeFault.TheVariants.{Memory}
use Rattle.jrn_book.specs.Changing.{fault_of}

-- a fault that comes before anything is written: want of memory, or the refusal
abbrev pub IsRefusedBy : Option Refusal → ChangeFault → Type 0
IsRefusedBy (Some reason) fault = fault ≡ fault_of reason
IsRefusedBy None fault = fault ≡ Memory
