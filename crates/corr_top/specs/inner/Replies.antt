-- Why a reader of messages answers no pay, against what is meant.
use Rattle.std.specs.Prelude.{◌≡◌, Result, Err}
use Rattle.fin_message.specs.declared.fault.MessageFault.{MessageFault}
use Rattle.fin_message.specs.declared.fault.MessageFault.TheVariants as message
use Rattle.corr_top.specs.declared.message.NoPay.{NoPay}
use Rattle.corr_top.specs.declared.message.NoPay.TheVariants.{Refused}
use Rattle.corr_top.specs.declared.message.Stop.{Stop}
use Rattle.corr_top.specs.declared.message.Stop.TheVariants as stop

-- why there is no pay where a message is refused
abbrev pub stop_of_verdict : MessageFault → Stop
stop_of_verdict (message.Refused mir fault) = stop.NoPay (Refused mir fault)
stop_of_verdict message.Memory = stop.Memory

-- an error is the reason that is meant, or out of memory
abbrev pub FailsAs : {A : Type 0} → Stop → Result A NoPay → Type 0
FailsAs (stop.NoPay why) meant = meant ≡ Err why
FailsAs stop.Memory meant = Unit {0}
