-- A message that has a pay, with what of it is at hand.
use Rattle.std.specs.Prelude.{◌≡◌, IfSome, Some}
use Rattle.corr_ids.specs.Bic.{IsBic}
use Rattle.day_model.specs.Chart.{Chart}
use Rattle.day_model.specs.declared.pay.Pay.{Pay}
use Rattle.pay_plan.specs.Charging.{AreCharged}
use Rattle.pay_plan.specs.Plan.{pay_of}
use Rattle.pay_plan.specs.Readable.{IsSomeAsked, IsWritable}
use Rattle.corr_top.specs.declared.message.Asking.{Asking}

-- its pay
abbrev pub pay_asked : Chart → Asking → Pay
pay_asked chart asking = pay_of asking.envelope.now asking.text asking.asked asking.charged chart

-- its reference is the envelope's, what it asks is what a message asks that its reader gives, and the accounts are those of what is asked
pub record IsAsking (chart : Chart) (asking : Asking) : Type 0 where
  pub reference : asking.envelope.now.mir ≡ Some asking.mir
  pub message : IsSomeAsked chart.home asking.asked
  pub accounts : AreCharged chart asking.asked.amount asking.charged
  pub via : IfSome asking.charged.routed.via IsBic

-- its pay can be written down
abbrev pub IsWritten : Asking → Type 0
IsWritten asking = IsWritable asking.envelope.now asking.text
