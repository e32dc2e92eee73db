-- The pay of a message, or the first test that it fails.
use Rattle.std.specs.Prelude.{Result}
use Rattle.corr_text.specs.Answers as answers
use Rattle.corr_text.specs.declared.fault.Code.{Code}
use Rattle.day_model.specs.declared.pay.Pay.{Pay}
use Rattle.pay_plan.specs.declared.fault.PlanFault.{PlanFault}
use Rattle.pay_plan.specs.Plan.{told}

-- a refusal is the first test that fails, or out of memory
abbrev pub Refuses : PlanFault → Result Pay Code → Type 0
Refuses e plan = answers.Refuses told plan e
