-- Messages that ask for a pay. Where a message is kept plays no part in what it asks.
use Rattle.mt103.specs.declared.message.Mt103.{Mt103}
use Rattle.mt202cov.specs.declared.message.Mt202Cov.{Mt202Cov}
use Rattle.pay_plan.specs.declared.ask.Ask.{Ask}
use Rattle.pay_plan.specs.declared.ask.Ask.TheVariants.{Cover, Transfer}

-- a transfer asks for a pay
abbrev pub asks_transfer : Mt103 → Ask
asks_transfer m = Transfer (record { ref_ptr = (0, 0); now = m })

-- a cover asks for a pay
abbrev pub asks_cover : Mt202Cov → Ask
asks_cover m = Cover (record { ref_ptr = (0, 0); now = m })
