-- Messages that ask for a pay. Where a message is kept plays no part in what it asks.
use Rattle.pay_plan.specs.declared.ask.Ask.{Ask}
use Rattle.pay_plan.specs.declared.ask.Ask.TheVariants.{Cover, Transfer}
use Rattle.corr_top.specs.Asks.{asks_transfer, asks_cover}

-- what is asked, whatever the place where its message is kept
abbrev pub unplaced : Ask → Ask
unplaced (Transfer m) = asks_transfer m.now
unplaced (Cover m) = asks_cover m.now
