use Rattle.pay_returns.proofs.Received.{received-no-return}
use Rattle.pay_returns.proofs.laws.Tagging.{returns-later, returns-once, tagged-more}
use Rattle.pay_returns.proofs.law.tag_laws.Goals as goal

pub returns-clause-more : goal.returns-clause-more
returns-clause-more c = tagged-more

pub returns-clause-later : goal.returns-clause-later
returns-clause-later c = returns-later

pub returns-clause-once : goal.returns-clause-once
returns-clause-once c = returns-once

pub returns-clause-received : goal.returns-clause-received
returns-clause-received c = received-no-return
