use Rattle.day_model.proofs.laws.Changes.{accounts_now}
use Rattle.day_model.proofs.laws.Changing.{legal_with_change}
use Rattle.day_model.proofs.laws.Fronts.{fits_now, legal_front, rules_front}
use Rattle.day_model.proofs.law.change_laws.Goals as goal

pub returns-clause-now : goal.returns-clause-now
returns-clause-now c = accounts_now

pub returns-clause-fits : goal.returns-clause-fits
returns-clause-fits c = fits_now

pub returns-clause-rules : goal.returns-clause-rules
returns-clause-rules c = rules_front

pub returns-clause-front : goal.returns-clause-front
returns-clause-front c = legal_front

pub returns-clause-change : goal.returns-clause-change
returns-clause-change c = legal_with_change
