use Rattle.day_model.proofs.laws.Pairs.{balance_is_by_totals, entry_adds_its_legs, legal_totals_fit}
use Rattle.day_model.proofs.law.totals_laws.Goals as goal

pub returns-clause-balance : goal.returns-clause-balance
returns-clause-balance c = balance_is_by_totals

pub returns-clause-entry : goal.returns-clause-entry
returns-clause-entry c = entry_adds_its_legs

pub returns-clause-fit : goal.returns-clause-fit
returns-clause-fit c = legal_totals_fit
