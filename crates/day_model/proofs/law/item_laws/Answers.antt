use Rattle.day_model.proofs.laws.Items.{items_changed, items_entered, replay_items}
use Rattle.day_model.proofs.law.item_laws.Goals as goal

pub returns-clause-entry : goal.returns-clause-entry
returns-clause-entry c = items_entered

pub returns-clause-change : goal.returns-clause-change
returns-clause-change c = items_changed

pub returns-clause-back : goal.returns-clause-back
returns-clause-back c = replay_items
