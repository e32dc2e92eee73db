use Rattle.corr_ids.proofs.laws.Century.{civil-again}
use Rattle.corr_ids.proofs.day.day_of_year.Goals as goal

pub returns-clause-date : goal.returns-clause-date
returns-clause-date c = civil-again c.args.d c.requires
