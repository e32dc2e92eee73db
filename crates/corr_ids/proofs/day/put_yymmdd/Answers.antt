use Rattle.corr_ids.proofs.laws.DaySpelling.{day-again}
use Rattle.corr_ids.proofs.day.put_yymmdd.Goals as goal

pub returns-clause-again : goal.returns-clause-again
returns-clause-again c = day-again c.args.d c.requires
