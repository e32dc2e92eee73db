use Rattle.std.proofs.Common.{arith}
use Rattle.std.proofs.lemmas.Grind.{common_steps}
use Rattle.corr_ids.specs.Day.{day_of}
use Rattle.corr_ids.proofs.laws.DaySpelling.{read-spelled}
use Rattle.corr_ids.proofs.day.day_from_yymmdd.Goals as goal

pub returns-clause-spelled : goal.returns-clause-spelled
unfolding day_of
returns-clause-spelled c = read-spelled c.args.b.now c.civil_date.result (grind (arith, common_steps))
