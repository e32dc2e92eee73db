use Rattle.std.proofs.Common.{◌∙◌}
use Rattle.corr_top.proofs.Sampling.{opened_new}
use Rattle.corr_top.proofs.trial.sample_books.Goals as goal

pub returns-in-Ok-clause-accounts : goal.returns-in-Ok-clause-accounts
returns-in-Ok-clause-accounts c = (opened_new _ c.in_ok-disk.disk c.sample_day.result c.in-Ok.opened c.in_ok-disk.ensures.new c.in_ok-disk.ensures.journal c.in-Ok.ensures.told).0

pub returns-in-Ok-clause-base : goal.returns-in-Ok-clause-base
returns-in-Ok-clause-base c = (opened_new _ c.in_ok-disk.disk c.sample_day.result c.in-Ok.opened c.in_ok-disk.ensures.new c.in_ok-disk.ensures.journal c.in-Ok.ensures.told).1

pub returns-in-Ok-clause-faults : goal.returns-in-Ok-clause-faults
returns-in-Ok-clause-faults c = c.in-Ok.ensures.opened.1 ∙ c.in_ok-disk.ensures.new.faults
