use Rattle.std.proofs.Common.{refl}
use Rattle.corr_top.proofs.Sampling.{directory_sampled}
use Rattle.corr_top.proofs.trial.sample_directory.Goals as goal

pub returns-in-Ok-clause-value : goal.returns-in-Ok-clause-value
returns-in-Ok-clause-value c = directory_sampled _ (λ s. refl) c.in_ok-tables.tables c.read_directory-directory.new.files c.in_ok-tables.ensures c.in-Ok.directory c.in-Ok.ensures.fine
