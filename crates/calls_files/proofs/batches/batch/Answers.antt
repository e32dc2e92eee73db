use Rattle.std.proofs.Common.{refl}
use Rattle.calls_files.proofs.Short.{three}
use Rattle.calls_files.proofs.batches.batch.Goals as goal

pub returns : goal.returns
returns c = record { is = refl; fits = three }
