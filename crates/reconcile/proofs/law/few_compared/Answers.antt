use Rattle.reconcile.proofs.LeftOut.{few-compared}
use Rattle.reconcile.proofs.law.few_compared.Goals as goal

pub returns : goal.returns
returns c = few-compared
