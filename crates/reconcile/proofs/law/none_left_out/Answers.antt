use Rattle.reconcile.proofs.LeftOut.{none-left-out}
use Rattle.reconcile.proofs.law.none_left_out.Goals as goal

pub returns : goal.returns
returns c = none-left-out
