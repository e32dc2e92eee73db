use Rattle.corr_top.proofs.Gathering.{NoneFailedTo}
use Rattle.corr_top.proofs.answers.failed_stop.Given as goal

abbrev pub invariant-loop-one : goal.invariant-loop-one
invariant-loop-one l = NoneFailedTo l.served l.one-index
