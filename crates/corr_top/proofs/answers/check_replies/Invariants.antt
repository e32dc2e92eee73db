use Rattle.corr_top.proofs.Gathering.{IsGatheredTo}
use Rattle.corr_top.proofs.answers.check_replies.Given as goal

abbrev pub invariant-loop-one : goal.invariant-loop-one
invariant-loop-one l = IsGatheredTo l.served l.one-index l.full
