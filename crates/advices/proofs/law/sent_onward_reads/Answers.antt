use Rattle.advices.proofs.laws.Onward.{cover-onward, pass-onward, transfer-onward}
use Rattle.advices.proofs.law.sent_onward_reads.Goals as goal

pub returns-clause-transfer : goal.returns-clause-transfer
returns-clause-transfer c = transfer-onward

pub returns-clause-cover : goal.returns-clause-cover
returns-clause-cover c = cover-onward

pub returns-clause-pass : goal.returns-clause-pass
returns-clause-pass c = pass-onward
