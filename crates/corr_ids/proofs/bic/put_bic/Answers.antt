use Rattle.corr_ids.proofs.laws.Spelling.{bic-printed}
use Rattle.corr_ids.proofs.bic.put_bic.Goals as goal

pub returns-then-eq-clause-again : goal.returns-then-eq-clause-again
returns-then-eq-clause-again c = bic-printed c.args.b.now
