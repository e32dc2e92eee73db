use Rattle.std.proofs.Common.{refl}
use Rattle.corr_top.proofs.desk.RunDesk.answer_one.Goals as goal

pub returns-clause-served : goal.returns-clause-served
returns-clause-served g c = (c.answer_next.new.pass, c.answer_next.ensures.served, refl)
