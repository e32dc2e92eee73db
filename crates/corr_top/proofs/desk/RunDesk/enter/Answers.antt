use Rattle.std.proofs.Common.{rules}
use Rattle.corr_top.proofs.desk.RunDesk.enter.Goals as goal

pub returns-in-Some-clause-answered : goal.returns-in-Some-clause-answered
returns-in-Some-clause-answered g c = let asks = c.in-Some.ensures.value in search (asks, rules)
