use Rattle.desk_page.proofs.laws.Once.{stands_once}
use Rattle.desk_page.proofs.law.each_stands_once.Goals as goal

pub returns : goal.returns
returns c = stands_once
