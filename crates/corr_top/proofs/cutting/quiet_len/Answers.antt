use Rattle.corr_top.proofs.MessageFiles.{colon-ahead, no-colon}
use Rattle.corr_top.proofs.cutting.quiet_len.Goals as goal

pub returns-in-Some : goal.returns-in-Some
returns-in-Some c = colon-ahead c.args.rest.now c.in-Some.at c.in-Some.ensures

pub returns-in-None : goal.returns-in-None
returns-in-None c = no-colon c.args.rest.now c.in-None.ensures
