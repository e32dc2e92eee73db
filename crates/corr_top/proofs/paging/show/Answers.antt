use Rattle.std.proofs.Common.{inl}
use Rattle.corr_top.proofs.paging.show.Goals as goal

pub returns-in-Err-clause-gives : goal.returns-in-Err-clause-gives
returns-in-Err-clause-gives g c = inl (c.in-Err.fault, c.from.ensures, c.in-Err.ensures.stopped)
