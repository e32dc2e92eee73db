use Rattle.work_pool.proofs.Going.{goes_nowhere}
use Rattle.work_pool.proofs.feeding.empty_line.Goals as goal

pub returns-in_err-count-clause-goes : goal.returns-in_err-count-clause-goes
returns-in_err-count-clause-goes g c = goes_nowhere (g.K.Desk.serves c.args.desk.now) c.args.server.now
