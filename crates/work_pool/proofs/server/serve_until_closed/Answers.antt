use Rattle.work_pool.proofs.Going.{goes_nowhere}
use Rattle.work_pool.proofs.server.serve_until_closed.Goals as goal

pub loop-init : goal.loop-init
loop-init g c = record { ready = c.requires.ready; goes = goes_nowhere (g.K.Desk.serves c.args.desk.now) c.args.server.now }
