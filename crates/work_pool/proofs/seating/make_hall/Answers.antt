use Rattle.work_pool.proofs.Rule.{begins}
use Rattle.work_pool.proofs.seating.make_hall.Goals as goal

pub ruled-requires-clause-rule : goal.ruled-requires-clause-rule
ruled-requires-clause-rule g c = begins
