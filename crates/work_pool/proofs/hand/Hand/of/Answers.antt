use Rattle.std.proofs.Common.{List, ap, ◌∙◌}
use Rattle.work_pool.specs.inner.Hands.{tasks_of}
use Rattle.work_pool.proofs.Hands.{tasks-unserved}
use Rattle.work_pool.proofs.hand.Hand.of.Goals as goal

pub returns : goal.returns
returns g c = ap (λ (rs : List _). tasks_of c.args.jobs.items rs) c.in_ok-replies.ensures.items ∙ tasks-unserved c.args.jobs.items
