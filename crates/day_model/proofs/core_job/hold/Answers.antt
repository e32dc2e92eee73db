use Rattle.day_model.proofs.CoreWorkers.{untouched}
use Rattle.day_model.specs.CoreStep.{also_holding, with_worker}
use Rattle.day_model.specs.declared.core_job.Job.{Job}
use Rattle.std.proofs.Common.{Some}
use Rattle.day_model.proofs.core_job.hold.Goals as goal

pub returns-in-None-clause-ok : goal.returns-in-None-clause-ok
returns-in-None-clause-ok c =
    untouched c.args.workers.now.items c.args.worker c.index_mut.result.now
    (λ (job : Job). with_worker c.args.workers.now.items c.args.worker (Some (also_holding c.args.account job))) c.requires.from_one c.index_mut.ensures.value
    c.in-None.is
