use Rattle.day_model.proofs.CoreWorkers.{untouched}
use Rattle.day_model.specs.CoreStep.{marked, with_worker}
use Rattle.day_model.specs.declared.core_job.Job.{Job}
use Rattle.std.proofs.Common.{Some}
use Rattle.day_model.proofs.core_job.set_mark.Goals as goal

pub returns-in_default : goal.returns-in_default
returns-in_default c =
    untouched c.args.workers.now.items c.args.worker c.index_mut.result.now
    (λ (job : Job). with_worker c.args.workers.now.items c.args.worker (Some (marked c.args.mark job))) c.requires.from_one
    c.index_mut.ensures.value c.in_default.is
