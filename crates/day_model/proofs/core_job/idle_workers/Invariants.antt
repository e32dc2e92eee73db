use Rattle.std.proofs.Common.{◌≡◌, length}
use Rattle.day_model.specs.CoreSound.{AllIdle}
use Rattle.day_model.proofs.core_job.idle_workers.Given as goal

abbrev pub invariant-loop : goal.invariant-loop
invariant-loop l = (length l.workers.items ≡ l.counter) × AllIdle l.workers.items
