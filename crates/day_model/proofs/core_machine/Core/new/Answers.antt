use Rattle.std.proofs.Common.{◌<◌, ◌^◌, length, arith}
use Rattle.day_model.proofs.CoreReady.{runs_kept}
use Rattle.day_model.proofs.CoreSteps.{idle_sound}
use Rattle.day_model.proofs.core_machine.Core.new.Goals as goal

pub invariant_of-result : goal.invariant_of-result
invariant_of-result c =
    let ledger = c.in_ok-new.field-0 in
    let workers = c.in_ok-idle_workers.field-0.items in
    let few : length workers < 2 ^ 32 = omega (arith, c.in_ok-idle_workers.ensures.count, c.ranges.workers.fits) in
    idle_sound ledger workers c.in_ok-new.ensures.sound few c.in_ok-idle_workers.ensures.idle

pub returns-clause-runs : goal.returns-clause-runs
returns-clause-runs c =
    let ledger = c.in_ok-new.field-0 in
    let workers = c.in_ok-idle_workers.field-0.items in
    let few : length workers < 2 ^ 32 = omega (arith, c.in_ok-idle_workers.ensures.count, c.ranges.workers.fits) in
    runs_kept (record { ledger = ledger; workers = workers }) (idle_sound ledger workers c.in_ok-new.ensures.sound few c.in_ok-idle_workers.ensures.idle)
