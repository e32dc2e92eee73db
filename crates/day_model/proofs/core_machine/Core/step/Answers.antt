use Rattle.std.proofs.Common.{subst}
use Rattle.day_model.specs.CoreStep.{CoreState}
use Rattle.day_model.specs.CoreSound.{IsSound}
use Rattle.day_model.proofs.CoreReady.{runs_kept}
use Rattle.day_model.proofs.CoreSteps.{fault_freezes}
use Rattle.day_model.proofs.core_machine.Core.step.Goals as goal

pub returns-clause-runs : goal.returns-clause-runs
returns-clause-runs c = runs_kept c.args.self.now (subst (λ (s : CoreState). IsSound s) c.self.view_is c.self.invariant)

pub returns-clause-frozen : goal.returns-clause-frozen
returns-clause-frozen c = fault_freezes c.args.self.now
