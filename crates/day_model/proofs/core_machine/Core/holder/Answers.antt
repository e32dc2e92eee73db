use Rattle.std.proofs.Common.{◌≡◌, List, Option, ap, ◌∙◌, subst}
use Rattle.day_model.specs.declared.core_job.Job.{Job}
use Rattle.day_model.specs.CoreStep.{CoreState, holder_of}
use Rattle.day_model.specs.CoreSound.{IsSound}
use Rattle.day_model.proofs.CoreReady.{if_held, only_held}
use Rattle.day_model.proofs.core_machine.Core.holder.Goals as goal

pub returns-clause-holds : goal.returns-clause-holds
returns-clause-holds c =
    let s = c.args.self.now in
    let is : c.holder.result ≡ holder_of s.workers c.args.n.0 =
    c.holder.ensures
    ∙ ap (λ (ws : List (Option Job)). holder_of ws c.args.n.0) (c.deref.ensures.value ∙ ap (λ (x : CoreState). x.workers) c.self.view_is) in
    if_held s.workers c.args.n.0 c.holder.result is

pub returns-clause-only : goal.returns-clause-only
returns-clause-only c =
    let s = c.args.self.now in
    let is : c.holder.result ≡ holder_of s.workers c.args.n.0 =
    c.holder.ensures
    ∙ ap (λ (ws : List (Option Job)). holder_of ws c.args.n.0) (c.deref.ensures.value ∙ ap (λ (x : CoreState). x.workers) c.self.view_is) in
    only_held s c.args.n.0 c.holder.result (subst (λ (x : CoreState). IsSound x) c.self.view_is c.self.invariant) is
