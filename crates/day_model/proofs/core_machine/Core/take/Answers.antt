use Rattle.std.proofs.Common.{◌≡◌, true, List, Option, sym, ap, ◌∙◌, subst}
use Rattle.day_model.specs.declared.core_event.Event.TheVariants.{Take}
use Rattle.day_model.specs.declared.core_job.Job.{Job}
use Rattle.day_model.specs.CoreStep.{CoreState, job_at, may_take}
use Rattle.day_model.specs.CoreSound.{IsSound}
use Rattle.day_model.proofs.CoreSteps.{after_sound}
use Rattle.day_model.proofs.core_machine.Core.take.Goals as goal

pub invariant_of-self : goal.invariant_of-self
invariant_of-self c =
    let s : CoreState = record { ledger = c.self.inside.ledger; workers = c.self.inside.workers.items } in
    let may : may_take s.workers c.args.account.0 (job_at s.workers c.args.worker) ≡ true =
    ap (λ (ws : List (Option Job)). may_take ws c.args.account.0 (job_at ws c.args.worker)) (sym c.deref.ensures.value) ∙ sym c.can_take.ensures
    ∙ c.if-can_take.true in
    subst (λ (ws : List (Option Job)). IsSound (record { ledger = s.ledger; workers = ws })) (sym c.in_ok-hold.ensures.ok)
    (after_sound s (Take c.args.worker c.args.account) may c.self.invariant)
