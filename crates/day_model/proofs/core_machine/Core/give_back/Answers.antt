use Rattle.std.proofs.Common.{◌≡◌, true, List, Option, sym, ap, ◌∙◌, subst}
use Rattle.day_model.specs.declared.core_event.Event.TheVariants.{GiveBack}
use Rattle.day_model.specs.declared.core_job.Job.{Job}
use Rattle.day_model.specs.CoreStep.{CoreState, job_at, may_give_back}
use Rattle.day_model.specs.CoreSound.{IsSound}
use Rattle.day_model.proofs.CoreSteps.{after_sound}
use Rattle.day_model.proofs.core_machine.Core.give_back.Goals as goal

pub invariant_of-self : goal.invariant_of-self
invariant_of-self c =
    let s : CoreState = record { ledger = c.self.inside.ledger; workers = c.self.inside.workers.items } in
    let may : may_give_back (job_at s.workers c.args.worker) ≡ true =
    ap (λ (ws : List (Option Job)). may_give_back (job_at ws c.args.worker)) (sym c.deref.ensures.value) ∙ sym c.can_give_back.ensures
    ∙ c.if-can_give_back.true in
    subst (λ (ws : List (Option Job)). IsSound (record { ledger = s.ledger; workers = ws })) (sym c.put.ensures)
    (after_sound s (GiveBack c.args.worker) may c.self.invariant)
