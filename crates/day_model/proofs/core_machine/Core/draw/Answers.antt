use Rattle.std.proofs.Common.{◌≡◌, true, List, Option, Some, sym, ap, ◌∙◌, subst}
use Rattle.day_model.specs.declared.core_event.Event.TheVariants.{Draw}
use Rattle.day_model.specs.declared.core_job.Job.{Job}
use Rattle.std.specs.Prelude.{◌&&◌}
use Rattle.day_model.specs.Fit.{legs_fit}
use Rattle.day_model.specs.CoreStep.{CoreState, is_idle, with_worker, worker_at}
use Rattle.day_model.specs.CoreSound.{IsSound}
use Rattle.day_model.proofs.CoreSteps.{after_sound}
use Rattle.day_model.proofs.core_machine.Core.draw.Goals as goal

pub invariant_of-self : goal.invariant_of-self
invariant_of-self c =
    let s : CoreState = record { ledger = c.self.inside.ledger; workers = c.self.inside.workers.items } in
    let may : (is_idle (worker_at s.workers c.args.worker) && legs_fit s.ledger.chart c.args.pay.legs) ≡ true =
    ap (λ (ws : List (Option Job)). is_idle (worker_at ws c.args.worker) && legs_fit s.ledger.chart c.args.pay.legs) (sym c.deref.ensures.value)
    ∙ sym c.can_draw.ensures ∙ c.if-can_draw.true in
    let workers = c.put.ensures ∙ ap (λ (j : Job). with_worker s.workers c.args.worker (Some j)) c.new.ensures in
    subst (λ (ws : List (Option Job)). IsSound (record { ledger = s.ledger; workers = ws })) (sym workers)
    (after_sound s (Draw c.args.worker c.args.pay) may c.self.invariant)
