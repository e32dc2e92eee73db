use Rattle.std.proofs.Common.{◌≡◌, List, Option, Some, sym, ap, ◌∙◌, subst}
use Rattle.day_model.specs.declared.core_job.Job.{Job}
use Rattle.day_model.specs.declared.core_job.Mark.{Mark}
use Rattle.day_model.specs.CoreLedger.{LedgerState, ledger_after}
use Rattle.day_model.specs.CoreStep.{CoreState, job_at, marked, with_job}
use Rattle.day_model.specs.CoreSound.{IsSound}
use Rattle.day_model.proofs.CoreSteps.{committed_sound}
use Rattle.day_model.proofs.core_machine.Core.commit.Goals as goal

pub invariant_of-self-2 : goal.invariant_of-self-2
invariant_of-self-2 c =
    let s : CoreState = record { ledger = c.self.inside.ledger; workers = c.self.inside.workers.items } in
    let job : Job = c.in-Some.job.now in
    let at : job_at s.workers c.args.worker ≡ Some job =
    ap (λ (ws : List (Option Job)). job_at ws c.args.worker) (sym c.deref.ensures.value) ∙ sym c.in-Some.ensures in
    let ledger : LedgerState = ledger_after s.ledger job.pay in
    subst (λ (l : LedgerState). IsSound (record { ledger = l; workers = c.set_mark.new.workers.items })) (sym c.in_ok-mark.ensures.ok)
    (subst (λ (ws : List (Option Job)). IsSound (record { ledger = ledger; workers = ws })) (sym c.set_mark.ensures)
    (subst (λ (m : Mark). IsSound (record { ledger = ledger; workers = with_job s.workers c.args.worker (marked m) })) (sym c.in_ok-mark.ensures.mark)
    (committed_sound s c.args.worker job c.self.invariant at)))
