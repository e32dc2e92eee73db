use Rattle.std.proofs.Common.{refl, sym, subst}
use Rattle.day_model.specs.declared.core_event.Event.TheVariants.{Fault}
use Rattle.day_model.specs.CoreLedger.{LedgerState}
use Rattle.day_model.specs.CoreStep.{CoreState}
use Rattle.day_model.specs.CoreSound.{IsSound}
use Rattle.day_model.proofs.CoreSteps.{after_sound}
use Rattle.day_model.proofs.core_machine.Core.fail.Goals as goal

pub invariant_of-self : goal.invariant_of-self
invariant_of-self c =
    let s : CoreState = record { ledger = c.self.inside.ledger; workers = c.self.inside.workers.items } in
    subst (λ (l : LedgerState). IsSound (record { ledger = l; workers = s.workers })) (sym c.fail.ensures) (after_sound s Fault refl c.self.invariant)
