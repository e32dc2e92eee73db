-- The making of the pay that takes a payment back.
use Rattle.std.proofs.Common.{◌≡◌, ℕ, List, refl, sym, ap, ◌∙◌, subst}
use Rattle.std.proofs.lemmas.Option.{none-some, same_Some}
use Rattle.corr_ids.specs.declared.day.Day.{Day}
use Rattle.day_model.specs.Balance.{outcome_of}
use Rattle.day_model.specs.Next.{entered_at}
use Rattle.day_model.specs.declared.entry.Entry.{Entry}
use Rattle.day_model.specs.declared.entry.Outcome.TheVariants as outcome
use Rattle.day_model.specs.declared.pay.Pay.{Pay}
use Rattle.day_model.specs.Chart.{Chart}
use Rattle.pay_returns.specs.Making.{MayReturn, TellsReturnFault}
use Rattle.pay_returns.specs.declared.fault.ReturnFault.{ReturnFault}
use Rattle.pay_returns.specs.declared.fault.ReturnFault.TheVariants as returning
use Rattle.corr_top.specs.declared.status.Status.TheVariants as status
use Rattle.corr_top.specs.Returned.{IsReturnable}
use Rattle.corr_top.specs.Steps.{Step}
use Rattle.corr_top.specs.Stops.{status_of_return}
use Rattle.corr_top.proofs.Walking.{walked}
use Rattle.corr_top.proofs.steps.Laws.{Agrees, IsStop, SameJournal, Setting, StepLaws}

returning_memory : (chart : Chart) (history : List Entry) (place : ℕ) (day : Day) (pay : Pay) (stop : ReturnFault) → MayReturn chart history place day pay → TellsReturnFault chart history place day stop → status_of_return stop ≡ status.Memory
returning_memory chart history place day pay (returning.NoPayment entries) may told = absurd (none-some pay (sym told.0 ∙ may.new.is))
returning_memory chart history place day pay (returning.Returned at) may told =
    let same : pay ≡ told.0 = same_Some pay told.0 (sym may.new.is ∙ told.1) in
    absurd (none-some at (sym may.new.new ∙ ap (λ (p : Pay). entered_at p.mir history) same ∙ told.2))
returning_memory chart history place day pay (returning.Unfunded leg balance) may told =
    let same : pay ≡ told.0 = same_Some pay told.0 (sym may.new.is ∙ told.1.is) in
    let unfunded : outcome.Booked ≡ outcome.Unfunded leg balance = sym may.funded ∙ ap (outcome_of chart history) same ∙ told.2 in
    absurd (cc (unfunded))
returning_memory chart history place day pay returning.Memory may told = refl

return_line : (stop : ReturnFault) → IsStop (status_of_return stop)
return_line (returning.NoPayment entries) = record { line = tt; silent = refl }
return_line (returning.Returned place) = record { line = tt; silent = refl }
return_line (returning.Unfunded leg balance) = record { line = tt; silent = refl }
return_line returning.Memory = record { line = tt; silent = refl }

-- a return that may be made of the journal as it was told may be made of it as it was read, and the other way round
pub as_read : (x : Setting) → SameJournal x.read x.told → (pay : Pay) → IsReturnable x.told pay → IsReturnable x.read pay
as_read x journal pay may =
    subst (λ (v : Chart × (List Entry × (ℕ × Day))). MayReturn v.0 v.1.0 v.1.1.0 v.1.1.1 pay) (λ k. (sym journal.chart k, (sym journal.history k, (sym x.place k, sym x.day k)))) may

pub as_told : (x : Setting) → SameJournal x.read x.told → (pay : Pay) → IsReturnable x.read pay → IsReturnable x.told pay
as_told x journal pay may = subst (λ (v : Chart × (List Entry × (ℕ × Day))). MayReturn v.0 v.1.0 v.1.1.0 v.1.1.1 pay) (λ k. (journal.chart k, (journal.history k, (x.place k, x.day k)))) may

pub of_make_return : StepLaws Step.make_return
of_make_return = record {
  agrees = λ x ready passes. tt;
  memory = λ x s done after all ready stops.
      let may = as_read x (walked (Agrees x.read x.told) done Step.open_journal all after) ready.0 ready.1 in
      stops.1 ∙ returning_memory x.read.chart x.read.history x.read.place x.read.day ready.0 stops.0 may stops.2;
  line = λ x s stops. subst IsStop (sym stops.1) (return_line stops.0);
}
