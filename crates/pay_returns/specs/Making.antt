-- What a return that is made is, and why none is.
use Rattle.std.specs.Prelude.{◌≡◌, ℕ, List, length, Some, None}
use Rattle.corr_ids.specs.declared.day.Day.{Day}
use Rattle.day_model.specs.Balance.{outcome_of}
use Rattle.day_model.specs.Chart.{Chart}
use Rattle.day_model.specs.Next.{entered_at}
use Rattle.day_model.specs.declared.entry.Entry.{Entry}
use Rattle.day_model.specs.declared.entry.Outcome.TheVariants as outcome
use Rattle.day_model.specs.declared.pay.Pay.{Pay}
use Rattle.pay_returns.specs.Returns.{return_of}
use Rattle.pay_returns.specs.declared.fault.ReturnFault.{ReturnFault}
use Rattle.pay_returns.specs.declared.fault.ReturnFault.TheVariants.{Memory, NoPayment, Returned, Unfunded}

-- the return of a place, which isn't entered
pub record IsNew (chart : Chart) (entries : List Entry) (place : ℕ) (day : Day) (pay : Pay) : Type 0 where
  pub is : return_of chart entries place day ≡ Some pay
  pub new : entered_at pay.mir entries ≡ None

-- and which is booked
pub record MayReturn (chart : Chart) (entries : List Entry) (place : ℕ) (day : Day) (pay : Pay) : Type 0 where
  pub new : IsNew chart entries place day pay
  pub funded : outcome_of chart entries pay ≡ outcome.Booked

-- why there is none: there is no payment at the place to take back, or its return's reference is entered, or an account can't take
-- a leg
abbrev pub TellsReturnFault : Chart → List Entry → ℕ → Day → ReturnFault → Type 0
TellsReturnFault chart entries place day (NoPayment count) = (return_of chart entries place day ≡ None) × (count ≡ length entries)
TellsReturnFault chart entries place day (Returned at) = (pay : Pay) × (return_of chart entries place day ≡ Some pay) × (entered_at pay.mir entries ≡ Some at)
TellsReturnFault chart entries place day (Unfunded leg balance) =
    (pay : Pay) × IsNew chart entries place day pay × (outcome_of chart entries pay ≡ outcome.Unfunded leg balance)
TellsReturnFault chart entries place day Memory = Unit {0}
