-- A payment that is taken back: the entry that this makes, and how it stops.
use Rattle.std.specs.Prelude.{◌≡◌, ◌⊎◌, ℕ, ◌+◌, List, [], ◌∷◌, ◌++◌, length}
use Rattle.corr_disk.specs.declared.disk.Disk as disks
use Rattle.corr_ids.specs.declared.day.Day.{Day}
use Rattle.day_model.specs.Chart.{Chart}
use Rattle.day_model.specs.declared.entry.Entry.{Entry}
use Rattle.day_model.specs.declared.entry.Outcome.TheVariants.{Booked}
use Rattle.day_model.specs.declared.pay.Pay.{Pay}
use Rattle.jrn_book.specs.Answers.{FindsNoRoom}
use Rattle.pay_returns.specs.Laws.{HoldsReturn}
use Rattle.pay_returns.specs.Making.{MayReturn, TellsReturnFault}
use Rattle.pay_returns.specs.declared.fault.ReturnFault.{ReturnFault}
use Rattle.ref_tables.specs.Seen.{Tables}
use Rattle.corr_top.specs.declared.answers.BookStop.{BookStop}
use Rattle.corr_top.specs.declared.status.Status.{Status}
use Rattle.corr_top.specs.declared.status.Status.TheVariants as status
use Rattle.corr_top.specs.Booking.{IsBack, StopsEntering}
use Rattle.corr_top.specs.Inputs.{Inputs, new_in}
use Rattle.corr_top.specs.OnDisk.{HasNotFailed, IsUnwritten}
use Rattle.corr_top.specs.Origin.{AreSentValid}
use Rattle.corr_top.specs.Ready.{HasRoomForAll, IsSure}
use Rattle.corr_top.specs.StepMeaning.{StepMeaning}
use Rattle.corr_top.specs.Stops.{status_of_booking, status_of_day, status_of_return}

-- the entry of a pay that was booked on a day
abbrev pub booked_on : Day → Pay → Entry
booked_on day pay = record { pay = pay; day = day; outcome = Booked }

-- the payment at the place that the words name may be taken back: it is booked, no return and not returned yet, and the accounts can
-- take its return
abbrev pub IsReturnable : Inputs → Pay → Type 0
IsReturnable i pay = MayReturn i.chart i.history i.place i.day pay

-- why a payment isn't taken back, the first that holds: the day is before that of the last entry; there is no payment to take back, it is taken
-- back already, or an account can't take its return; or that finds no room
abbrev pub IsNotTakenBack : Chart → List Entry → ℕ → Day → Status → Type 0
IsNotTakenBack chart history place day s =
    ((back : Day) × (s ≡ status_of_day back) × IsBack history day back)
    ⊎ (((fault : ReturnFault) × (s ≡ status_of_return fault) × TellsReturnFault chart history place day fault)
    ⊎ ((pay : Pay) × (entries : ℕ) × (end : ℕ) × (need : ℕ) × (s ≡ status.Full entries end need) × MayReturn chart history place day pay
    × FindsNoRoom chart history pay day entries end need))

-- its return was entered, and is booked: nothing else was added
pub record IsReturned (i : Inputs) : Type 0 where
  pub pay : Pay
  pub may : IsReturnable i pay
  pub entered_is : i.entered ≡ pay ∷ []
  pub is : new_in i ≡ i.history ++ booked_on i.day pay ∷ []

-- each message that is sent of it passes the tests of a sent message under tables that hold what it says
abbrev pub ReturnSends : Inputs → Type 0
ReturnSends i = (t : Tables) (pay : Pay) → i.entered ≡ pay ∷ [] → HoldsReturn t i.chart pay → AreSentValid t i.chart (length i.history + 1) (new_in i)

-- how its entering stops, by one worker
abbrev pub StopsReturning : {D : Type 0} → disks.Ghosts D → D → D → Inputs → BookStop → Type 0
StopsReturning d old new i stop = (pay : Pay) × IsReturnable i pay × StopsEntering d old new i.chart i.history (pay ∷ []) i.day 1 1 stop

-- ---- the steps

-- the pay is made
abbrev pub make_return_step : StepMeaning
make_return_step = record {
  passes = λ source disk old new i. (pay : Pay) × IsReturnable i pay;
  stops = λ source disk old new i s. (stop : ReturnFault) × (s ≡ status_of_return stop) × TellsReturnFault i.chart i.history i.place i.day stop × HasNotFailed disk old.disk new.disk;
  untouched = λ disk old new. Unit {0};
  ready = λ source disk old new i. (pay : Pay) × IsReturnable i pay;
}

-- it is entered
abbrev pub book_return_step : StepMeaning
book_return_step = record {
  passes = λ source disk old new i. IsReturned i;
  stops = λ source disk old new i s. (stop : BookStop) × (s ≡ status_of_booking stop) × StopsReturning disk old.disk new.disk i stop;
  untouched = λ disk old new. IsUnwritten disk old.disk new.disk;
  ready = λ source disk old new i. IsSure disk old.disk new.disk × ((pay : Pay) → IsReturnable i pay → HasRoomForAll i.chart i.history (pay ∷ []));
}
