-- The part of `return` between the opening of the books and their closing.
use Rattle.std.specs.Prelude.{◌≡◌, ◌⊎◌, ℕ, ◌+◌, ◌-◌, All, List, [], ◌∷◌, ◌++◌, length, Some, slice_get, Result, Ok, Err}
use Rattle.advices.specs.Messages.{messages_of}
use Rattle.advices.specs.Valid.{IsNotice, IsOwnPay, NoticesAccepted}
use Rattle.corr_books.specs.Opening.{Opening, Parts, opening_with, past_of}
use Rattle.corr_disk.specs.declared.disk.Disk as disks
use Rattle.corr_report.specs.Bookings.{booking_line}
use Rattle.day_model.specs.Chart.{Chart}
use Rattle.corr_ids.specs.declared.day.Day.{Day}
use Rattle.day_model.specs.declared.entry.Entry.{Entry}
use Rattle.day_model.specs.declared.pay.Pay.{Pay}
use Rattle.day_model.specs.declared.reply.Reply.{Reply}
use Rattle.jrn_file.specs.File.{disk_of}
use Rattle.pay_returns.specs.Making.{MayReturn, TellsReturnFault}
use Rattle.pay_returns.specs.declared.fault.ReturnFault.{ReturnFault}
use Rattle.ref_tables.specs.Seen.{Tables}
use Rattle.corr_top.specs.declared.answers.BookStop.{BookStop}
use Rattle.corr_top.specs.declared.desk.Served.{Served}
use Rattle.corr_top.specs.declared.message.NoPay.{NoPay}
use Rattle.corr_top.specs.declared.returning.Entered.{Entered}
use Rattle.corr_top.specs.declared.status.Status.{Status}
use Rattle.corr_top.specs.declared.status.Status.TheVariants as status
use Rattle.corr_top.specs.declared.writing.Texts.{Texts}
use Rattle.corr_top.specs.Booking.{EachTried, EntersInOrder}
use Rattle.corr_top.specs.inner.Collecting.{IsCalm, StopsAsServed}
use Rattle.corr_top.specs.inner.Days.{StopCause}
use Rattle.corr_top.specs.Origin.{AreSentValid}
use Rattle.corr_top.specs.Out.{booked_from, entry_out, sent_from}
use Rattle.corr_top.specs.Returned.{booked_on}
use Rattle.corr_top.specs.inner.Serving.{AreServedInOrder, AreTold, HasServed, are_replies}
use Rattle.corr_top.specs.Stops.{status_of_booking, status_of_return}

-- ---- one pay, entered over books with one pass

-- what a day of one pay asks for
abbrev pub asks_for : Pay → List (Result Pay NoPay)
asks_for pay = Ok pay ∷ []

-- the pay was booked with the one pass of the books, and they were closed: what is left, and what became of the pay
pub record IsEntered {D : Type 0} (disk : disks.Ghosts D) (o : Opening) (past : ℕ → List ℕ → Type 0) (pay : Pay) (e : Entered D) : Type 0 where
  pub left : HasServed disk o past (asks_for pay) e.closed.accounts e.closed.history.entries e.closed.disk
  pub told : AreTold o e.closed.history.entries (asks_for pay) (e.made ∷ [])
  pub turn : AreServedInOrder o e.closed.history.entries (asks_for pay) (e.made ∷ [])

-- ---- the texts of the last entry

-- its line, and its messages, which are accepted where its pay is one of the home bank's own
abbrev pub GivesLast : Chart → ℕ → Entry → Texts → Type 0
GivesLast chart place entry texts =
    (texts.report ≡ booking_line chart place entry) × (texts.out ≡ entry_out chart place entry) × NoticesAccepted chart entry.pay (messages_of chart entry place)

-- the same of the last entry of a history, where each pay has a reply; or why there are none
abbrev pub GivesEntry : Chart → List Entry → List Served → ℕ → ℕ → Result Texts Status → Type 0
GivesEntry chart history made before after (Ok texts) = (replies : List Reply) × (made ≡ are_replies replies) × IsCalm before after
    × ((entry : Entry) → slice_get history (length history - 1) ≡ Some entry → GivesLast chart (length history) entry texts)
GivesEntry chart history made before after (Err s) = (stop : BookStop) × (s ≡ status_of_booking stop) × StopsAsServed before after made stop

-- ---- the part of the command between the opening of the books and their closing

module _ {D : Type 0} (disk : disks.Ghosts D) (old : Parts D) (new : D) where
  -- the one pass of these books
  abbrev pub alone : Opening
  alone = opening_with disk old 1 1

  -- the pay was entered and booked, and nothing else, and no call of the disk failed
  pub record HasBooked (pay : Pay) (history : List Entry) : Type 0 where
    pub served : HasServed disk alone (past_of disk old) (asks_for pay) old.accounts history new
    pub calm : IsCalm old.at_open (disk.faults new)
    pub is : history ≡ old.base ++ booked_on old.day pay ∷ []

  -- it was not entered, or there was no memory for the texts
  pub record StopsAtPay (pay : Pay) (stop : BookStop) : Type 0 where
    pub history : List Entry
    pub served : HasServed disk alone (past_of disk old) (asks_for pay) old.accounts history new
    pub tried : EachTried old.accounts old.base (pay ∷ []) old.day history stop
    pub in_order : EntersInOrder old.accounts old.base (pay ∷ []) old.day history stop
    pub cause : StopCause alone (pay ∷ []) history (disk.faults new) stop

  -- each message that is sent is accepted under tables under which the pay is one of the home bank's own that asks for notices alone
  abbrev pub NoticesValid : Pay → List Entry → Type 0
  NoticesValid pay history = (t : Tables) → IsOwnPay t old.accounts pay → All (IsNotice t) pay.orders → AreSentValid t old.accounts (length old.base + 1) history

  -- the texts of the entry that was added, or why there are none; where there was no memory for the books the disk is as it was
  abbrev pub GivesBooked : Pay → Result Texts Status → Type 0
  GivesBooked pay (Ok texts) = (history : List Entry) × HasBooked pay history × (texts.report ≡ booked_from old.accounts (length old.base + 1) history)
      × (texts.out ≡ sent_from old.accounts (length old.base + 1) history) × NoticesValid pay history
  GivesBooked pay (Err s) = ((s ≡ status.Memory) × (new ≡ disk_of old.file)) ⊎ ((stop : BookStop) × (s ≡ status_of_booking stop) × StopsAtPay pay stop)

  -- the same of the return of a place; or no return was made, and the disk is as it was
  abbrev pub GivesReturned : ℕ → Day → Result Texts Status → Type 0
  GivesReturned place day (Ok texts) = (pay : Pay) × MayReturn old.accounts old.base place day pay × GivesBooked pay (Ok texts)
  GivesReturned place day (Err s) =
      ((stop : ReturnFault) × (s ≡ status_of_return stop) × TellsReturnFault old.accounts old.base place day stop × (new ≡ disk_of old.file))
      ⊎ ((pay : Pay) × MayReturn old.accounts old.base place day pay × GivesBooked pay (Err s))
