-- Pays that workers enter, and how that stops.
use Rattle.std.specs.Prelude.{◌≡◌, ◌⊎◌, ℕ, ◌+◌, ◌<◌, ◌<ℤ◌, All, List, [], ◌∷◌, ◌++◌, IsSome, length, map, slice_get, Some, None}
use Rattle.corr_disk.specs.declared.disk.Disk as outside
use Rattle.corr_ids.specs.Day.{InCentury}
use Rattle.corr_ids.specs.declared.day.Day.{Day}
use Rattle.day_model.specs.declared.entry.Entry.{Entry}
use Rattle.day_model.specs.declared.pay.Pay.{Pay}
use Rattle.day_model.specs.Chart.{Chart}
use Rattle.day_model.specs.Legal.{IsLegal}
use Rattle.day_model.specs.Next.{entered_at, fold_of}
use Rattle.jrn_book.specs.Answers.{FindsNoRoom}
use Rattle.jrn_book.specs.Batches.{entered_of}
use Rattle.jrn_book.specs.Journal.{IsJournal}
use Rattle.jrn_file.specs.Faults.{TellsCounts}
use Rattle.corr_top.specs.declared.answers.BookStop.{BookStop}
use Rattle.corr_top.specs.declared.answers.BookStop.TheVariants as booking
use Rattle.corr_top.specs.Inputs.{Inputs, new_in, pays_of, replies_of}
use Rattle.corr_top.specs.OnDisk.{HasNotFailed, IsLeft, LeavesMidway}

-- the last entry of a history has this day, and it is after the day of a run
pub record IsBack (history : List Entry) (day back : Day) : Type 0 where
  pub front : List Entry
  pub last : Entry
  pub history_is : history ≡ front ++ last ∷ []
  pub day_is : back ≡ last.day
  pub after : day.0 <ℤ last.day.0
  pub century : InCentury back

-- an entry that a run added: of its day, and of a pay of its file
pub record IsEnteredOn (day : Day) (pays : List Pay) (e : Entry) : Type 0 where
  pub day_is : e.day ≡ day
  pub place : ℕ
  pub pay_is : slice_get pays place ≡ Some e.pay

-- Each message has a reply, and the history is legal: no reference is entered twice, each outcome is that of the entries before
-- it, so debits equal credits. The entries that were added are those of the entered pays in their order, each of the day and of a
-- pay of the file; and each pay of the file is entered. One worker enters them in the order of the file.
pub record AreAnswered (i : Inputs) : Type 0 where
  pub each : length (replies_of i) ≡ length i.cut
  pub legal : IsLegal i.chart (new_in i)
  pub added : List Entry
  pub is : new_in i ≡ i.history ++ added
  pub pays : map (λ e. e.pay) added ≡ i.entered
  pub of_file : All (IsEnteredOn i.day (pays_of i)) added
  pub entered : (k : ℕ) (pay : Pay) → slice_get (pays_of i) k ≡ Some pay → IsSome (entered_at pay.mir (new_in i))
  pub alone : i.workers ≡ 1 → new_in i ≡ fold_of i.chart i.history (pays_of i) i.day

-- A pay found no room in what was entered then: a beginning of what is left, which has all of the journal as it was opened. The numbers
-- are those of that history.
pub record HadNoRoom (chart : Chart) (history : List Entry) (day : Day) (left : List Entry) (pay : Pay) (entries end need : ℕ) : Type 0 where
  pub front : List Entry
  pub later : List Entry
  pub left_is : left ≡ (history ++ front) ++ later
  pub finds : FindsNoRoom chart (history ++ front) pay day entries end need

-- The first pay of the file that found no room. Those ahead of it in the file are entered.
pub record LacksRoomThen (chart : Chart) (history : List Entry) (pays : List Pay) (day : Day) (left : List Entry) (entries end need : ℕ) : Type 0 where
  pub place : ℕ
  pub pay : Pay
  pub pay_is : slice_get pays place ≡ Some pay
  pub ahead : (k : ℕ) (other : Pay) → k < place → slice_get pays k ≡ Some other → IsSome (entered_at other.mir left)
  pub had : HadNoRoom chart history day left pay entries end need

-- Of one worker: the first pay that found no room, in the history that those ahead of it make, entered as one thread does.
pub record LacksRoom (chart : Chart) (history : List Entry) (pays : List Pay) (day : Day) (left : List Entry) (entries end need : ℕ) : Type 0 where
  pub front : List Pay
  pub pay : Pay
  pub rest : List Pay
  pub pays_are : pays ≡ front ++ pay ∷ rest
  pub later : List Entry
  pub left_is : left ≡ fold_of chart history front day ++ later
  pub finds : FindsNoRoom chart (fold_of chart history front day) pay day entries end need

-- the cause: a call of the disk failed; or a pay found no room, of one worker the first in the order of the file, and no call
-- failed; out of memory tells nothing
abbrev pub BookCause : {D : Type 0} → outside.Ghosts D → D → D → Chart → List Entry → List Pay → Day → ℕ → List Entry → BookStop → Type 0
BookCause d old new chart history pays day workers left (booking.DiskFault before after) = TellsCounts (d.faults old) before after (d.faults new)
BookCause d old new chart history pays day workers left (booking.Full entries end need) = HasNotFailed d old new × LacksRoomThen chart history pays day left entries end need
    × (workers ≡ 1 → LacksRoom chart history pays day left entries end need)
BookCause d old new chart history pays day workers left booking.Memory = Unit {0}

-- Where room was wanting, each pay of the file was tried: its reference is entered, or it had no room. A failed disk and out
-- of memory leave pays that were not tried.
abbrev pub EachTried : Chart → List Entry → List Pay → Day → List Entry → BookStop → Type 0
EachTried chart history pays day left (booking.DiskFault before after) = Unit {0}
EachTried chart history pays day left (booking.Full entries end need) =
    (k : ℕ) (pay : Pay) → slice_get pays k ≡ Some pay
    → IsSome (entered_at pay.mir left) ⊎ ((count : ℕ) × (gate : ℕ) × (bytes : ℕ) × HadNoRoom chart history day left pay count gate bytes)
EachTried chart history pays day left booking.Memory = Unit {0}

-- the first of these pays is not entered
pub record BeginsNew (left : List Entry) (pays : List Pay) : Type 0 where
  pub pay : Pay
  pub more : List Pay
  pub pays_are : pays ≡ pay ∷ more
  pub new : entered_at pay.mir left ≡ None

-- A front part of the pays was entered, one after another, but those without room. The first after it, if there is one, is not entered.
pub record EntersFront (chart : Chart) (history : List Entry) (pays : List Pay) (day : Day) (left : List Entry) : Type 0 where
  pub front : List Pay
  pub rest : List Pay
  pub pays_are : pays ≡ front ++ rest
  pub left_is : left ≡ entered_of chart history front day
  pub next : (rest ≡ []) ⊎ BeginsNew left rest

-- what was not come to: nothing where room was wanting; a failed disk stops at a pay that is new; memory may run out at any
abbrev pub StopsBefore : List Entry → BookStop → List Pay → Type 0
StopsBefore left (booking.DiskFault before after) rest = BeginsNew left rest
StopsBefore left (booking.Full entries end need) rest = rest ≡ []
StopsBefore left booking.Memory rest = Unit {0}

-- of one worker: which pays were entered, in the order of the file, and where that stopped
pub record EntersInOrder (chart : Chart) (history : List Entry) (pays : List Pay) (day : Day) (left : List Entry) (stop : BookStop) : Type 0 where
  pub entered : EntersFront chart history pays day left
  pub stops : StopsBefore left stop entered.rest

-- How the entering of pays on a day stops: by its cause. What is left is the journal's history and further entries of the day, each of
-- one of the pays, in a journal that may be opened again, and a crash at each moment left a front part of it; where room was wanting
-- each of the pays was tried, and one worker entered a front part of them. At most so many entries were written by one call.
pub record StopsEntering {D : Type 0} (d : outside.Ghosts D) (old new : D) (chart : Chart) (history : List Entry) (pays : List Pay) (day : Day) (workers most : ℕ) (stop : BookStop) : Type 0 where
  pub added : List Entry
  pub each : All (IsEnteredOn day pays) added
  pub tried : EachTried chart history pays day (history ++ added) stop
  pub alone : workers ≡ 1 → EntersInOrder chart history pays day (history ++ added) stop
  pub journal : IsJournal chart (history ++ added)
  pub left : IsLeft d old new chart (history ++ added) day most
  pub any_moment : LeavesMidway d old new chart history (history ++ added) day most
  pub cause : BookCause d old new chart history pays day workers (history ++ added) stop

-- how the entering of the pays of a file stops
abbrev pub StopsBooking : {D : Type 0} → outside.Ghosts D → D → D → Inputs → BookStop → Type 0
StopsBooking d old new i stop = StopsEntering d old new i.chart i.history (pays_of i) i.day i.workers i.entries stop
