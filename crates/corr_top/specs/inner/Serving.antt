-- What workers make of messages over books, and what of it stands when the books are closed.
use Rattle.std.specs.Prelude.{◌≡◌, ◌⊎◌, ℕ, All, IfErr, IfOk, List, [], ◌++◌, length, Option, None, Some, Result, Ok, Err, slice_get, map, take}
use Rattle.corr_disk.specs.declared.disk.Disk as disks
use Rattle.corr_ids.specs.declared.mir.Mir.{Mir}
use Rattle.corr_text.specs.Faults.{Rose}
use Rattle.corr_books.specs.Closing.{LeavesClosed, LeavesInTurn}
use Rattle.corr_books.specs.Opening.{Opening}
use Rattle.corr_books.specs.Telling.{Told}
use Rattle.day_model.specs.declared.entry.Entry.{Entry}
use Rattle.day_model.specs.declared.pay.Pay.{Pay}
use Rattle.day_model.specs.declared.reply.Reply.{Reply}
use Rattle.day_model.specs.declared.reply.Reply.TheVariants as reply
use Rattle.day_model.specs.Chart.{Chart}
use Rattle.day_model.specs.Next.{fold_of}
use Rattle.day_model.specs.Shape.{HasShape}
use Rattle.front_word.specs.Known.{PassKnows}
use Rattle.jrn_book.specs.Answers.{Answer}
use Rattle.jrn_book.specs.Journal.{IsJournal}
use Rattle.jrn_book.specs.declared.answer.Committed.TheVariants.{New, Kept}
use Rattle.jrn_book.specs.declared.answer.CommitFault.TheVariants as fault
use Rattle.corr_top.specs.declared.desk.Halt.{Halt}
use Rattle.corr_top.specs.declared.desk.Halt.TheVariants as halt
use Rattle.corr_top.specs.declared.desk.Served.{Served}
use Rattle.corr_top.specs.declared.desk.Served.TheVariants as served
use Rattle.corr_top.specs.inner.Workers.{Worker}
use Rattle.corr_top.specs.declared.message.NoPay.{NoPay}
use Rattle.corr_top.specs.declared.serving.ServedDay.{ServedDay}
use Rattle.corr_top.specs.Booking.{BeginsNew, EntersFront, HadNoRoom, IsEnteredOn, LacksRoom}
use Rattle.corr_top.specs.Message.{pays_in, reply_for, message_reply}

-- an entry's pay has the shape of what is written down
abbrev pub HasPayShape : Entry → Type 0
HasPayShape e = HasShape e.pay

-- ---- one message

-- what the answer to the pay of a reference makes of its message
abbrev pub served_of : Mir → Answer → Served
served_of mir (Ok (New place outcome)) = served.Reply (reply.Entered mir place)
served_of mir (Ok (Kept place outcome)) = served.Reply (reply.Entered mir place)
served_of mir (Err (fault.Conflict place)) = served.Reply (reply.Conflict mir place)
served_of mir (Err (fault.Full entries end need)) = served.Full entries end need
served_of mir (Err (fault.DiskFault before after)) = served.Stopped (halt.Disk before after)
served_of mir (Err (fault.Broken at_open now)) = served.Stopped halt.Broken
served_of mir (Err fault.Memory) = served.Stopped halt.Memory

-- why the worker of a message serves no more
abbrev pub halt_of : Served → Option Halt
halt_of (served.Reply told) = None
halt_of (served.Full entries end need) = None
halt_of (served.Stopped why) = Some why

-- What became of a message that asks for a pay, or gives none, and of a pass: the pay was booked with the pass, and the answer
-- tells what became of the message; or it has the reply of a message without a pay. Where memory ran out before that, the pass is
-- as it was; so it is where there is no pay.
abbrev pub AnswersMessage : Opening → Result Pay NoPay → PassKnows → PassKnows → Served → Type 0
AnswersMessage o (Ok pay) old new made =
    ((new ≡ old) × (made ≡ served.Stopped halt.Memory)) ⊎ ((answer : Answer) × Told o pay old answer new × HasShape pay × (made ≡ served_of pay.mir answer))
AnswersMessage o (Err why) old new made = (new ≡ old) × ((made ≡ served.Stopped halt.Memory) ⊎ (made ≡ served.Reply (reply_for why)))

-- What a worker makes of a message: it answers it, and goes on unless that stops it; one that has stopped serves no more.
abbrev pub Serves : Opening → Result Pay NoPay → Worker → Worker → Served → Type 0
Serves o reading old new made =
    ((old.halted ≡ None) × AnswersMessage o reading old.pass new.pass made × (new.halted ≡ halt_of made))
    ⊎ ((why : Halt) × (old.halted ≡ Some why) × (new ≡ old) × (made ≡ served.Stopped why))

-- a worker that has not served yet
abbrev pub starting : PassKnows → Worker
starting pass = record { pass = pass; halted = None }

-- ---- a message, when the books are closed

-- Why a worker stopped: a disk that failed tells its count of faults when the books were opened, and one more; else nothing is told.
abbrev pub TellsHalt : Opening → Halt → Type 0
TellsHalt o (halt.Disk before after) = (before ≡ o.at_open) × Rose before after
TellsHalt o halt.Broken = Unit {0}
TellsHalt o halt.Memory = Unit {0}

-- What was made of a message, by the history at the end. A reply is the one after that history; where there was no room, its pay had none;
-- a worker that stopped tells why.
abbrev pub IsTold : Opening → List Entry → Result Pay NoPay → Served → Type 0
IsTold o history reading (served.Reply told) = message_reply history reading ≡ Some told
IsTold o history reading (served.Full entries end need) = (pay : Pay) × (reading ≡ Ok pay) × HadNoRoom o.accounts o.base o.day history pay entries end need
IsTold o history reading (served.Stopped why) = TellsHalt o why

-- each message was served, in the order of the messages
pub record AreTold (o : Opening) (history : List Entry) (readings : List (Result Pay NoPay)) (made : List Served) : Type 0 where
  pub each : length made ≡ length readings
  pub told : (n : ℕ) (reading : Result Pay NoPay) (one : Served) → slice_get readings n ≡ Some reading → slice_get made n ≡ Some one → IsTold o history reading one

-- these messages have these replies
abbrev pub are_replies : List Reply → List Served
are_replies replies = map served.Reply replies

-- a message found no room, and each of those ahead of it has a reply
pub record IsFirstFull (made : List Served) (entries end need : ℕ) : Type 0 where
  pub at : ℕ
  pub replies : List Reply
  pub ahead : take at made ≡ are_replies replies
  pub there : slice_get made at ≡ Some (served.Full entries end need)

-- a message was answered, or its pay found no room
abbrev pub IsTried : Served → Type 0
IsTried (served.Reply told) = Unit {0}
IsTried (served.Full entries end need) = Unit {0}
IsTried (served.Stopped why) = ⊥

-- one of them says that the disk failed over its pay
abbrev pub SaysFailed : List Served → Type 0
SaysFailed made = (at : ℕ) × (before : ℕ) × (after : ℕ) × (slice_get made at ≡ Some (served.Stopped (halt.Disk before after)))

-- the first that says so tells these counts of the disk's faults
pub record IsFirstFailed (made : List Served) (before after : ℕ) : Type 0 where
  pub at : ℕ
  pub there : slice_get made at ≡ Some (served.Stopped (halt.Disk before after))
  pub ahead : SaysFailed (take at made) → ⊥

-- A front part of these pays was entered, but those without room: all of them were tried where each message was answered or found
-- no room; where the disk failed over a pay, it is the first after them, and is not entered.
pub record AreEntered (o : Opening) (history : List Entry) (pays : List Pay) (made : List Served) : Type 0 where
  pub entered : EntersFront o.accounts o.base pays o.day history
  pub all : All IsTried made → entered.rest ≡ []
  pub failed : SaysFailed made → BeginsNew history entered.rest

-- One worker served the messages in their order: where each has a reply, it made the fold of their pays; the first that found no
-- room found none in the fold of the pays ahead of it; and whatever became of them, a front part of the pays was entered.
pub record AreServedInOrder (o : Opening) (history : List Entry) (readings : List (Result Pay NoPay)) (made : List Served) : Type 0 where
  pub all : (replies : List Reply) → made ≡ are_replies replies → history ≡ fold_of o.accounts o.base (pays_in readings) o.day
  pub short : (entries end need : ℕ) → IsFirstFull made entries end need → LacksRoom o.accounts o.base (pays_in readings) o.day history entries end need
  pub entered : AreEntered o history (pays_in readings) made

-- ---- the journal, when the books are closed

-- The history is that at the opening and further entries of the day, each of a pay of the messages, in a journal that may be
-- opened again. The disk is as closing the books leaves it, and so it was at each moment since they were opened.
pub record HasServed {D : Type 0} (disk : disks.Ghosts D) (o : Opening) (past : ℕ → List ℕ → Type 0) (readings : List (Result Pay NoPay)) (chart : Chart) (history : List Entry) (left : D) : Type 0 where
  pub accounts : chart ≡ o.accounts
  pub added : List Entry
  pub is : history ≡ o.base ++ added
  pub each : All (IsEnteredOn o.day (pays_in readings)) added
  pub journal : IsJournal o.accounts history
  pub leaves : LeavesClosed disk o history left
  pub in_turn : LeavesInTurn disk o past history left
  pub honest : disk.honest left ≡ o.honest

-- The messages that a feed gave were served over books, and the books were closed: what is left, and, unless memory ran out, what was made
-- of each message. One worker entered a front part of their pays.
pub record FeedServed {D : Type 0} (disk : disks.Ghosts D) (o : Opening) (past : ℕ → List ℕ → Type 0) (readings : List (Result Pay NoPay)) (day : ServedDay D) : Type 0 where
  pub left : HasServed disk o past readings day.closed.accounts day.closed.history.entries day.closed.disk
  pub told : IfOk day.served (λ made. AreTold o day.closed.history.entries readings made.items)
  pub turn : IfOk day.served (λ made. o.made ≡ 1 → AreServedInOrder o day.closed.history.entries readings made.items)
  pub front : o.made ≡ 1 → EntersFront o.accounts o.base (pays_in readings) o.day day.closed.history.entries

-- Messages were served over books, and the books were closed: what is left, and what was made of each message; or there was no
-- memory to serve any, and nothing was entered.
pub record AllServed {D : Type 0} (disk : disks.Ghosts D) (o : Opening) (past : ℕ → List ℕ → Type 0) (readings : List (Result Pay NoPay)) (day : ServedDay D) : Type 0 where
  pub left : HasServed disk o past readings day.closed.accounts day.closed.history.entries day.closed.disk
  pub told : IfOk day.served (λ made. AreTold o day.closed.history.entries readings made.items)
  pub turn : IfOk day.served (λ made. o.made ≡ 1 → AreServedInOrder o day.closed.history.entries readings made.items)
  pub none : IfErr day.served (λ _. day.closed.history.entries ≡ o.base)
