-- The part of a run between the opening of the books and their closing.
use Rattle.std.specs.Prelude.{◌≡◌, ◌⊎◌, ◌+◌, ℕ, All, IfErr, IfOk, List, IsSome, length, slice_get, Some, Result, Ok, Err}
use Rattle.corr_books.specs.Opening.{Opening, Parts, opening_with, past_of}
use Rattle.corr_disk.specs.declared.disk.Disk as disks
use Rattle.corr_io.specs.declared.source.Source as sources
use Rattle.corr_text.specs.Faults.{Rose}
use Rattle.corr_report.specs.Report.{NamesPlace, report_of}
use Rattle.day_model.specs.declared.entry.Entry.{Entry}
use Rattle.day_model.specs.declared.pay.Pay.{Pay}
use Rattle.day_model.specs.declared.reply.Reply.{Reply}
use Rattle.day_model.specs.Chart.{Chart}
use Rattle.day_model.specs.Next.{entered_at, fold_of}
use Rattle.jrn_file.specs.File.{disk_of}
use Rattle.corr_top.specs.declared.answers.BookStop.{BookStop}
use Rattle.corr_top.specs.declared.answers.BookStop.TheVariants as booking
use Rattle.corr_top.specs.declared.cutting.FileStop.{FileStop}
use Rattle.corr_top.specs.declared.desk.Served.{Served}
use Rattle.corr_top.specs.declared.directory.Directory.{Directory}
use Rattle.corr_top.specs.declared.message.NoPay.{NoPay}
use Rattle.corr_top.specs.declared.serving.ServedDay.{ServedDay}
use Rattle.corr_top.specs.declared.status.Status.{Status}
use Rattle.corr_top.specs.declared.status.Status.TheVariants as status
use Rattle.corr_top.specs.declared.writing.Texts.{Texts}
use Rattle.corr_top.specs.Booking.{EachTried, EntersFront, EntersInOrder, LacksRoom, LacksRoomThen}
use Rattle.corr_top.specs.inner.Collecting.{IsCalm, StopsAsServed}
use Rattle.corr_top.specs.Message.{pays_in, readings_of, replies_in}
use Rattle.corr_top.specs.Origin.{AreSentValid}
use Rattle.corr_top.specs.inner.Origin.{SendsAccepted}
use Rattle.corr_top.specs.Out.{sent_from}
use Rattle.corr_top.specs.Passing.{AreGiven, HasMessages, StopsAtMessages}
use Rattle.corr_top.specs.inner.Serving.{HasServed, are_replies}
use Rattle.corr_top.specs.Stops.{status_of_booking, status_of_file}

-- the texts over accounts, a history and replies, one for each message, where the disk didn't fail
pub record AreTexts (chart : Chart) (history : List Entry) (made : List Served) (before after count : ℕ) (texts : Texts) : Type 0 where
  pub replies : List Reply
  pub made_is : made ≡ are_replies replies
  pub calm : IsCalm before after
  pub report_is : texts.report ≡ report_of chart history replies
  pub out_is : texts.out ≡ sent_from chart (count + 1) history
  pub accepted : SendsAccepted chart (count + 1) history

-- why there are none
pub record HasNoTexts (made : List Served) (before after : ℕ) (s : Status) : Type 0 where
  pub stop : BookStop
  pub status_is : s ≡ status_of_booking stop
  pub stops : StopsAsServed before after made stop

-- the texts, or why there are none
abbrev pub GivesTexts : Chart → List Entry → List Served → ℕ → ℕ → ℕ → Result Texts Status → Type 0
GivesTexts chart history made before after count (Ok texts) = AreTexts chart history made before after count texts
GivesTexts chart history made before after count (Err s) = HasNoTexts made before after s

-- the same of a day that was served; where there was no memory to serve any message, there is none for the texts
pub record GivesServed {D : Type 0} (disk : disks.Ghosts D) (day : ServedDay D) (before count : ℕ) (r : Result Texts Status) : Type 0 where
  pub texts : IfOk day.served (λ made. GivesTexts day.closed.accounts day.closed.history.entries made.items before (disk.faults day.closed.disk) count r)
  pub none : IfErr day.served (λ _. r ≡ Err status.Memory)

-- Each message has its reply after the history, and each pay of the messages is entered in it. One worker made the fold of the
-- pays in the order of the messages.
pub record HasAnswered (o : Opening) (readings : List (Result Pay NoPay)) (history : List Entry) (replies : List Reply) : Type 0 where
  pub replies_are : replies ≡ replies_in history readings
  pub each : length replies ≡ length readings
  pub places : All (NamesPlace history) replies
  pub entered : (k : ℕ) (pay : Pay) → slice_get (pays_in readings) k ≡ Some pay → IsSome (entered_at pay.mir history)
  pub alone : o.made ≡ 1 → history ≡ fold_of o.accounts o.base (pays_in readings) o.day

-- why not each pay was entered: the disk failed; one found no room, and the disk didn't fail; or memory ran out
abbrev pub StopCause : Opening → List Pay → List Entry → ℕ → BookStop → Type 0
StopCause o pays history faults (booking.DiskFault before after) = (before ≡ o.at_open) × (after ≡ faults) × Rose before after
StopCause o pays history faults (booking.Full entries end need) =
    (faults ≡ o.at_open) × LacksRoomThen o.accounts o.base pays o.day history entries end need
    × (o.made ≡ 1 → LacksRoom o.accounts o.base pays o.day history entries end need)
StopCause o pays history faults booking.Memory = Unit {0}

module _ {S D : Type 0} (source : sources.Ghosts S) (disk : disks.Ghosts D) (directory : Directory) (workers most : ℕ) (from to : S) (old : Parts D) (new : D) where
  -- what the messages ask for
  abbrev pub readings_in : List (List ℕ) → List (Result Pay NoPay)
  readings_in cut = readings_of directory old.accounts cut

  -- the message file is these messages, and the workers answered each of them
  pub record HasDay (bytes : List ℕ) (cut : List (List ℕ)) (history : List Entry) (replies : List Reply) : Type 0 where
    pub file : HasMessages source from to bytes cut
    pub served : HasServed disk (opening_with disk old workers most) (past_of disk old) (readings_in cut) old.accounts history new
    pub calm : IsCalm old.at_open (disk.faults new)
    pub answered : HasAnswered (opening_with disk old workers most) (readings_in cut) history replies

  -- there was no memory for the feed or for the books: nothing was read or served, and the disk is as it was
  pub record HasNoDay (s : Status) : Type 0 where
    pub status_is : s ≡ status.Memory
    pub unread : to ≡ from
    pub same : new ≡ disk_of old.file

  -- the message file stopped the run, or memory ran out while its messages were served: those that were given until then were served, one
  -- worker entered a front part of their pays
  pub record StopsAtFile (s : Status) : Type 0 where
    pub stop : FileStop
    pub bytes : List ℕ
    pub given : List (List ℕ)
    pub history : List Entry
    pub status_is : s ≡ status_of_file stop
    pub stops : StopsAtMessages source from to bytes stop
    pub are_given : AreGiven source from to bytes given
    pub served : HasServed disk (opening_with disk old workers most) (past_of disk old) (readings_in given) old.accounts history new
    pub alone : workers ≡ 1 → EntersFront old.accounts old.base (pays_in (readings_in given)) old.day history

  -- not all its pays were entered, or there was no memory for the texts
  pub record StopsAtPays (s : Status) : Type 0 where
    pub stop : BookStop
    pub bytes : List ℕ
    pub cut : List (List ℕ)
    pub history : List Entry
    pub status_is : s ≡ status_of_booking stop
    pub file : HasMessages source from to bytes cut
    pub served : HasServed disk (opening_with disk old workers most) (past_of disk old) (readings_in cut) old.accounts history new
    pub tried : EachTried old.accounts old.base (pays_in (readings_in cut)) old.day history stop
    pub alone : workers ≡ 1 → EntersInOrder old.accounts old.base (pays_in (readings_in cut)) old.day history stop
    pub cause : StopCause (opening_with disk old workers most) (pays_in (readings_in cut)) history (disk.faults new) stop

  -- the texts over what was answered, with messages that are valid under the tables
  pub record HasDayTexts (texts : Texts) : Type 0 where
    pub bytes : List ℕ
    pub cut : List (List ℕ)
    pub history : List Entry
    pub replies : List Reply
    pub day : HasDay bytes cut history replies
    pub report_is : texts.report ≡ report_of old.accounts history replies
    pub out_is : texts.out ≡ sent_from old.accounts (length old.base + 1) history
    pub valid : AreSentValid directory.tables old.accounts (length old.base + 1) history

  -- the texts, or why there are none
  abbrev pub GivesDay : Result Texts Status → Type 0
  GivesDay (Ok texts) = HasDayTexts texts
  GivesDay (Err s) = HasNoDay s ⊎ (StopsAtFile s ⊎ StopsAtPays s)
