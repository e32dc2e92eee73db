-- What passing a step of a command means, and how it stops there.
use Rattle.std.specs.Prelude.{ℕ, ◌≡◌, ◌⊎◌, ◌+◌, ◌≤◌, ◌<◌, List, length, Option, Some, None, pos}
use Rattle.std.specs.Io.KnownBytes.{Consumes}
use Rattle.corr_disk.specs.declared.disk.Disk as disks
use Rattle.corr_ids.specs.declared.day.Day.{Day}
use Rattle.corr_io.specs.declared.source.Source as sources
use Rattle.corr_money.specs.declared.amount.Ccy.{Ccy}
use Rattle.corr_money.specs.Amounts.{most_decimals}
use Rattle.fin_frame.specs.Shown.{ShowWhole}
use Rattle.day_model.specs.declared.fault.AccountsFault.{AccountsFault}
use Rattle.day_model.specs.declared.fault.AccountsFault.TheVariants as refused
use Rattle.day_model.specs.Chart.{opening_sum}
use Rattle.day_model.specs.Gap.{TellsUnbalanced}
use Rattle.day_model.specs.Laws.{IsLatest}
use Rattle.jrn_file.specs.declared.fault.MakeFault.{MakeFault}
use Rattle.jrn_file.specs.declared.fault.OpenFault.{OpenFault}
use Rattle.ref_tables.specs.Rows.{most_table_bytes}
use Rattle.ref_tables.specs.declared.fault.TableName.{TableName}
use Rattle.ref_tables.specs.declared.fault.TableName.TheVariants as names
use Rattle.ref_tables.specs.declared.fault.Why.{Why}
use Rattle.ref_tables.specs.Accounts.{accounts_fault}
use Rattle.ref_tables.specs.Charges.{charges_fault}
use Rattle.ref_tables.specs.Refusals.{named}
use Rattle.ref_tables.specs.Tables.{bics_fault, ccys_fault, countries_fault}
use Rattle.ssi_versions.specs.Rows.{ssi_fault}
use Rattle.corr_top.specs.declared.answers.BookStop.{BookStop}
use Rattle.corr_top.specs.declared.answers.BookStop.TheVariants as booking
use Rattle.corr_top.specs.declared.cutting.FileStop.{FileStop}
use Rattle.corr_top.specs.declared.cutting.FileStop.TheVariants as file
use Rattle.corr_top.specs.declared.room.Room.{Room}
use Rattle.corr_top.specs.declared.room.Tables.{Tables}
use Rattle.corr_top.specs.declared.status.Status.{Status}
use Rattle.corr_top.specs.declared.status.Status.TheVariants as status
use Rattle.corr_top.specs.declared.tables.TableStop.{TableStop}
use Rattle.corr_top.specs.declared.tables.TableStop.TheVariants as table
use Rattle.corr_top.specs.Booking.{AreAnswered, IsBack, StopsBooking}
use Rattle.corr_top.specs.Changed.{change_step}
use Rattle.corr_top.specs.Copied.{copy_step, old_journal_step, second_step}
use Rattle.corr_top.specs.Followed.{begin_step, packets_step, take_step}
use Rattle.corr_top.specs.Inputs.{Inputs, accounts_in, chart_in, pays_of, tables_in}
use Rattle.corr_top.specs.MessageFile.{IsMessageFile, StopsCutting, most_message_bytes, most_messages}
use Rattle.corr_top.specs.OnDisk.{HasNotFailed, HoldsJournal, IsMakeable, IsUnwritten, StopsMaking, StopsOpening}
use Rattle.corr_top.specs.Reading.{Failed, Took}
use Rattle.corr_top.specs.Ready.{HasRoomForAll, IsSure, TellsAll}
use Rattle.corr_top.specs.Returned.{book_return_step, make_return_step}
use Rattle.corr_top.specs.StepMeaning.{StepMeaning}
use Rattle.corr_top.specs.Steps.{Step}
use Rattle.corr_top.specs.Stops.{status_of_booking, status_of_day, status_of_file, status_of_making, status_of_opening, status_of_sums, status_of_table}

-- ---- a table

-- the source of a table
abbrev pub table_at : {S : Type 0} → TableName → Tables S → S
table_at names.Bics tables = tables.bics
table_at names.Ccys tables = tables.ccys
table_at names.Countries tables = tables.countries
table_at names.Accounts tables = tables.accounts
table_at names.Ssi tables = tables.ssi
table_at names.Charges tables = tables.charges

-- its bytes
abbrev pub table_file : TableName → Inputs → List ℕ
table_file names.Bics i = i.bics
table_file names.Ccys i = i.ccys
table_file names.Countries i = i.countries
table_file names.Accounts i = i.accounts
table_file names.Ssi i = i.ssi
table_file names.Charges i = i.charges

-- a fault of a table: which, the row, and why
abbrev pub Bad : Type 0
Bad = TableName × ℕ × Why

-- the first fault of a table, given the tables ahead of it
abbrev pub table_fault : TableName → Inputs → Option Bad
table_fault names.Bics i = named names.Bics (bics_fault i.bics)
table_fault names.Ccys i = named names.Ccys (ccys_fault i.ccys)
table_fault names.Countries i = named names.Countries (countries_fault i.countries)
table_fault names.Accounts i = named names.Accounts (accounts_fault i.home.head (tables_in i) i.accounts)
table_fault names.Ssi i = named names.Ssi (ssi_fault (tables_in i) i.ssi)
table_fault names.Charges i = named names.Charges (charges_fault (tables_in i) i.charges)

-- a table was read, of at most 8 MiB, and has no fault
pub record IsFine {S : Type 0} (source : sources.Ghosts S) (old new : S) (bytes : List ℕ) (fault : Option Bad) : Type 0 where
  pub took : Took source.left source.faults most_table_bytes old new bytes
  pub no_fault : fault ≡ None

-- how reading and testing it stops: its source fails, it has this fault, or memory runs out
abbrev pub StopsAtTable : {S : Type 0} → sources.Ghosts S → S → S → List ℕ → Option Bad → TableStop → Type 0
StopsAtTable source old new bytes fault (table.Fault then now) = Failed source.faults old new then now
StopsAtTable source old new bytes fault (table.Bad name row why) = Took source.left source.faults most_table_bytes old new bytes × (fault ≡ Some (name, row, why))
StopsAtTable source old new bytes fault table.Memory = source.faults new ≡ source.faults old

module _ {S : Type 0} (source : sources.Ghosts S) (old new : Tables S) (i : Inputs) where
  -- the table of this name was read and is fine
  abbrev pub PassesTable : TableName → Type 0
  PassesTable name = IsFine source (table_at name old) (table_at name new) (table_file name i) (table_fault name i)

  -- it wasn't, for a reason that the status tells
  abbrev pub StopsTable : Status → TableName → Type 0
  StopsTable s name = (stop : TableStop) × (s ≡ status_of_table stop) × StopsAtTable source (table_at name old) (table_at name new) (table_file name i) (table_fault name i) stop

-- it is read
abbrev pub table_step : TableName → StepMeaning
table_step name = record {
  passes = λ source disk old new i. PassesTable source old.tables new.tables i name;
  stops = λ source disk old new i s. StopsTable source old.tables new.tables i s name;
  untouched = λ disk old new. table_at name new.tables ≡ table_at name old.tables;
  ready = λ source disk old new i. TellsAll source (table_at name old.tables) (table_at name new.tables) (table_file name i) × (table_fault name i ≡ None);
}

-- ---- the sums of the openings

-- the openings of each currency sum to 0
abbrev pub Balances : Inputs → Type 0
Balances i = (ccy : Ccy) → opening_sum ccy (accounts_in i) ≡ pos 0

-- a currency's openings don't; its decimals are at most 4
abbrev pub StopsAtSums : Inputs → AccountsFault → Type 0
StopsAtSums i (refused.Unbalanced ccy decimals sum) = TellsUnbalanced (accounts_in i) (refused.Unbalanced ccy decimals sum) × (decimals ≤ most_decimals)
StopsAtSums i refused.Memory = Unit {0}

-- a status tells it
abbrev pub StopsSums : Inputs → Status → Type 0
StopsSums i s = (stop : AccountsFault) × (s ≡ status_of_sums stop) × StopsAtSums i stop

-- they are added up
abbrev pub sums_step : StepMeaning
sums_step = record {
  passes = λ source disk old new i. Balances i;
  stops = λ source disk old new i s. StopsSums i s;
  untouched = λ disk old new. Unit {0};
  ready = λ source disk old new i. Balances i;
}

-- ---- the message file

-- it was read, and is these messages
pub record HasMessages {S : Type 0} (source : sources.Ghosts S) (old new : S) (bytes : List ℕ) (cut : List (List ℕ)) : Type 0 where
  pub took : Took source.left source.faults most_message_bytes old new bytes
  pub are : IsMessageFile bytes cut

-- how reading it stops: its source fails, it passes a limit, it can't be cut, or memory runs out
abbrev pub StopsAtMessages : {S : Type 0} → sources.Ghosts S → S → S → List ℕ → FileStop → Type 0
StopsAtMessages source old new bytes (file.Fault then now) = Failed source.faults old new then now
StopsAtMessages source old new bytes (file.TooLarge count messages) = Took source.left source.faults most_message_bytes old new bytes × StopsCutting bytes (file.TooLarge count messages)
StopsAtMessages source old new bytes (file.Framing at) = Took source.left source.faults most_message_bytes old new bytes × StopsCutting bytes (file.Framing at)
StopsAtMessages source old new bytes file.Memory = source.faults new ≡ source.faults old

-- it is read
abbrev pub messages_step : StepMeaning
messages_step = record {
  passes = λ source disk old new i. HasMessages source old.messages new.messages i.messages i.cut;
  stops = λ source disk old new i s. (stop : FileStop) × (s ≡ status_of_file stop) × StopsAtMessages source old.messages new.messages i.messages stop × HasNotFailed disk old.disk new.disk;
  untouched = λ disk old new. new.messages ≡ old.messages;
  ready = λ source disk old new i. TellsAll source old.messages new.messages i.messages × IsMessageFile i.messages i.cut;
}

-- that of the received messages is read
abbrev pub received_step : StepMeaning
received_step = record {
  passes = λ source disk old new i. HasMessages source old.received new.received i.messages i.cut;
  stops = λ source disk old new i s. (stop : FileStop) × (s ≡ status_of_file stop) × StopsAtMessages source old.received new.received i.messages stop
      × HasNotFailed disk old.disk new.disk × IsUnwritten disk old.disk new.disk;
  untouched = λ disk old new. new.received ≡ old.received;
  ready = λ source disk old new i. TellsAll source old.received new.received i.messages × IsMessageFile i.messages i.cut;
}

-- ---- the serving of its messages, while it is read

-- these bytes of a source were read, at most one more than a message file may have
pub record HasRead (before after : Option (List ℕ)) (bytes : List ℕ) : Type 0 where
  pub taken : Consumes before after bytes
  pub short : length bytes ≤ most_message_bytes + 1

-- the messages that were given while the file was read, of which these bytes were: all of it, which was read; or its first ones, which the
-- bytes show to be whole. They are no more than a file may have.
pub record AreGiven {S : Type 0} (source : sources.Ghosts S) (old new : S) (bytes : List ℕ) (given : List (List ℕ)) : Type 0 where
  pub few : length given ≤ most_messages
  pub are : HasMessages source old new bytes given ⊎ (HasRead (source.left old) (source.left new) bytes × ShowWhole bytes given)

-- memory ran out before the first message was served: nothing of the source was read, and nothing was written
pub record HasNotBegun {S K D : Type 0} (source : sources.Ghosts S) (disk : disks.Ghosts D) (old new : Room S K D) (s : Status) : Type 0 where
  pub status_is : s ≡ status.Memory
  pub unread : new.messages ≡ old.messages
  pub sure : HasNotFailed disk old.disk new.disk
  pub unwritten : IsUnwritten disk old.disk new.disk

-- The file stopped it: its source failed, it passes a limit, it can't be cut, or memory ran out. Of the pays of the messages that were
-- given until then some were entered, as where memory runs out; one worker entered a front part of them. The file is told, whatever became
-- of the disk.
pub record StopsInFile {S K D : Type 0} (source : sources.Ghosts S) (disk : disks.Ghosts D) (old new : Room S K D) (i : Inputs) (s : Status) : Type 0 where
  pub stop : FileStop
  pub status_is : s ≡ status_of_file stop
  pub stops : StopsAtMessages source old.messages new.messages i.messages stop
  pub given : AreGiven source old.messages new.messages i.messages i.cut
  pub left : StopsBooking disk old.disk new.disk i booking.Memory

-- the file was read to its end, and not each of its pays was entered
pub record StopsInPays {S K D : Type 0} (source : sources.Ghosts S) (disk : disks.Ghosts D) (old new : Room S K D) (i : Inputs) (s : Status) : Type 0 where
  pub stop : BookStop
  pub status_is : s ≡ status_of_booking stop
  pub file : HasMessages source old.messages new.messages i.messages i.cut
  pub left : StopsBooking disk old.disk new.disk i stop

-- how serving stops
abbrev pub StopsServing : {S K D : Type 0} → sources.Ghosts S → disks.Ghosts D → Room S K D → Room S K D → Inputs → Status → Type 0
StopsServing source disk old new i s = HasNotBegun source disk old new s ⊎ (StopsInFile source disk old new i s ⊎ StopsInPays source disk old new i s)

-- they are served
abbrev pub serve_step : StepMeaning
serve_step = record {
  passes = λ source disk old new i. HasMessages source old.messages new.messages i.messages i.cut × AreAnswered i;
  stops = λ source disk old new i s. StopsServing source disk old new i s;
  untouched = λ disk old new. (new.messages ≡ old.messages) × IsUnwritten disk old.disk new.disk;
  ready = λ source disk old new i. (TellsAll source old.messages new.messages i.messages × IsMessageFile i.messages i.cut)
      × (IsSure disk old.disk new.disk × HasRoomForAll i.chart i.history (pays_of i));
}

-- ---- the file of messages that leave

-- it has at most 2^30 bytes
abbrev pub most_sent_bytes : ℕ
most_sent_bytes = 1073741824

-- it was read, and has these bytes
pub record HasSent {S : Type 0} (source : sources.Ghosts S) (old new : S) (bytes : List ℕ) : Type 0 where
  pub took : Took source.left source.faults most_sent_bytes old new bytes
  pub short : length bytes ≤ most_sent_bytes

-- it has more bytes than that: told are those up to and with the first that is too many, and no message is counted
pub record IsSentTooLarge {S : Type 0} (source : sources.Ghosts S) (old new : S) (bytes : List ℕ) (count messages : ℕ) : Type 0 where
  pub took : Took source.left source.faults most_sent_bytes old new bytes
  pub past : most_sent_bytes < length bytes
  pub count_is : count ≡ length bytes
  pub messages_are : messages ≡ 0

-- how reading it stops: its source fails, it is too large, or memory runs out; it is never cut
abbrev pub StopsAtSent : {S : Type 0} → sources.Ghosts S → S → S → List ℕ → FileStop → Type 0
StopsAtSent source old new bytes (file.Fault then now) = Failed source.faults old new then now
StopsAtSent source old new bytes (file.TooLarge count messages) = IsSentTooLarge source old new bytes count messages
StopsAtSent source old new bytes (file.Framing at) = ⊥
StopsAtSent source old new bytes file.Memory = source.faults new ≡ source.faults old

-- it is read
abbrev pub sent_step : StepMeaning
sent_step = record {
  passes = λ source disk old new i. HasSent source old.sent new.sent i.messages;
  stops = λ source disk old new i s. (stop : FileStop) × (s ≡ status_of_file stop) × StopsAtSent source old.sent new.sent i.messages stop
      × HasNotFailed disk old.disk new.disk × IsUnwritten disk old.disk new.disk;
  untouched = λ disk old new. new.sent ≡ old.sent;
  ready = λ source disk old new i. TellsAll source old.sent new.sent i.messages × (length i.messages ≤ most_sent_bytes);
}

-- ---- the journal

-- it is made
abbrev pub make_step : StepMeaning
make_step = record {
  passes = λ source disk old new i. IsMakeable disk old.disk;
  stops = λ source disk old new i s. (stop : MakeFault) × (s ≡ status_of_making stop) × StopsMaking disk old.disk new.disk (chart_in i) stop;
  untouched = λ disk old new. new.disk ≡ old.disk;
  ready = λ source disk old new i. IsSure disk old.disk new.disk × IsMakeable disk old.disk;
}

-- it is opened
abbrev pub open_journal_step : StepMeaning
open_journal_step = record {
  passes = λ source disk old new i. HoldsJournal disk old.disk i.chart i.history;
  stops = λ source disk old new i s. (stop : OpenFault) × (s ≡ status_of_opening stop) × StopsOpening disk old.disk new.disk stop;
  untouched = λ disk old new. new.disk ≡ old.disk;
  ready = λ source disk old new i. IsSure disk old.disk new.disk × HoldsJournal disk old.disk i.chart i.history;
}

-- the day is held against that of its last entry
abbrev pub day_step : StepMeaning
day_step = record {
  passes = λ source disk old new i. IsLatest i.history i.day;
  stops = λ source disk old new i s. (stop : Day) × (s ≡ status_of_day stop) × IsBack i.history i.day stop × HasNotFailed disk old.disk new.disk;
  untouched = λ disk old new. Unit {0};
  ready = λ source disk old new i. IsLatest i.history i.day;
}

-- its disk is left aside
abbrev pub aside_step : StepMeaning
aside_step = record {
  passes = λ source disk old new i. new.disk ≡ old.disk;
  stops = λ source disk old new i s. ⊥;
  untouched = λ disk old new. new.disk ≡ old.disk;
  ready = λ source disk old new i. Unit {0};
}

-- ---- each step by its name

-- what it means
abbrev pub step_meaning : Step → StepMeaning
step_meaning (Step.table name) = table_step name
step_meaning Step.sums = sums_step
step_meaning Step.make = make_step
step_meaning Step.open_journal = open_journal_step
step_meaning Step.day = day_step
step_meaning Step.messages = messages_step
step_meaning Step.serve = serve_step
step_meaning Step.received = received_step
step_meaning Step.sent = sent_step
step_meaning Step.change = change_step
step_meaning Step.second = second_step
step_meaning Step.old_journal = old_journal_step
step_meaning Step.copy = copy_step
step_meaning Step.make_return = make_return_step
step_meaning Step.book_return = book_return_step
step_meaning Step.begin = begin_step
step_meaning Step.packets = packets_step
step_meaning Step.take = take_step
step_meaning Step.aside = aside_step

-- how a command passes there
abbrev pub Passes : {S K D : Type 0} → sources.Ghosts S → disks.Ghosts D → Room S K D → Room S K D → Inputs → Step → Type 0
Passes source disk old new i step = (step_meaning step).passes source disk old new i

-- how it stops there with this status
abbrev pub StopsAt : {S K D : Type 0} → sources.Ghosts S → disks.Ghosts D → Room S K D → Room S K D → Inputs → Status → Step → Type 0
StopsAt source disk old new i s step = (step_meaning step).stops source disk old new i s

-- what the step reads or does is as it was
abbrev pub StepIsUntouched : {S K D : Type 0} → disks.Ghosts D → Room S K D → Room S K D → Step → Type 0
StepIsUntouched disk old new step = (step_meaning step).untouched disk old new

-- nothing is wrong with what it reads, and neither its source nor its disk failed
abbrev pub IsReady : {S K D : Type 0} → sources.Ghosts S → disks.Ghosts D → Room S K D → Room S K D → Inputs → Step → Type 0
IsReady source disk old new i step = (step_meaning step).ready source disk old new i
