-- What the file of messages that leave should hold: how that ends before anything is written.
use Rattle.std.proofs.Common.{◌≡◌, ℕ, ap, inl, inr, List, Result, Ok, Err, refl, subst, sym}
use Rattle.acct_locks.specs.Holdings.{LooseHand}
use Rattle.corr_disk.specs.declared.disk.Disk as disks
use Rattle.corr_io.specs.declared.source.Source as sources
use Rattle.day_model.specs.declared.entry.Entry.{Entry}
use Rattle.day_model.specs.Chart.{Chart}
use Rattle.jrn_book.specs.Book.{Book}
use Rattle.jrn_file.specs.File.{disk_of}
use Rattle.jrn_file.specs.declared.fault.OpenFault.{OpenFault}
use Rattle.corr_top.specs.declared.reading.ReadStop.{ReadStop}
use Rattle.corr_top.specs.declared.reading.ReadStop.TheVariants as reading
use Rattle.corr_top.specs.declared.room.Room.{Room}
use Rattle.corr_top.specs.declared.room.Tables.{Tables}
use Rattle.corr_top.specs.declared.status.Status.{Status}
use Rattle.corr_top.specs.declared.words.Command.TheVariants.{Plain}
use Rattle.corr_top.specs.declared.words.Plain.TheVariants.{Mend}
use Rattle.corr_top.specs.declared.writing.Texts.{Texts}
use Rattle.corr_top.specs.Commands.{meaning_of}
use Rattle.corr_top.specs.inner.Ends.{CommandGives, HasTexts}
use Rattle.corr_top.specs.Inputs.{Inputs}
use Rattle.corr_top.specs.Meaning.{KeepsRest}
use Rattle.corr_top.specs.Mend.{mend_steps}
use Rattle.corr_top.specs.inner.Mend.{GivesMended}
use Rattle.corr_top.specs.OnDisk.{HasNotFailed, HoldsJournal, IsUnwritten, StopsOpening}
use Rattle.corr_top.specs.inner.OnDisk.{HasOpened}
use Rattle.corr_top.specs.Passing.{StopsAtSent, table_at}
use Rattle.corr_top.specs.inner.Reading.{IsStopped}
use Rattle.corr_top.specs.Steps.{Step}
use Rattle.corr_top.specs.Stops.{status_of_opening}
use Rattle.corr_top.specs.inner.Stops.{file_stop_of_read}
use Rattle.corr_top.proofs.TableFiles.{no_inputs}
use Rattle.corr_top.proofs.Walking.{contained}

-- what it leaves as it is
pub record IsRest {S K D : Type 0} (old new : Room S K D) : Type 0 where
  pub tables : new.tables ≡ old.tables
  pub messages : new.messages ≡ old.messages
  pub received : new.received ≡ old.received
  pub disk2 : new.disk2 ≡ old.disk2
  pub report : new.report ≡ old.report
  pub out : new.out ≡ old.out

-- a file that couldn't be read stops its command so, whatever its bytes are
pub stops_reading_sent : {S : Type 0} (source : sources.Ghosts S) (old new : S) (bytes : List ℕ) (stop : ReadStop) → IsStopped source.faults old new stop → StopsAtSent source old new bytes (file_stop_of_read stop)
stops_reading_sent source old new bytes (reading.Fault then now) stopped = stopped
stops_reading_sent source old new bytes reading.Memory stopped = stopped

module _ {S K D : Type 0} (source : sources.Ghosts S) (d : disks.Ghosts D) (from until : ℕ) (old new : Room S K D) (rest : IsRest old new) where
  keeps_rest : KeepsRest mend_steps old new
  keeps_rest = record {
    tables = λ name unread. ap (λ (t : Tables S). table_at name t) rest.tables;
    messages = λ unread unserved. rest.messages;
    received = λ unread unpacked. rest.received;
    sent = λ unread. absurd (unread (contained Step.sent mend_steps refl));
    disk2 = λ unread. rest.disk2;
  }

  gives_mend : (r : Result Texts Status) (i : Inputs) → CommandGives source d (meaning_of (Plain (Mend from until))) old new r i → HasTexts source d (meaning_of (Plain (Mend from until))) old new r
  unfolding meaning_of
  gives_mend r i gives = record { inputs = i; are_for = tt; gives = gives; rest = keeps_rest; report = rest.report; out = rest.out }

  -- the journal was not opened
  pub journal_stop : (fault : OpenFault) → StopsOpening d old.disk new.disk fault → new.sent ≡ old.sent → HasTexts source d (meaning_of (Plain (Mend from until))) old new (Err (status_of_opening fault))
  unfolding meaning_of
  journal_stop fault stops sent = gives_mend (Err (status_of_opening fault)) no_inputs (inl (inl ((fault, refl, stops), (sent, tt))))

  -- it was, and the file was read and mended, or it was not taken, or memory ran out
  pub mended_texts : (chart : Chart) (history : List Entry) (r : Result Texts Status) → HoldsJournal d old.disk chart history → IsUnwritten d old.disk new.disk → HasNotFailed d old.disk new.disk
      → GivesMended source chart history from until old.sent new.sent r → HasTexts source d (meaning_of (Plain (Mend from until))) old new r
  unfolding meaning_of
  mended_texts chart history (Ok texts) holds unwritten sure gives =
      let i = record no_inputs { chart = chart; history = history; messages = gives.0 } in
      gives_mend (Ok texts) i (record { passed = (holds, (gives.1, tt)); leaves = record { sure = sure; unwritten = unwritten } }, gives.2, gives.3, tt)
  mended_texts chart history (Err s) holds unwritten sure (inl stops) =
      let i = record no_inputs { chart = chart; history = history; messages = stops.1 } in
      gives_mend (Err s) i (inl (inr (holds, inl ((stops.0, stops.2, stops.3, sure, unwritten), tt))))
  mended_texts chart history (Err s) holds unwritten sure (inr memory) =
      let i = record no_inputs { chart = chart; history = history; messages = memory.0 } in
      gives_mend (Err s) i (inr (record { passed = (holds, (memory.1, tt)); leaves = record { sure = sure; unwritten = unwritten } }, memory.2))

  -- it was, and closed again
  pub closed_texts : (book : Book D) (loose : LooseHand) (chart : Chart) (history : List Entry) (r : Result Texts Status) → HasOpened d old.disk book loose → new.disk ≡ disk_of book.file
      → chart ≡ book.accounts → history ≡ book.history → GivesMended source chart history from until old.sent new.sent r → HasTexts source d (meaning_of (Plain (Mend from until))) old new r
  closed_texts book loose chart history r opened disk are is gives =
      let same = subst (λ (a : Chart). GivesMended source a history from until old.sent new.sent r) are gives in
      mended_texts book.accounts book.history r opened.holds (subst (λ (x : D). IsUnwritten d old.disk x) (sym disk) opened.untouched) (subst (λ (x : D). HasNotFailed d old.disk x) (sym disk) opened.sure)
      (subst (λ (es : List Entry). GivesMended source book.accounts es from until old.sent new.sent r) is same)
