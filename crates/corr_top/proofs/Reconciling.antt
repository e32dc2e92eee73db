-- Received messages against the books: how that ends before anything is written.
use Rattle.std.proofs.Common.{◌≡◌, inl, inr, List, [], ◌∷◌, Result, Ok, Err, refl, ap, subst, sym, ◌∙◌}
use Rattle.std.specs.List.{Contains}
use Rattle.acct_locks.specs.Holdings.{LooseHand}
use Rattle.corr_disk.specs.declared.disk.Disk as disks
use Rattle.corr_io.specs.declared.source.Source as sources
use Rattle.day_model.specs.declared.entry.Entry.{Entry}
use Rattle.day_model.specs.Chart.{Chart}
use Rattle.jrn_book.specs.Book.{Book}
use Rattle.jrn_file.specs.File.{disk_of}
use Rattle.jrn_file.specs.declared.fault.OpenFault.{OpenFault}
use Rattle.ref_tables.specs.Seen.{Tables}
use Rattle.ref_tables.specs.declared.fault.TableName.{TableName}
use Rattle.ref_tables.specs.declared.fault.TableName.TheVariants as names
use Rattle.corr_top.specs.declared.room.Room.{Room}
use Rattle.corr_top.specs.declared.status.Status.{Status}
use Rattle.corr_top.specs.declared.tables.TableStop.{TableStop}
use Rattle.corr_top.specs.declared.words.Command.TheVariants.{Plain}
use Rattle.corr_top.specs.declared.words.Plain.TheVariants.{Reconcile}
use Rattle.corr_top.specs.declared.writing.Texts.{Texts}
use Rattle.corr_top.specs.Commands.{meaning_of}
use Rattle.corr_top.specs.inner.Ends.{CommandGives, HasTexts}
use Rattle.corr_top.specs.Inputs.{Inputs}
use Rattle.corr_top.specs.Meaning.{KeepsRest}
use Rattle.corr_top.specs.OnDisk.{HasNotFailed, HoldsJournal, IsUnwritten, StopsOpening}
use Rattle.corr_top.specs.inner.OnDisk.{HasOpened}
use Rattle.corr_top.specs.Passing.{StepIsUntouched, Passes, StopsAt, table_at}
use Rattle.corr_top.specs.Reconcile.{break_report, reconcile_report, reconcile_steps}
use Rattle.corr_top.specs.inner.Reconcile.{GivesBreaks}
use Rattle.corr_top.specs.Steps.{Halts, Step, Walks}
use Rattle.corr_top.specs.Stops.{status_of_opening, status_of_table}
use Rattle.corr_top.specs.inner.Tables.{HasKnown, StopsKnown, known_steps}
use Rattle.corr_top.proofs.Walking.{contained, halts_back, halts_front, walks_both}

-- what it leaves as it is, beside the tables of accounts, instructions and charges
pub record IsRest {S K D : Type 0} (old new : Room S K D) : Type 0 where
  pub messages : new.messages ≡ old.messages
  pub sent : new.sent ≡ old.sent
  pub disk2 : new.disk2 ≡ old.disk2
  pub report : new.report ≡ old.report
  pub out : new.out ≡ old.out

module _ {S K D : Type 0} (source : sources.Ghosts S) (d : disks.Ghosts D) (old new : Room S K D) (rest : IsRest old new) (accounts : new.tables.accounts ≡ old.tables.accounts) (ssi : new.tables.ssi ≡ old.tables.ssi)
    (charges : new.tables.charges ≡ old.tables.charges) where
  -- what it doesn't read is as it was
  tables_rest : (name : TableName) → (Contains reconcile_steps (Step.table name) → ⊥) → table_at name new.tables ≡ table_at name old.tables
  tables_rest names.Bics unread = absurd (unread (contained (Step.table names.Bics) reconcile_steps refl))
  tables_rest names.Ccys unread = absurd (unread (contained (Step.table names.Ccys) reconcile_steps refl))
  tables_rest names.Countries unread = absurd (unread (contained (Step.table names.Countries) reconcile_steps refl))
  tables_rest names.Accounts unread = accounts
  tables_rest names.Ssi unread = ssi
  tables_rest names.Charges unread = charges

  keeps_rest : KeepsRest reconcile_steps old new
  keeps_rest = record {
    tables = tables_rest;
    messages = λ unread unserved. rest.messages;
    received = λ unread unpacked. absurd (unread (contained Step.received reconcile_steps refl));
    sent = λ unread. rest.sent;
    disk2 = λ unread. rest.disk2;
  }

  gives_reconcile : (r : Result Texts Status) (i : Inputs) → CommandGives source d (meaning_of (Plain Reconcile)) old new r i → HasTexts source d (meaning_of (Plain Reconcile)) old new r
  unfolding meaning_of
  gives_reconcile r i gives = record { inputs = i; are_for = tt; gives = gives; rest = keeps_rest; report = rest.report; out = rest.out }

  -- the tables were read, and a step after them stopped it
  stops_after : (i : Inputs) (s : Status) → Walks (Passes source d old new i) known_steps
      → Halts (Passes source d old new i) (StopsAt source d old new i s) (StepIsUntouched d old new) (Step.open_journal ∷ Step.received ∷ [])
      → Halts (Passes source d old new i) (StopsAt source d old new i s) (StepIsUntouched d old new) reconcile_steps
  stops_after i s passed halts =
      halts_back (Passes source d old new i) (StopsAt source d old new i s) (StepIsUntouched d old new) known_steps (Step.open_journal ∷ Step.received ∷ []) passed halts

  -- a table stopped it
  pub known_stop : (stop : TableStop) → StopsKnown source old.tables new.tables stop → new.disk ≡ old.disk → new.received ≡ old.received → HasTexts source d (meaning_of (Plain Reconcile)) old new (Err (status_of_table stop))
  unfolding meaning_of
  known_stop stop stops disk received =
      let i = stops.at.inputs in
      gives_reconcile (Err (status_of_table stop)) i
      (inl (halts_front (Passes source d old new i) (StopsAt source d old new i (status_of_table stop)) (StepIsUntouched d old new) known_steps (Step.open_journal ∷ Step.received ∷ []) stops.at.halted (disk, (received, tt))))

  module _ (known : Tables) (has : HasKnown source old.tables new.tables known) where
    -- the journal was not opened
    pub journal_stop : (fault : OpenFault) → StopsOpening d old.disk new.disk fault → new.received ≡ old.received → HasTexts source d (meaning_of (Plain Reconcile)) old new (Err (status_of_opening fault))
    unfolding meaning_of
    journal_stop fault stops received =
        gives_reconcile (Err (status_of_opening fault)) has.inputs (inl (stops_after has.inputs (status_of_opening fault) has.passed (inl ((fault, refl, stops), (received, tt)))))

    -- it was, and the received messages were compared, or they were not taken, or memory ran out
    pub breaks_texts : (chart : Chart) (history : List Entry) (r : Result Texts Status) → HoldsJournal d old.disk chart history → IsUnwritten d old.disk new.disk → HasNotFailed d old.disk new.disk
        → GivesBreaks source chart history known old.received new.received r → HasTexts source d (meaning_of (Plain Reconcile)) old new r
    unfolding meaning_of reconcile_report
    breaks_texts chart history (Ok texts) holds unwritten sure gives =
        let i = record has.inputs { chart = chart; history = history; messages = gives.0; cut = gives.1 } in
        gives_reconcile (Ok texts) i (
          record { passed = walks_both (Passes source d old new i) known_steps (Step.open_journal ∷ Step.received ∷ []) has.passed (holds, (gives.2, tt)); leaves = record { sure = sure; unwritten = unwritten } },
          gives.3 ∙ ap (λ (t : Tables). break_report chart history t gives.1) has.known_is,
          gives.4,
          tt,
        )
    breaks_texts chart history (Err s) holds unwritten sure (inl stops) =
        let i = record has.inputs { chart = chart; history = history; messages = stops.1 } in
        gives_reconcile (Err s) i (inl (stops_after i s has.passed (inr (holds, inl ((stops.0, stops.2, stops.3, sure, unwritten), tt)))))
    breaks_texts chart history (Err s) holds unwritten sure (inr memory) =
        let i = record has.inputs { chart = chart; history = history; messages = memory.0; cut = memory.1 } in
        gives_reconcile (Err s) i (inr (record { passed = walks_both (Passes source d old new i) known_steps (Step.open_journal ∷ Step.received ∷ []) has.passed (holds, (memory.2, tt)); leaves = record { sure = sure; unwritten = unwritten } }, memory.3))

    -- it was, and closed again
    pub closed_texts : (book : Book D) (loose : LooseHand) (chart : Chart) (history : List Entry) (r : Result Texts Status) → HasOpened d old.disk book loose → new.disk ≡ disk_of book.file
        → chart ≡ book.accounts → history ≡ book.history → GivesBreaks source chart history known old.received new.received r → HasTexts source d (meaning_of (Plain Reconcile)) old new r
    closed_texts book loose chart history r opened disk are is gives =
        let same = subst (λ (a : Chart). GivesBreaks source a history known old.received new.received r) are gives in
        breaks_texts book.accounts book.history r opened.holds (subst (λ (x : D). IsUnwritten d old.disk x) (sym disk) opened.untouched) (subst (λ (x : D). HasNotFailed d old.disk x) (sym disk) opened.sure)
        (subst (λ (es : List Entry). GivesBreaks source book.accounts es known old.received new.received r) is same)
