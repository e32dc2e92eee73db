-- How a run ends before anything is written, from how its parts end.
use Rattle.std.proofs.Common.{◌≡◌, ◌+◌, inl, inr, ℕ, All, List, [], ◌∷◌, ◌++◌, Some, Result, Ok, Err, refl, sym, ap, ◌∙◌, subst, length, map}
use Rattle.std.specs.Prelude.{IsSome, IsTrue, slice_get}
use Rattle.std.proofs.lemmas.List.{length-map}
use Rattle.std.specs.List.{Contains}
use Rattle.corr_books.specs.declared.opening.BooksFault.{BooksFault}
use Rattle.corr_books.specs.declared.opening.BooksFault.TheVariants.{Open, DateBack}
use Rattle.corr_books.specs.Closing.{LeavesInTurn}
use Rattle.corr_books.specs.Finding.{BooksCause, OpensBack, RefusesAs, ShowsBack, TellsOf, is_of_bytes}
use Rattle.corr_books.specs.Opening.{Opening, Parts, opening_with, past_of}
use Rattle.corr_disk.specs.declared.disk.Disk as disks
use Rattle.corr_io.specs.declared.source.Source as sources
use Rattle.corr_ids.specs.declared.day.Day.{Day}
use Rattle.corr_report.specs.Report.{report_of}
use Rattle.day_model.specs.declared.entry.Entry.{Entry}
use Rattle.day_model.specs.declared.pay.Pay.{Pay}
use Rattle.day_model.specs.declared.reply.Reply.{Reply}
use Rattle.day_model.specs.Laws.{IsLatest}
use Rattle.day_model.specs.Legal.{IsLegal}
use Rattle.day_model.specs.Next.{entered_at, fold_of}
use Rattle.jrn_book.specs.Journal.{IsJournal}
use Rattle.jrn_book.specs.Opening.{Finding, IsFound, found_by}
use Rattle.jrn_file.specs.File.{disk_of}
use Rattle.jrn_file.specs.Reading.{opened_of}
use Rattle.jrn_file.specs.declared.fault.OpenFault.{OpenFault}
use Rattle.ref_tables.specs.declared.fault.TableName.{TableName}
use Rattle.ref_tables.specs.declared.fault.TableName.TheVariants as names
use Rattle.corr_top.specs.declared.answers.BookStop.TheVariants as booking
use Rattle.corr_top.specs.declared.directory.Directory.{Directory}
use Rattle.corr_top.specs.declared.room.Room.{Room}
use Rattle.corr_top.specs.declared.status.Status.{Status}
use Rattle.corr_top.specs.declared.tables.TableStop.{TableStop}
use Rattle.corr_top.specs.declared.words.Command.TheVariants.{Run}
use Rattle.corr_top.specs.declared.writing.Texts.{Texts}
use Rattle.corr_top.specs.Booking.{AreAnswered, IsEnteredOn, StopsBooking, StopsEntering}
use Rattle.corr_top.specs.Commands.{meaning_of}
use Rattle.corr_top.specs.inner.Days.{GivesDay, HasDay, HasNoDay, StopsAtFile, StopsAtPays}
use Rattle.corr_top.specs.Ends.{HasPassed}
use Rattle.corr_top.specs.inner.Ends.{CommandGives, HasTexts}
use Rattle.corr_top.specs.Inputs.{Inputs, new_in, pays_of, replies_of, tables_in}
use Rattle.corr_top.specs.Message.{pays_in, readings_of, replies_in}
use Rattle.corr_top.specs.Meaning.{KeepsRest}
use Rattle.corr_top.specs.OnDisk.{HoldsJournal, IsOnDisk, IsUnwritten, LeavesMidway, StopsOpening}
use Rattle.corr_top.specs.Origin.{AreSentValid}
use Rattle.corr_top.specs.Out.{sent_from}
use Rattle.corr_top.specs.Passing.{StepIsUntouched, Passes, StopsAt, StopsServing, table_at}
use Rattle.corr_top.specs.Run.{run_out, run_report, run_steps}
use Rattle.corr_top.specs.Steps.{Halts, Step, Walks}
use Rattle.corr_top.specs.Stops.{status_of_books, status_of_day, status_of_opening, status_of_table}
use Rattle.corr_top.specs.inner.Tables.{HasDirectory, StopsDirectory, directory_steps}
use Rattle.day_model.proofs.laws.Folds.{legal_fold}
use Rattle.corr_top.proofs.OpenedBooks.{closed_alone, entering_stops, found_is, holds_opened, is_back, left_midway}
use Rattle.corr_top.proofs.Replying.{get_all}
use Rattle.corr_top.proofs.Walking.{contained, halts_back, halts_front, walks_both}

-- the steps of a run after its tables
abbrev pub day_steps : List Step
day_steps = Step.open_journal ∷ Step.day ∷ Step.serve ∷ []

-- what a run leaves as it is
pub record IsRest {S K D : Type 0} (old new : Room S K D) : Type 0 where
  pub accounts : new.tables.accounts ≡ old.tables.accounts
  pub received : new.received ≡ old.received
  pub sent : new.sent ≡ old.sent
  pub disk2 : new.disk2 ≡ old.disk2
  pub report : new.report ≡ old.report
  pub out : new.out ≡ old.out

module _ {S K D : Type 0} (source : sources.Ghosts S) (d : disks.Ghosts D) (day : Day) (workers entries : ℕ) (old new : Room S K D) (rest : IsRest old new) where
  -- what it doesn't read is as it was
  tables_rest : (name : TableName) → (Contains run_steps (Step.table name) → ⊥) → table_at name new.tables ≡ table_at name old.tables
  tables_rest names.Bics unread = absurd (unread (contained (Step.table names.Bics) run_steps refl))
  tables_rest names.Ccys unread = absurd (unread (contained (Step.table names.Ccys) run_steps refl))
  tables_rest names.Countries unread = absurd (unread (contained (Step.table names.Countries) run_steps refl))
  tables_rest names.Accounts unread = rest.accounts
  tables_rest names.Ssi unread = absurd (unread (contained (Step.table names.Ssi) run_steps refl))
  tables_rest names.Charges unread = absurd (unread (contained (Step.table names.Charges) run_steps refl))

  keeps_rest : KeepsRest run_steps old new
  keeps_rest = record {
    tables = tables_rest;
    messages = λ unread unserved. absurd (unserved (contained Step.serve run_steps refl));
    received = λ unread unpacked. rest.received;
    sent = λ unread. rest.sent;
    disk2 = λ unread. rest.disk2;
  }

  gives_run : (r : Result Texts Status) (i : Inputs) → i.day ≡ day → i.workers ≡ workers → i.entries ≡ entries → CommandGives source d (meaning_of (Run day workers entries)) old new r i
      → HasTexts source d (meaning_of (Run day workers entries)) old new r
  unfolding meaning_of
  gives_run r i is number most gives = record { inputs = i; are_for = (is, number, most); gives = gives; rest = keeps_rest; report = rest.report; out = rest.out }

  -- a table stopped it
  pub tables_stop : (stop : TableStop) → StopsDirectory source old.tables new.tables stop → new.messages ≡ old.messages → new.disk ≡ old.disk → IsUnwritten d old.disk new.disk
      → HasTexts source d (meaning_of (Run day workers entries)) old new (Err (status_of_table stop))
  unfolding meaning_of
  tables_stop stop stops messages disk unwritten =
      let i = record stops.at.inputs { day = day; workers = workers; entries = entries } in
      gives_run (Err (status_of_table stop)) i refl refl refl
      (inl (halts_front (Passes source d old new i) (StopsAt source d old new i (status_of_table stop)) (StepIsUntouched d old new)
      directory_steps day_steps stops.at.halted (disk, (tt, ((messages, unwritten), tt)))))

  -- the tables were read, and a step after them stopped it
  after_tables : (i : Inputs) (s : Status) (steps : List Step) → Walks (Passes source d old new i) directory_steps
      → Halts (Passes source d old new i) (StopsAt source d old new i s) (StepIsUntouched d old new) steps
      → Halts (Passes source d old new i) (StopsAt source d old new i s) (StepIsUntouched d old new) (directory_steps ++ steps)
  after_tables i s steps passed halts = halts_back (Passes source d old new i) (StopsAt source d old new i s) (StepIsUntouched d old new) directory_steps steps passed halts

  module _ (directory : Directory) (has : HasDirectory source old.tables new.tables directory) where
    -- the books were not opened, for a reason that opening the journal gave
    open_stops : (fault : OpenFault) → StopsOpening d old.disk new.disk fault → new.messages ≡ old.messages → HasTexts source d (meaning_of (Run day workers entries)) old new (Err (status_of_opening fault))
    unfolding meaning_of
    open_stops fault stops messages =
        let i = record has.inputs { day = day; workers = workers; entries = entries } in
        gives_run (Err (status_of_opening fault)) i refl refl refl
        (inl (after_tables i (status_of_opening fault) day_steps has.passed
        (inl ((fault, refl, stops), (tt, ((messages, stops.untouched), tt))))))

    -- or for the day of the last entry
    back_stops : (last : Day) → OpensBack (opened_of (d.reads old.disk)) (d.honest old.disk) day last → d.faults new.disk ≡ d.faults old.disk → IsUnwritten d old.disk new.disk → new.messages ≡ old.messages
        → HasTexts source d (meaning_of (Run day workers entries)) old new (Err (status_of_day last))
    unfolding meaning_of
    back_stops last shows sure unwritten messages =
        let i = record has.inputs { day = day; workers = workers; entries = entries; chart = shows.accounts; history = shows.history } in
        let holds : HoldsJournal d old.disk shows.accounts shows.history = record { journal = shows.journal; stands = λ honest. (shows.found honest).1 } in
        gives_run (Err (status_of_day last)) i refl refl refl
        (inl (after_tables i (status_of_day last) day_steps has.passed
        (inr (holds, inl ((last, refl, is_back shows.accounts shows.history day last shows.journal shows.back, sure), ((messages, unwritten), tt))))))

    -- opening the books stopped it
    pub books_stop : (fault : BooksFault) → BooksCause (d.faults old.disk) (d.faults new.disk) fault → (IsTrue (d.honest old.disk) → IsTrue (is_of_bytes fault) → (finding : Finding) × IsFound (opened_of (d.reads old.disk)) finding × RefusesAs day fault finding)
        → ShowsBack (opened_of (d.reads old.disk)) (d.honest old.disk) day fault → IsUnwritten d old.disk new.disk → new.messages ≡ old.messages → HasTexts source d (meaning_of (Run day workers entries)) old new (Err (status_of_books fault))
    books_stop (Open fault) cause told shows unwritten messages =
        open_stops fault (record { cause = cause; told = λ honest. found_is (found_by fault) (opened_of (d.reads old.disk)) (told honest); untouched = unwritten }) messages
    books_stop (DateBack last) cause told shows unwritten messages = back_stops last shows cause unwritten messages

    module _ (opened : Parts D) (journal : IsJournal opened.accounts opened.base) (told : IsTrue (d.honest old.disk) → TellsOf (opened_of (d.reads old.disk)) day (Ok opened)) (latest : IsLatest opened.base day)
        (at_open : opened.at_open ≡ d.faults old.disk) (kept : d.faults (disk_of opened.file) ≡ d.faults old.disk) (honest : d.honest (disk_of opened.file) ≡ d.honest old.disk)
        (of_day : opened.day ≡ day) (unwritten : IsUnwritten d old.disk (disk_of opened.file)) where
      -- the opening of these books
      abbrev pub books : Opening
      books = opening_with d opened workers entries

      -- the inputs of a run that opened its books, and entered these pays
      abbrev i_of : List ℕ → List (List ℕ) → List Pay → Inputs
      i_of bytes cut entered = record has.inputs { day = day; workers = workers; entries = entries; messages = bytes; cut = cut; chart = opened.accounts; history = opened.base; entered = entered }

      holds : HoldsJournal d old.disk opened.accounts opened.base
      holds = holds_opened d day workers entries old.disk new.disk opened journal told

      same_pays : (bytes : List ℕ) (cut : List (List ℕ)) (entered : List Pay) → pays_of (i_of bytes cut entered) ≡ pays_in (readings_of directory opened.accounts cut)
      same_pays bytes cut entered = ap (λ (x : Directory). pays_in (readings_of x opened.accounts cut)) (sym has.directory_is)

      -- the disk at each moment since the run began
      midway : (history : List Entry) → LeavesInTurn d books (past_of d opened) history new.disk → LeavesMidway d old.disk new.disk opened.accounts opened.base history day entries
      midway = left_midway d day workers entries old.disk new.disk opened at_open honest of_day unwritten

      -- the first steps passed, up to the serving of the message file, which stops so
      serving_stops : (i : Inputs) (s : Status) → Walks (Passes source d old new i) directory_steps → HoldsJournal d old.disk i.chart i.history → IsLatest i.history i.day → StopsServing source d old new i s
          → Halts (Passes source d old new i) (StopsAt source d old new i s) (StepIsUntouched d old new) (directory_steps ++ day_steps)
      serving_stops i s passed held last stops = after_tables i s day_steps passed (inr (held, inr (last, inl (stops, tt))))

      -- it didn't begin
      pub none_served : (s : Status) → HasNoDay source d directory workers entries old.messages new.messages opened new.disk s → HasTexts source d (meaning_of (Run day workers entries)) old new (Err s)
      unfolding meaning_of
      none_served s stops =
          let disk = stops.same in
          let i = i_of [] [] [] in
          gives_run (Err s) i refl refl refl
          (inl (serving_stops i s has.passed holds latest (inl (record {
            status_is = stops.status_is;
            unread = stops.unread;
            sure = ap d.faults disk ∙ kept;
            unwritten = subst (IsUnwritten d old.disk) (sym disk) unwritten;
          }))))

      -- the file stopped it, with some of its messages served
      pub file_stops : (s : Status) → StopsAtFile source d directory workers entries old.messages new.messages opened new.disk s → HasTexts source d (meaning_of (Run day workers entries)) old new (Err s)
      unfolding meaning_of
      file_stops s stops =
          let i = i_of stops.bytes stops.given [] in
          let pays = same_pays stops.bytes stops.given [] in
          let left : StopsBooking d old.disk new.disk i booking.Memory = subst (λ (ps : List Pay). StopsEntering d old.disk new.disk opened.accounts opened.base ps day workers entries booking.Memory) (sym pays)
          (entering_stops d day workers entries old.disk new.disk opened at_open honest of_day unwritten (readings_of directory opened.accounts stops.given) stops.history booking.Memory stops.served tt
          (λ one. record { entered = stops.alone one; stops = tt }) tt) in
          gives_run (Err s) i refl refl refl
          (inl (serving_stops i s has.passed holds latest (inr (inl (record { stop = stops.stop; status_is = stops.status_is; stops = stops.stops; given = stops.are_given; left = left })))))

      -- not each pay was entered
      pub pays_stop : (s : Status) → StopsAtPays source d directory workers entries old.messages new.messages opened new.disk s → HasTexts source d (meaning_of (Run day workers entries)) old new (Err s)
      unfolding meaning_of
      pays_stop s stops =
          let i = i_of stops.bytes stops.cut [] in
          let pays = same_pays stops.bytes stops.cut [] in
          let booked : StopsBooking d old.disk new.disk i stops.stop = subst (λ (ps : List Pay). StopsEntering d old.disk new.disk opened.accounts opened.base ps day workers entries stops.stop) (sym pays)
          (entering_stops d day workers entries old.disk new.disk opened at_open honest of_day unwritten (readings_of directory opened.accounts stops.cut) stops.history stops.stop stops.served stops.tried stops.alone stops.cause) in
          gives_run (Err s) i refl refl refl
          (inl (serving_stops i s has.passed holds latest (inr (inr (record { stop = stops.stop; status_is = stops.status_is; file = stops.file; left = booked })))))

      -- the pays that were entered, in the order of the journal
      abbrev entered_of : List Entry → List Pay
      entered_of added = map (λ e. e.pay) added

      -- each message was answered
      has_passed : (bytes : List ℕ) (cut : List (List ℕ)) (history : List Entry) (replies : List Reply) → (had : HasDay source d directory workers entries old.messages new.messages opened new.disk bytes cut history replies)
          → HasPassed source d (meaning_of (Run day workers entries)) old new (i_of bytes cut (entered_of had.served.added)) × (history ≡ new_in (i_of bytes cut (entered_of had.served.added))) × (replies ≡ replies_of (i_of bytes cut (entered_of had.served.added)))
      unfolding meaning_of
      has_passed bytes cut history replies had =
          let served = had.served in
          let a = had.answered in
          let i = i_of bytes cut (entered_of served.added) in
          let pays = same_pays bytes cut (entered_of served.added) in
          let legal = subst (IsLegal opened.accounts) served.is served.journal.legal in
          let days : (k : ℕ) (e : Entry) → slice_get served.added k ≡ Some e → e.day ≡ day = λ k e at. (get_all (IsEnteredOn opened.day _) served.added k e served.each at).day_is ∙ of_day in
          let history_is : history ≡ new_in i = served.is ∙ legal_fold opened.accounts opened.base served.added day legal.rules days in
          let told : replies ≡ replies_of i =
          a.replies_are ∙ ap (λ es. replies_in es (readings_of directory opened.accounts cut)) history_is ∙ ap (λ (x : Directory). replies_in (new_in i) (readings_of x opened.accounts cut)) has.directory_is in
          let answered : AreAnswered i = record {
            each = ap length (sym told) ∙ a.each ∙ length-map cut _;
            legal = subst (IsLegal opened.accounts) history_is served.journal.legal;
            added = served.added;
            is = sym history_is ∙ served.is;
            pays = refl;
            of_file = subst (λ (x : List Pay × Day). All (IsEnteredOn x.1 x.0) served.added) (λ k. (sym pays k, of_day k)) served.each;
            entered = λ k pay at. subst (λ (es : List Entry). IsSome (entered_at pay.mir es)) history_is (a.entered k pay (ap (λ (ps : List Pay). slice_get ps k) (sym pays) ∙ at));
            alone = λ one. sym history_is ∙ a.alone one ∙ (λ k. fold_of opened.accounts opened.base (sym pays k) (of_day k));
          } in
          let on : (d.faults new.disk ≡ opened.at_open) × IsOnDisk d new.disk opened.accounts history = closed_alone d day workers entries old.disk new.disk opened history had.calm served.leaves in (
            record {
              passed = walks_both (Passes source d old new i) directory_steps day_steps has.passed
                  (holds, (latest, ((had.file, answered), tt)));
              leaves = record {
                sure = on.0 ∙ at_open;
                entered = subst (λ es. IsOnDisk d new.disk opened.accounts es) history_is on.1;
                journal = subst (λ es. IsJournal opened.accounts es) history_is served.journal;
                any_moment = subst (λ es. LeavesMidway d old.disk new.disk opened.accounts opened.base es day entries) history_is (midway history served.in_turn);
              };
            },
            history_is,
            told,
          )

      -- the part of a run after the opening of the books
      pub day_ends : (r : Result Texts Status) → GivesDay source d directory workers entries old.messages new.messages opened new.disk r → HasTexts source d (meaning_of (Run day workers entries)) old new r
      unfolding meaning_of run_report run_out
      day_ends (Ok texts) gives =
          let history = gives.history in
          let had = gives.day in
          let i = i_of gives.bytes gives.cut (entered_of had.served.added) in
          let done = has_passed gives.bytes gives.cut history gives.replies had in
          gives_run (Ok texts) i refl refl refl (
            done.0,
            gives.report_is ∙ ap (λ es. report_of opened.accounts es gives.replies) done.1 ∙ ap (report_of opened.accounts (new_in i)) done.2,
            gives.out_is ∙ ap (sent_from opened.accounts (length opened.base + 1)) done.1,
            subst (λ es. AreSentValid (tables_in i) opened.accounts (length opened.base + 1) es) done.1
                (subst (λ (x : Directory). AreSentValid x.tables opened.accounts (length opened.base + 1) history) has.directory_is gives.valid),
          )
      day_ends (Err s) (inl stops) = none_served s stops
      day_ends (Err s) (inr (inl stops)) = file_stops s stops
      day_ends (Err s) (inr (inr stops)) = pays_stop s stops

-- whether the disk tells its bytes stays
pub day_honest : {S D : Type 0} (source : sources.Ghosts S) (d : disks.Ghosts D) (directory : Directory) (workers entries : ℕ) (from to : S) (opened : Parts D) (new : D) (r : Result Texts Status)
    → GivesDay source d directory workers entries from to opened new r → d.honest new ≡ d.honest (disk_of opened.file)
day_honest source d directory workers entries from to opened new (Ok texts) gives = gives.day.served.honest
day_honest source d directory workers entries from to opened new (Err s) (inl stops) = ap d.honest stops.same
day_honest source d directory workers entries from to opened new (Err s) (inr (inl stops)) = stops.served.honest
day_honest source d directory workers entries from to opened new (Err s) (inr (inr stops)) = stops.served.honest
