-- A change of the accounts of a journal.
use Rattle.std.proofs.Common.{◌≡◌, ◌+◌, ◌-◌, ℕ, List, [], ◌∷◌, Option, Some, None, Result, Ok, Err, inl, inr, length, refl, sym, ap, ◌∙◌, subst, arith}
use Rattle.std.specs.Prelude.{IfSome, IsTrue}
use Rattle.std.specs.Option.{option_map}
use Rattle.std.proofs.lemmas.Option.{none-some, same_Some}
use Rattle.std.specs.List.{Contains}
use Rattle.corr_disk.specs.declared.disk.Disk as disks
use Rattle.corr_disk.specs.Disk.{LeavesOnly, Only}
use Rattle.corr_disk.proofs.laws.Moments.{then_on, weaker}
use Rattle.corr_io.specs.declared.source.Source as sources
use Rattle.corr_ids.specs.declared.bic.Bic.{Bic}
use Rattle.day_model.specs.declared.account.Account.{Account}
use Rattle.day_model.specs.declared.change.What.{What}
use Rattle.day_model.specs.declared.change.What.TheVariants.{Opened}
use Rattle.day_model.specs.declared.entry.Entry.{Entry}
use Rattle.day_model.specs.Chart.{Chart, IsFormed, with_change}
use Rattle.jrn_book.specs.declared.changing.ChangeFault.{ChangeFault}
use Rattle.jrn_book.specs.declared.changing.ChangeFault.TheVariants as changing
use Rattle.jrn_book.specs.Changing.{ChangeShows, LeavesDisk}
use Rattle.jrn_book.specs.Journal.{IsBeforeOrChanged, IsJournal, StandsForBook, file_of}
use Rattle.jrn_book.specs.Opening.{BookOpenCause, IsFound, book, found_by}
use Rattle.jrn_file.specs.Reading.{opened_of}
use Rattle.jrn_file.specs.declared.fault.OpenFault.{OpenFault}
use Rattle.ref_tables.specs.declared.account.AccountRow.{AccountRow}
use Rattle.ref_tables.specs.declared.fault.TableFault.{TableFault}
use Rattle.ref_tables.specs.declared.fault.TableFault.TheVariants as refused
use Rattle.ref_tables.specs.AccountList.{IsAccount}
use Rattle.ref_tables.specs.Accounts.{account_fault, account_of}
use Rattle.ref_tables.specs.declared.fault.TableName.{TableName}
use Rattle.ref_tables.specs.declared.fault.Why.{Why}
use Rattle.ref_tables.specs.Refusals.{Tells, named}
use Rattle.ref_tables.specs.declared.fault.TableName.TheVariants as names
use Rattle.ref_tables.specs.Seen.{Tables}
use Rattle.corr_top.specs.declared.account_words.AccountChange.{AccountChange}
use Rattle.corr_top.specs.declared.account_words.AccountChange.TheVariants.{Open, Limit}
use Rattle.corr_top.specs.declared.account_words.AccountWords.{AccountWords}
use Rattle.corr_top.specs.declared.account_words.Ends.{Ends}
use Rattle.corr_top.specs.declared.room.Room.{Room}
use Rattle.corr_top.specs.declared.room.Tables.{Tables as Files}
use Rattle.corr_top.specs.declared.status.Status.{Status}
use Rattle.corr_top.specs.declared.tables.TableStop.{TableStop}
use Rattle.corr_top.specs.declared.words.Command.TheVariants.{Plain}
use Rattle.corr_top.specs.declared.words.Plain.TheVariants.{Change}
use Rattle.corr_top.specs.declared.writing.Texts.{Texts}
use Rattle.corr_top.specs.Change.{change_steps}
use Rattle.corr_top.specs.Changed.{ChangesInTurn, HasChanged, StopsAtChange, cells_in, lent_in, opened_by, row_fault, what_in}
use Rattle.corr_top.specs.inner.Changed.{GivesChanged, GivesEntered, IsRowRefused}
use Rattle.corr_top.specs.Commands.{meaning_of}
use Rattle.corr_top.specs.inner.Ends.{CommandGives, HasTexts}
use Rattle.corr_top.specs.Inputs.{Inputs, opened}
use Rattle.corr_top.specs.OnDisk.{HasNotFailed, HoldsJournal, IsUnwritten}
use Rattle.corr_top.specs.Passing.{Passes, StepIsUntouched, StopsAt, table_at}
use Rattle.corr_top.specs.Steps.{Step}
use Rattle.corr_top.specs.Stops.{status_of_opening, status_of_table}
use Rattle.corr_top.specs.inner.Stops.{status_of_row}
use Rattle.corr_top.specs.inner.Tables.{HasLent, LeavesOthers, StopsLent, lent_steps}
use Rattle.corr_top.proofs.AccountRows.{formed}
use Rattle.corr_top.proofs.Journals.{same_unwritten}
use Rattle.corr_top.proofs.TableFiles.{no_inputs}
use Rattle.corr_top.proofs.Walking.{contained, halts_back, halts_front, walks_both}

-- what is left after a fault, where it says less
leaves_less : (stop : ChangeFault) (P Q : Type 0) → (P → Q) → LeavesDisk stop P → LeavesDisk stop Q
leaves_less (changing.Open fault) P Q less has = less has
leaves_less changing.Unknown P Q less has = less has
leaves_less changing.Rows P Q less has = less has
leaves_less (changing.Double row) P Q less has = less has
leaves_less changing.Currency P Q less has = less has
leaves_less (changing.Limits account) P Q less has = less has
leaves_less (changing.Full end need) P Q less has = less has
leaves_less (changing.DiskFault before after) P Q less has = has
leaves_less changing.Memory P Q less has = less has

-- a row that is given alone is refused by the first test that it fails
pub row_told : (told : Option Why) (fault : TableFault) → Tells (named names.Accounts (option_map (λ w. (1, w)) told)) fault → IsRowRefused told (status_of_row fault)
row_told None (refused.Bad name row why) tells = absurd (none-some _ tells)
row_told (Some reason) (refused.Bad name row why) tells =
    let pair = same_Some (names.Accounts, 1, reason) (name, row, why) tells in
    inl (why, refl, ap (λ (t : TableName × ℕ × Why). Some t.2) pair)
row_told told refused.Memory tells = inr refl

-- the closed gate is the last byte of the file
gate_at : (end size : ℕ) → end + 1 ≡ size → end ≡ size - 1
gate_at end size place = omega (arith, place)

module _ {D : Type 0} (d : disks.Ghosts D) where
  -- nothing was written, and then nothing more
  pub unwritten_then : (old mid new : D) → IsUnwritten d old mid → IsUnwritten d mid new → IsUnwritten d old new
  unwritten_then old mid new first second = record {
    same = second.same ∙ first.same;
    no_more = λ c left. first.no_more c (second.no_more c left);
    any_moment = then_on d.moment d.left_since old mid new (d.may_leave old) first.any_moment
        (weaker d.moment d.left_since mid new (d.may_leave mid) (d.may_leave old) (λ c left. first.no_more c left) second.any_moment);
  }

  module _ (old new : D) (chart : Chart) (history : List Entry) (what : What) where
    -- ---- from the answer of the journal's change

    -- it was made
    pub entered : (end : ℕ) (texts : Texts) → end + 1 ≡ length (file_of chart history) → ChangeShows chart history what end (d.faults old) (d.faults new) None
        → IsJournal (with_change chart (length history) what) history
        → (IsTrue (d.honest new) → StandsForBook (d.reads new) (with_change chart (length history) what) history × Only (d.reads new) (d.may_leave new))
        → (IsTrue (d.honest old) → LeavesOnly d.moment d.left_since old new (IsBeforeOrChanged chart history what)) → texts.report ≡ [] → texts.out ≡ []
        → GivesEntered d old new chart history what (Ok texts)
    entered end texts place shows journal stands moments report out =
        let at = gate_at end (length (file_of chart history)) place in
        let here = subst (λ (n : ℕ). ChangeShows chart history what n (d.faults old) (d.faults new) None) at shows in (
          here.0,
          here.1,
          record { sure = here.2; made = record { stands = λ told. (stands told).0; durable = λ told. (stands told).1 }; journal = journal; any_moment = λ told before. moments told },
          report,
          out,
        )

    -- it was not
    pub unentered : ((disk : D) (c : List ℕ) → d.left_since disk (d.moment disk) c → d.may_leave disk c) → (end : ℕ) (stop : ChangeFault) → end + 1 ≡ length (file_of chart history)
        → ChangeShows chart history what end (d.faults old) (d.faults new) (Some stop) → LeavesDisk stop (new ≡ old)
        → (IsTrue (d.honest old) → LeavesOnly d.moment d.left_since old new (IsBeforeOrChanged chart history what)) → StopsAtChange d old new chart history what stop
    unentered only end stop place shows leaves moments = record {
      cause = subst (λ (n : ℕ). ChangeShows chart history what n (d.faults old) (d.faults new) (Some stop)) (gate_at end (length (file_of chart history)) place) shows;
      untouched = leaves_less stop (new ≡ old) (IsUnwritten d old new) (same_unwritten d only old new) leaves;
      any_moment = λ told before. moments told;
    }

  -- ---- from the disk before it was opened

  module _ (old mid new : D) (unwritten : IsUnwritten d old mid) (sure : HasNotFailed d old mid) (honest : d.honest mid ≡ d.honest old) (chart : Chart) (history : List Entry) (what : What) where
    turn_from : ChangesInTurn d mid new chart history what → ChangesInTurn d old new chart history what
    turn_from turn told stands =
        let P = IsBeforeOrChanged chart history what in
        then_on d.moment d.left_since old mid new P (weaker d.moment d.left_since old mid (d.may_leave old) P (λ c left. inl (stands c left)) unwritten.any_moment)
        (turn (subst IsTrue (sym honest) told) (λ image left. stands image (unwritten.no_more image left)))

    stop_from : (stop : ChangeFault) → StopsAtChange d mid new chart history what stop → StopsAtChange d old new chart history what stop
    stop_from stop stops = record {
      cause = subst (λ (n : ℕ). ChangeShows chart history what (length (file_of chart history) - 1) n (d.faults new) (Some stop)) sure stops.cause;
      untouched = leaves_less stop (IsUnwritten d mid new) (IsUnwritten d old new) (unwritten_then old mid new unwritten) stops.untouched;
      any_moment = turn_from stops.any_moment;
    }

    made_from : HasChanged d mid new chart history what → HasChanged d old new chart history what
    made_from made = record { sure = made.sure ∙ sure; made = made.made; journal = made.journal; any_moment = turn_from made.any_moment }

    pub entered_from : (r : Result Texts Status) → GivesEntered d mid new chart history what r → GivesEntered d old new chart history what r
    entered_from (Ok texts) gives = (gives.0, gives.1, made_from gives.2, gives.3, gives.4)
    entered_from (Err s) (inl stop) = inl (stop.0, stop.1, stop_from stop.0 stop.2)
    entered_from (Err s) (inr memory) = inr (memory.0, memory.1 ∙ sure, unwritten_then old mid new unwritten memory.2)

  -- ---- what changing a journal gives

  module _ (old new : D) (known : Tables) (change : AccountChange) (chart : Chart) (history : List Entry) (holds : HoldsJournal d old chart history) where
    -- the row is right
    pub changed_by : row_fault chart known change ≡ None → (r : Result Texts Status) → GivesEntered d old new chart history (what_in chart known change) r → GivesChanged d old new known change r
    changed_by fine (Ok texts) gives = (chart, history, holds, fine, gives)
    changed_by fine (Err s) (inl stop) = inr (chart, history, holds, inr (inl (stop.0, stop.1, fine, stop.2)))
    changed_by fine (Err s) (inr memory) = inr (chart, history, holds, inr (inr memory))

    -- it is refused, or memory ran out
    pub row_refused : (s : Status) → IsRowRefused (row_fault chart known change) s → IsUnwritten d old new → HasNotFailed d old new → GivesChanged d old new known change (Err s)
    row_refused s (inl row) unwritten sure = inr (chart, history, holds, inl (row.0, row.1, record { is = row.2; sure = sure; untouched = unwritten }))
    row_refused s (inr memory) unwritten sure = inr (chart, history, holds, inr (inr (memory, sure, unwritten)))

  -- ---- from opening the journal

  -- its opening stopped
  pub opening_stops : (old new : D) (known : Tables) (change : AccountChange) (fault : OpenFault) (s : Status) → s ≡ status_of_opening fault → BookOpenCause (d.faults old) (d.faults new) fault
      → (IsTrue (d.honest old) → IfSome (found_by fault) (IsFound (opened_of (d.reads old)))) → IsUnwritten d old new → GivesChanged d old new known change (Err s)
  opening_stops old new known change fault s is cause told unwritten = inl (fault, is, record { cause = cause; told = told; untouched = unwritten })

  module _ (old mid : D) (known : Tables) (chart : Chart) (history : List Entry) (journal : IsJournal chart history)
      (told : IsTrue (d.honest old) → IsFound (opened_of (d.reads old)) (book chart history)) (unwritten : IsUnwritten d old mid) (sure : d.faults mid ≡ d.faults old) (honest : d.honest mid ≡ d.honest old) where
    holds : HoldsJournal d old chart history
    holds = record { journal = journal; stands = λ here. (told here).1 }

    -- the change that the words say was entered, or not
    pub opened_texts : (new : D) (change : AccountChange) (what : What) (r : Result Texts Status) → row_fault chart known change ≡ None → what ≡ what_in chart known change
        → GivesEntered d mid new chart history what r → GivesChanged d old new known change r
    opened_texts new change what r fine is gives =
        changed_by old new known change chart history holds fine r
        (entered_from old mid new unwritten sure honest chart history (what_in chart known change) r (subst (λ (w : What). GivesEntered d mid new chart history w r) is gives))

    -- its row was refused
    pub refused_texts : (new : D) (change : AccountChange) (s : Status) → new ≡ mid → IsRowRefused (row_fault chart known change) s → GivesChanged d old new known change (Err s)
    refused_texts new change s same refused =
        row_refused old new known change chart history holds s refused (subst (λ (x : D). IsUnwritten d old x) (sym same) unwritten) (ap (λ (x : D). d.faults x) same ∙ sure)

-- the account that the words open
pub opened_what : (known : Tables) (words : AccountWords) (row : AccountRow) (account : Account) → row ≡ account_of known (cells_in words) → account ≡ opened row → Opened account ≡ opened_by known words
opened_what known words row account is made = ap (λ (a : Account). Opened a) (made ∙ ap opened is)

-- it is in form
pub opened_form : (home : List ℕ) (known : Tables) (row : AccountRow) (account : Account) → IsAccount home known row → account ≡ opened row → IsFormed account
opened_form home known row account is made = subst IsFormed (sym made) (formed home known row is)

-- the row's tests for the home bank of the journal
pub row_home : (chart : Chart) (home : Bic) (known : Tables) (words : AccountWords) → home ≡ chart.home → account_fault home.head known [] (cells_in words) ≡ row_fault chart known (Open words)
row_home chart home known words is = ap (λ (b : Bic). account_fault b.head known [] (cells_in words)) is

-- ---- the commands

module _ {S K D : Type 0} (source : sources.Ghosts S) (d : disks.Ghosts D) (old new : Room S K D) where
  -- all but the tables and the disk is as it was
  pub record IsRest : Type 0 where
    pub messages : new.messages ≡ old.messages
    pub received : new.received ≡ old.received
    pub sent : new.sent ≡ old.sent
    pub disk2 : new.disk2 ≡ old.disk2
    pub report : new.report ≡ old.report
    pub out : new.out ≡ old.out

  -- the tables that a change doesn't read are as they were
  abbrev pub KeepsTables : AccountChange → Type 0
  KeepsTables (Open words) = LeavesOthers source old.tables new.tables
  KeepsTables (Limit id ends) = new.tables ≡ old.tables

  tables_rest : (change : AccountChange) → KeepsTables change → (name : TableName) → (Contains (change_steps change) (Step.table name) → ⊥) → table_at name new.tables ≡ table_at name old.tables
  tables_rest (Open words) kept names.Bics unread = absurd (unread (contained (Step.table names.Bics) (change_steps (Open words)) refl))
  tables_rest (Open words) kept names.Ccys unread = absurd (unread (contained (Step.table names.Ccys) (change_steps (Open words)) refl))
  tables_rest (Open words) kept names.Countries unread = kept.countries
  tables_rest (Open words) kept names.Accounts unread = kept.accounts
  tables_rest (Open words) kept names.Ssi unread = kept.ssi
  tables_rest (Open words) kept names.Charges unread = kept.charges
  tables_rest (Limit id ends) kept name unread = ap (λ (tables : Files S). table_at name tables) kept

  gives_change : (change : AccountChange) → KeepsTables change → IsRest → (r : Result Texts Status) (i : Inputs) → i.change ≡ change → CommandGives source d (meaning_of (Plain (Change change))) old new r i
      → HasTexts source d (meaning_of (Plain (Change change))) old new r
  unfolding meaning_of
  gives_change change kept rest r i asked gives = record {
    inputs = i;
    are_for = asked;
    gives = gives;
    rest = record { tables = tables_rest change kept; messages = λ unread unserved. rest.messages; received = λ unread unpacked. rest.received; sent = λ unread. rest.sent; disk2 = λ unread. rest.disk2 };
    report = rest.report;
    out = rest.out;
  }

  -- a table stopped `open-account`
  pub lent_stop : ((disk : D) (c : List ℕ) → d.left_since disk (d.moment disk) c → d.may_leave disk c) → (words : AccountWords) (stop : TableStop) → StopsLent source old.tables new.tables stop → IsRest → new.disk ≡ old.disk
      → HasTexts source d (meaning_of (Plain (Change (Open words)))) old new (Err (status_of_table stop))
  unfolding meaning_of
  lent_stop only words stop stops rest disk =
      let i : Inputs = record stops.at.inputs { change = Open words } in
      let more = Step.open_journal ∷ Step.change ∷ [] in
      gives_change (Open words) stops.rest rest (Err (status_of_table stop)) i refl
      (inl (halts_front (Passes source d old new i) (StopsAt source d old new i (status_of_table stop)) (StepIsUntouched d old new) lent_steps more stops.at.halted (disk, (same_unwritten d only old.disk new.disk disk, tt))))

  -- `open-account` ends as the change of the disk of its room
  module _ (words : AccountWords) (known : Tables) (has : HasLent source old.tables new.tables known) (rest : IsRest) where
    pub open_texts : (r : Result Texts Status) → GivesChanged d old.disk new.disk known (Open words) r → HasTexts source d (meaning_of (Plain (Change (Open words)))) old new r
    unfolding meaning_of
    open_texts r gives = by_lent r (subst (λ (t : Tables). GivesChanged d old.disk new.disk t (Open words) r) has.known_is gives)
      where
        by_lent : (r : Result Texts Status) → GivesChanged d old.disk new.disk (lent_in has.inputs) (Open words) r → HasTexts source d (meaning_of (Plain (Change (Open words)))) old new r
        by_lent (Ok texts) gives =
            let i : Inputs = record has.inputs { change = Open words; chart = gives.0; history = gives.1 } in
            let done = gives.4 in
            gives_change (Open words) has.rest rest (Ok texts) i refl (
              record {
                passed = walks_both (Passes source d old new i) lent_steps (Step.open_journal ∷ Step.change ∷ []) has.passed (gives.2, (record { row = gives.3; legal = done.0; room = done.1 }, tt));
                leaves = done.2;
              },
              done.3,
              done.4,
              tt,
            )
        by_lent (Err s) (inl stop) =
            let i : Inputs = record has.inputs { change = Open words } in
            gives_change (Open words) has.rest rest (Err s) i refl
            (inl (halts_back (Passes source d old new i) (StopsAt source d old new i s) (StepIsUntouched d old new) lent_steps (Step.open_journal ∷ Step.change ∷ []) has.passed
            (inl (stop, (stop.2.untouched, tt)))))
        by_lent (Err s) (inr stop) =
            let i : Inputs = record has.inputs { change = Open words; chart = stop.0; history = stop.1 } in
            gives_change (Open words) has.rest rest (Err s) i refl
            (inl (halts_back (Passes source d old new i) (StopsAt source d old new i s) (StepIsUntouched d old new) lent_steps (Step.open_journal ∷ Step.change ∷ []) has.passed
            (inr (stop.2, inl (stop.3, tt)))))

  -- `set-limits` ends so, whatever the tables
  module _ (id : List ℕ) (ends : Ends) (tables : new.tables ≡ old.tables) (rest : IsRest) where
    pub limit_texts : (r : Result Texts Status) → ((known : Tables) → GivesChanged d old.disk new.disk known (Limit id ends) r) → HasTexts source d (meaning_of (Plain (Change (Limit id ends)))) old new r
    unfolding meaning_of
    limit_texts r gives = by_none r (gives (lent_in no_inputs))
      where
        by_none : (r : Result Texts Status) → GivesChanged d old.disk new.disk (lent_in no_inputs) (Limit id ends) r → HasTexts source d (meaning_of (Plain (Change (Limit id ends)))) old new r
        by_none (Ok texts) gives =
            let i : Inputs = record no_inputs { change = Limit id ends; chart = gives.0; history = gives.1 } in
            let done = gives.4 in
            gives_change (Limit id ends) tables rest (Ok texts) i refl
            (record { passed = (gives.2, (record { row = gives.3; legal = done.0; room = done.1 }, tt)); leaves = done.2 }, done.3, done.4, tt)
        by_none (Err s) (inl stop) = gives_change (Limit id ends) tables rest (Err s) (record no_inputs { change = Limit id ends }) refl (inl (inl (stop, (stop.2.untouched, tt))))
        by_none (Err s) (inr stop) =
            let i : Inputs = record no_inputs { change = Limit id ends; chart = stop.0; history = stop.1 } in
            gives_change (Limit id ends) tables rest (Err s) i refl (inl (inr (stop.2, inl (stop.3, tt))))
