-- The page of a day: how that ends before anything is written.
use Rattle.std.proofs.Common.{◌≡◌, inl, inr, ℕ, List, [], ◌∷◌, Result, Ok, Err, refl, ap, sym, subst, ◌∙◌}
use Rattle.std.specs.List.{Contains}
use Rattle.corr_disk.specs.declared.disk.Disk as disks
use Rattle.corr_ids.specs.declared.day.Day.{Day}
use Rattle.corr_io.specs.declared.source.Source as sources
use Rattle.ref_tables.specs.declared.fault.TableName.{TableName}
use Rattle.ref_tables.specs.declared.fault.TableName.TheVariants as names
use Rattle.corr_top.specs.declared.directory.Directory.{Directory}
use Rattle.corr_top.specs.declared.room.Room.{Room}
use Rattle.corr_top.specs.declared.status.Status.{Status}
use Rattle.corr_top.specs.declared.tables.TableStop.{TableStop}
use Rattle.corr_top.specs.declared.words.Command.TheVariants.{Plain}
use Rattle.corr_top.specs.declared.words.Plain.TheVariants.{Page}
use Rattle.corr_top.specs.declared.writing.Texts.{Texts}
use Rattle.corr_top.specs.Commands.{meaning_of}
use Rattle.corr_top.specs.inner.Ends.{CommandGives, HasTexts}
use Rattle.corr_top.specs.Inputs.{Inputs}
use Rattle.corr_top.specs.Meaning.{KeepsRest}
use Rattle.corr_top.specs.Page.{day_page, page_report, page_steps}
use Rattle.corr_top.specs.inner.Page.{GivesPage, GivesShown, StopsAtFile}
use Rattle.corr_top.specs.Passing.{HasMessages, Passes, StepIsUntouched, StopsAt, table_at}
use Rattle.corr_top.specs.Steps.{Halts, Step, Walks}
use Rattle.corr_top.specs.Stops.{status_of_file, status_of_table}
use Rattle.corr_top.specs.inner.Tables.{HasDirectory, StopsDirectory, directory_steps}
use Rattle.corr_top.proofs.Walking.{contained, halts_back, halts_front, walks_both}

-- the steps after the tables
abbrev file_steps : List Step
file_steps = Step.messages ∷ Step.open_journal ∷ []

-- what it leaves as it is
pub record IsRest {S K D : Type 0} (old new : Room S K D) : Type 0 where
  pub accounts : new.tables.accounts ≡ old.tables.accounts
  pub received : new.received ≡ old.received
  pub sent : new.sent ≡ old.sent
  pub disk2 : new.disk2 ≡ old.disk2
  pub report : new.report ≡ old.report
  pub out : new.out ≡ old.out

module _ {S K D : Type 0} (source : sources.Ghosts S) (d : disks.Ghosts D) (day : Day) (old new : Room S K D) (rest : IsRest old new) where
  -- what it doesn't read is as it was
  tables_rest : (name : TableName) → (Contains page_steps (Step.table name) → ⊥) → table_at name new.tables ≡ table_at name old.tables
  tables_rest names.Bics unread = absurd (unread (contained (Step.table names.Bics) page_steps refl))
  tables_rest names.Ccys unread = absurd (unread (contained (Step.table names.Ccys) page_steps refl))
  tables_rest names.Countries unread = absurd (unread (contained (Step.table names.Countries) page_steps refl))
  tables_rest names.Accounts unread = rest.accounts
  tables_rest names.Ssi unread = absurd (unread (contained (Step.table names.Ssi) page_steps refl))
  tables_rest names.Charges unread = absurd (unread (contained (Step.table names.Charges) page_steps refl))

  keeps_rest : KeepsRest page_steps old new
  keeps_rest = record {
    tables = tables_rest;
    messages = λ unread unserved. absurd (unread (contained Step.messages page_steps refl));
    received = λ unread unpacked. rest.received;
    sent = λ unread. rest.sent;
    disk2 = λ unread. rest.disk2;
  }

  gives_page : (r : Result Texts Status) (i : Inputs) → i.day ≡ day → CommandGives source d (meaning_of (Plain (Page day))) old new r i → HasTexts source d (meaning_of (Plain (Page day))) old new r
  unfolding meaning_of
  gives_page r i is gives = record { inputs = i; are_for = is; gives = gives; rest = keeps_rest; report = rest.report; out = rest.out }

  -- a table stopped it
  pub tables_stop : (stop : TableStop) → StopsDirectory source old.tables new.tables stop → new.messages ≡ old.messages → new.disk ≡ old.disk
      → HasTexts source d (meaning_of (Plain (Page day))) old new (Err (status_of_table stop))
  unfolding meaning_of
  tables_stop stop stops messages disk =
      let i = record stops.at.inputs { day = day } in
      gives_page (Err (status_of_table stop)) i refl
      (inl (halts_front (Passes source d old new i) (StopsAt source d old new i (status_of_table stop)) (StepIsUntouched d old new) directory_steps file_steps stops.at.halted (messages, (disk, tt))))

  module _ (directory : Directory) (has : HasDirectory source old.tables new.tables directory) where
    -- the tables were read, and a step after them stopped it
    after_tables : (i : Inputs) (s : Status) → Walks (Passes source d old new i) directory_steps
        → Halts (Passes source d old new i) (StopsAt source d old new i s) (StepIsUntouched d old new) file_steps
        → Halts (Passes source d old new i) (StopsAt source d old new i s) (StepIsUntouched d old new) page_steps
    after_tables i s passed halts = halts_back (Passes source d old new i) (StopsAt source d old new i s) (StepIsUntouched d old new) directory_steps file_steps passed halts

    -- the message file was not taken
    file_stops : (r : Result Texts Status) → StopsAtFile source d directory day old.messages new.messages old.disk new.disk r → HasTexts source d (meaning_of (Plain (Page day))) old new r
    unfolding meaning_of
    file_stops r stops =
        let i = record has.inputs { day = day; messages = stops.bytes } in
        let s = status_of_file stops.stop in
        subst (λ (x : Result Texts Status). HasTexts source d (meaning_of (Plain (Page day))) old new x) (sym stops.told)
        (gives_page (Err s) i refl (inl (after_tables i s has.passed (inl ((stops.stop, refl, stops.stops, ap d.faults stops.same), (stops.same, tt))))))

    -- it was, and the page was made, or the journal was not opened, or memory ran out
    shown_ends : (bytes : List ℕ) (cut : List (List ℕ)) (r : Result Texts Status) → HasMessages source old.messages new.messages bytes cut → GivesShown d directory day old.disk new.disk cut r
        → HasTexts source d (meaning_of (Plain (Page day))) old new r
    unfolding meaning_of page_report
    shown_ends bytes cut (Ok texts) file shown =
        let i = record has.inputs { day = day; messages = bytes; cut = cut; chart = shown.0; history = shown.1 } in
        gives_page (Ok texts) i refl (
          record { passed = walks_both (Passes source d old new i) directory_steps file_steps has.passed (file, (shown.2.holds, tt)); leaves = shown.2.leaves },
          shown.3 ∙ ap (λ (x : Directory). day_page x shown.0 shown.1 day cut) has.directory_is,
          shown.4,
          tt,
        )
    shown_ends bytes cut (Err s) file (inl stops) =
        let i = record has.inputs { day = day; messages = bytes; cut = cut } in
        gives_page (Err s) i refl (inl (after_tables i s has.passed (inr (file, inl (stops, tt)))))
    shown_ends bytes cut (Err s) file (inr memory) =
        let i = record has.inputs { day = day; messages = bytes; cut = cut; chart = memory.0; history = memory.1 } in
        gives_page (Err s) i refl
        (inr (record { passed = walks_both (Passes source d old new i) directory_steps file_steps has.passed (file, (memory.2.holds, tt)); leaves = memory.2.leaves }, memory.3))

    -- the part of the command after the tables
    pub page_ends : (r : Result Texts Status) → GivesPage source d directory day old.messages new.messages old.disk new.disk r → HasTexts source d (meaning_of (Plain (Page day))) old new r
    page_ends r (inl stops) = file_stops r stops
    page_ends r (inr has_shown) = shown_ends has_shown.bytes has_shown.cut r has_shown.file has_shown.shown
