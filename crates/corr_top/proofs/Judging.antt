-- The verdicts on messages: how that ends before anything is written.
use Rattle.std.proofs.Common.{◌≡◌, inl, inr, [], ◌∷◌, Result, Ok, Err, refl, ap, ◌∙◌}
use Rattle.std.specs.List.{Contains}
use Rattle.corr_disk.specs.declared.disk.Disk as disks
use Rattle.corr_io.specs.declared.source.Source as sources
use Rattle.corr_ids.specs.declared.bic.Bic.{Bic}
use Rattle.ref_tables.specs.Seen.{Tables}
use Rattle.ref_tables.specs.declared.fault.TableName.{TableName}
use Rattle.ref_tables.specs.declared.fault.TableName.TheVariants as names
use Rattle.corr_top.specs.declared.room.Room.{Room}
use Rattle.corr_top.specs.declared.status.Status.{Status}
use Rattle.corr_top.specs.declared.tables.TableStop.{TableStop}
use Rattle.corr_top.specs.declared.words.Command.TheVariants.{Plain}
use Rattle.corr_top.specs.declared.words.Plain.TheVariants.{Check}
use Rattle.corr_top.specs.declared.writing.Texts.{Texts}
use Rattle.corr_top.specs.Check.{check_lines, check_report, check_steps}
use Rattle.corr_top.specs.inner.Check.{GivesVerdicts}
use Rattle.corr_top.specs.Commands.{meaning_of}
use Rattle.corr_top.specs.inner.Ends.{CommandGives, HasTexts}
use Rattle.corr_top.specs.Inputs.{Inputs}
use Rattle.corr_top.specs.Meaning.{KeepsRest}
use Rattle.corr_top.specs.Passing.{StepIsUntouched, Passes, StopsAt, table_at}
use Rattle.corr_top.specs.Steps.{Step}
use Rattle.corr_top.specs.Stops.{status_of_table}
use Rattle.corr_top.specs.inner.Tables.{HasKnown, StopsKnown, known_steps}
use Rattle.corr_top.proofs.Walking.{contained, halts_back, halts_front, walks_both}

-- what it leaves as it is, beside the tables of accounts, instructions and charges
pub record IsBeside {S K D : Type 0} (old new : Room S K D) : Type 0 where
  pub received : new.received ≡ old.received
  pub sent : new.sent ≡ old.sent
  pub disk : new.disk ≡ old.disk
  pub disk2 : new.disk2 ≡ old.disk2
  pub report : new.report ≡ old.report
  pub out : new.out ≡ old.out

module _ {S K D : Type 0} (source : sources.Ghosts S) (d : disks.Ghosts D) (home : Bic) (old new : Room S K D) (rest : IsBeside old new) (accounts : new.tables.accounts ≡ old.tables.accounts)
    (ssi : new.tables.ssi ≡ old.tables.ssi) (charges : new.tables.charges ≡ old.tables.charges) where
  -- what it doesn't read is as it was
  tables_rest : (name : TableName) → (Contains check_steps (Step.table name) → ⊥) → table_at name new.tables ≡ table_at name old.tables
  tables_rest names.Bics unread = absurd (unread (contained (Step.table names.Bics) check_steps refl))
  tables_rest names.Ccys unread = absurd (unread (contained (Step.table names.Ccys) check_steps refl))
  tables_rest names.Countries unread = absurd (unread (contained (Step.table names.Countries) check_steps refl))
  tables_rest names.Accounts unread = accounts
  tables_rest names.Ssi unread = ssi
  tables_rest names.Charges unread = charges

  keeps_rest : KeepsRest check_steps old new
  keeps_rest = record {
    tables = tables_rest;
    messages = λ unread unserved. absurd (unread (contained Step.messages check_steps refl));
    received = λ unread unpacked. rest.received;
    sent = λ unread. rest.sent;
    disk2 = λ unread. rest.disk2;
  }

  gives_check : (r : Result Texts Status) (i : Inputs) → i.home ≡ home → CommandGives source d (meaning_of (Plain (Check home))) old new r i → HasTexts source d (meaning_of (Plain (Check home))) old new r
  unfolding meaning_of
  gives_check r i same gives = record { inputs = i; are_for = same; gives = gives; rest = keeps_rest; report = rest.report; out = rest.out }

  -- a table stopped it
  pub known_stop : (stop : TableStop) → StopsKnown source old.tables new.tables stop → new.messages ≡ old.messages → HasTexts source d (meaning_of (Plain (Check home))) old new (Err (status_of_table stop))
  unfolding meaning_of
  known_stop stop stops messages =
      let i = record stops.at.inputs { home = home } in
      gives_check (Err (status_of_table stop)) i refl
      (inl (halts_front (Passes source d old new i) (StopsAt source d old new i (status_of_table stop)) (StepIsUntouched d old new) known_steps (Step.messages ∷ Step.aside ∷ []) stops.at.halted (messages, (rest.disk, tt))))

  -- none did, and the messages were judged, or they were not taken, or memory ran out
  pub verdict_texts : (known : Tables) → HasKnown source old.tables new.tables known → (r : Result Texts Status) → GivesVerdicts source home known old.messages new.messages r
      → HasTexts source d (meaning_of (Plain (Check home))) old new r
  unfolding meaning_of check_report
  verdict_texts known has (Ok texts) gives =
      let i = record has.inputs { home = home; messages = gives.0; cut = gives.1 } in
      gives_check (Ok texts) i refl (
        record { passed = walks_both (Passes source d old new i) known_steps (Step.messages ∷ Step.aside ∷ []) has.passed (gives.2, (rest.disk, tt)); leaves = rest.disk },
        gives.3 ∙ ap (λ (t : Tables). check_lines home t gives.1) has.known_is,
        gives.4,
        tt,
      )
  verdict_texts known has (Err s) (inl stops) =
      let i = record has.inputs { home = home; messages = stops.1 } in
      let sure : d.faults new.disk ≡ d.faults old.disk = ap d.faults rest.disk in
      gives_check (Err s) i refl (inl (halts_back (Passes source d old new i) (StopsAt source d old new i s) (StepIsUntouched d old new) known_steps (Step.messages ∷ Step.aside ∷ []) has.passed
      (inl ((stops.0, stops.2, stops.3, sure), (rest.disk, tt)))))
  verdict_texts known has (Err s) (inr memory) =
      let i = record has.inputs { home = home; messages = memory.0; cut = memory.1 } in
      gives_check (Err s) i refl (inr (record { passed = walks_both (Passes source d old new i) known_steps (Step.messages ∷ Step.aside ∷ []) has.passed (memory.2, (rest.disk, tt)); leaves = rest.disk }, memory.3))
