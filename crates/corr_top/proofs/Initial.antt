-- A journal that is made for the accounts of the tables.
use Rattle.std.proofs.Common.{◌≡◌, inl, ℕ, List, [], ◌∷◌, Result, Ok, Err, refl, sym, ap, ◌∙◌, subst}
use Rattle.std.specs.Prelude.{IsTrue, MatchResult}
use Rattle.std.specs.List.{Contains}
use Rattle.corr_disk.specs.declared.disk.Disk as disks
use Rattle.corr_disk.specs.Disk.{LeavesOnly, Only}
use Rattle.corr_io.specs.declared.source.Source as sources
use Rattle.corr_ids.specs.declared.bic.Bic.{Bic}
use Rattle.day_model.specs.declared.change.Change.{Change}
use Rattle.day_model.specs.Chart.{Chart}
use Rattle.jrn_book.specs.Journal.{IsJournal, item_records}
use Rattle.jrn_book.proofs.laws.Journals.{empty_journal}
use Rattle.jrn_codec.specs.Header.{IsHead, head_bytes}
use Rattle.jrn_file.specs.Faults.{MakeCause}
use Rattle.jrn_file.specs.Journal.{StandsFor}
use Rattle.jrn_file.specs.Making.{IsOther, IsUnmade, IsUnmadeOrMade}
use Rattle.jrn_file.specs.declared.fault.MakeFault.{MakeFault}
use Rattle.ref_tables.specs.declared.fault.TableName.{TableName}
use Rattle.ref_tables.specs.declared.fault.TableName.TheVariants as names
use Rattle.corr_top.specs.declared.room.Room.{Room}
use Rattle.corr_top.specs.declared.status.Status.{Status}
use Rattle.corr_top.specs.declared.words.Command.TheVariants.{Plain}
use Rattle.corr_top.specs.declared.words.Plain.TheVariants.{Init}
use Rattle.corr_top.specs.declared.writing.Texts.{Texts}
use Rattle.corr_top.specs.Commands.{meaning_of}
use Rattle.corr_top.specs.inner.Ends.{HasTexts}
use Rattle.corr_top.specs.Init.{init_steps}
use Rattle.corr_top.specs.Inputs.{chart_in}
use Rattle.corr_top.specs.Meaning.{KeepsRest}
use Rattle.corr_top.specs.OnDisk.{HasNotFailed, IsMakeable, IsOnDisk, IsUnwritten, MakesInTurn, StopsMaking}
use Rattle.corr_top.specs.Passing.{StepIsUntouched, Passes, StopsAt, table_at}
use Rattle.corr_top.specs.Steps.{Step}
use Rattle.corr_top.specs.Stops.{status_of_making}
use Rattle.corr_top.specs.inner.Tables.{HasAccounts, StopsAccounts, account_steps}
use Rattle.corr_top.proofs.Walking.{contained, halts_back, halts_front, walks_both}

-- accounts that have a header have a journal without entries
pub new_journal : (chart : Chart) → IsHead chart → IsJournal chart []
new_journal chart head = empty_journal _ chart head

module _ {D : Type 0} (d : disks.Ghosts D) (old new : D) (head bytes : List ℕ) (chart : Chart) (given : bytes ≡ head) (is : head ≡ head_bytes chart) where
  moments_of : (IsTrue (d.honest old) → Only (d.reads old) (d.may_leave old) → IsUnmade (d.reads old) → LeavesOnly d.moment d.left_since old new (IsUnmadeOrMade bytes)) → MakesInTurn d old new chart
  moments_of any_moment h only free = subst (λ (b : List ℕ). LeavesOnly d.moment d.left_since old new (IsUnmadeOrMade b)) (given ∙ is) (any_moment h only free)

  -- a journal of this header was made
  pub made : chart.changes ≡ [] → d.honest new ≡ d.honest old → (IsTrue (d.honest old) → StandsFor (d.reads new) bytes []) → (IsTrue (d.honest old) → Only (d.reads new) (d.may_leave new)) → d.faults new ≡ d.faults old → IsMakeable d old
      → (IsTrue (d.honest old) → Only (d.reads old) (d.may_leave old) → IsUnmade (d.reads old) → LeavesOnly d.moment d.left_since old new (IsUnmadeOrMade bytes))
      → IsMakeable d old × IsOnDisk d new chart [] × HasNotFailed d old new × MakesInTurn d old new chart
  made none honest stands durable kept free any_moment = (
    free,
    record { stands = λ h. subst (StandsFor (d.reads new) (head_bytes chart)) records (subst (λ (b : List ℕ). StandsFor (d.reads new) b []) (given ∙ is) (stands (sym honest ∙ h))); durable = λ h. durable (sym honest ∙ h) },
    kept,
    moments_of any_moment,
  )
    where
      records : [] ≡ item_records chart []
      records = ap (λ (cs : List Change). item_records (record chart { changes = cs }) []) (sym none)

  -- it was not
  pub unmade : (fault : MakeFault) → MakeCause (d.faults old) (d.faults new) (λ first. IsTrue (d.honest old) → IsOther (d.reads old) first) fault
      → ((first : ℕ) → IsTrue (d.honest old) → IsOther (d.reads old) first → IsUnwritten d old new)
      → (IsTrue (d.honest old) → Only (d.reads old) (d.may_leave old) → IsUnmade (d.reads old) → LeavesOnly d.moment d.left_since old new (IsUnmadeOrMade bytes)) → StopsMaking d old new chart fault
  unmade fault cause untouched any_moment = record {
    cause = cause;
    untouched = untouched;
    any_moment = moments_of any_moment;
  }

module _ {S K D : Type 0} (source : sources.Ghosts S) (d : disks.Ghosts D) (home : Bic) (old new : Room S K D) where
  -- what it doesn't read is as it was
  tables_rest : new.tables.ssi ≡ old.tables.ssi → new.tables.charges ≡ old.tables.charges → (name : TableName) → (Contains init_steps (Step.table name) → ⊥)
      → table_at name new.tables ≡ table_at name old.tables
  tables_rest ssi charges names.Bics unread = absurd (unread (contained (Step.table names.Bics) init_steps refl))
  tables_rest ssi charges names.Ccys unread = absurd (unread (contained (Step.table names.Ccys) init_steps refl))
  tables_rest ssi charges names.Countries unread = absurd (unread (contained (Step.table names.Countries) init_steps refl))
  tables_rest ssi charges names.Accounts unread = absurd (unread (contained (Step.table names.Accounts) init_steps refl))
  tables_rest ssi charges names.Ssi unread = ssi
  tables_rest ssi charges names.Charges unread = charges

  keeps_rest : new.tables.ssi ≡ old.tables.ssi → new.tables.charges ≡ old.tables.charges → new ≡ record old { tables = new.tables; disk = new.disk } → KeepsRest init_steps old new
  keeps_rest ssi charges rest = record {
    tables = tables_rest ssi charges;
    messages = λ unread unserved. ap (λ (r : Room S K D). r.messages) rest;
    received = λ unread unpacked. ap (λ (r : Room S K D). r.received) rest;
    sent = λ unread. ap (λ (r : Room S K D). r.sent) rest;
    disk2 = λ unread. ap (λ (r : Room S K D). r.disk2) rest;
  }

  -- the accounts were not read, or their openings don't sum to 0
  pub accounts_stop : (s : Status) → StopsAccounts source old.tables new.tables home s → new ≡ record old { tables = new.tables } → HasTexts source d (meaning_of (Plain (Init home))) old new (Err s)
  unfolding meaning_of
  accounts_stop s stops rest = record {
    inputs = stops.inputs;
    are_for = stops.home_is;
    gives = inl (halts_front (Passes source d old new stops.inputs) (StopsAt source d old new stops.inputs s) (StepIsUntouched d old new) account_steps (Step.make ∷ []) stops.halted (ap (λ (r : Room S K D). r.disk) rest, tt));
    rest = record {
      tables = tables_rest stops.ssi stops.charges;
      messages = λ unread unserved. ap (λ (r : Room S K D). r.messages) rest;
      received = λ unread unpacked. ap (λ (r : Room S K D). r.received) rest;
      sent = λ unread. ap (λ (r : Room S K D). r.sent) rest;
      disk2 = λ unread. ap (λ (r : Room S K D). r.disk2) rest;
    };
    report = ap (λ (r : Room S K D). r.report) rest;
    out = ap (λ (r : Room S K D). r.out) rest;
  }

  -- they were, and the journal was made or it wasn't
  pub init_texts : (chart : Chart) (head : List ℕ) (making : Result (Unit {0}) MakeFault) (texts : Texts) → HasAccounts source old.tables new.tables home chart → IsHead chart → head ≡ head_bytes chart → new ≡ record old { tables = new.tables; disk = new.disk }
      → MatchResult making (λ _. (c : Chart) → c.changes ≡ [] → head ≡ head_bytes c → IsMakeable d old.disk × IsOnDisk d new.disk c [] × HasNotFailed d old.disk new.disk × MakesInTurn d old.disk new.disk c) (λ fault. (c : Chart) → head ≡ head_bytes c → StopsMaking d old.disk new.disk c fault)
      → texts.report ≡ [] → texts.out ≡ []
      → MatchResult making (λ _. HasTexts source d (meaning_of (Plain (Init home))) old new (Ok texts)) (λ fault. HasTexts source d (meaning_of (Plain (Init home))) old new (Err (status_of_making fault)))
  unfolding meaning_of
  init_texts chart head (Ok done) texts has written is rest making report out =
      let outcome = making chart written.unchanged is in
      record {
        inputs = has.inputs;
        are_for = has.home_is;
        gives = (
          record {
            passed = walks_both (Passes source d old new has.inputs) account_steps (Step.make ∷ []) has.passed (outcome.0, tt);
            leaves = record { sure = outcome.2; made = subst (λ (c : Chart). IsOnDisk d new.disk c []) has.chart_is outcome.1; journal = new_journal (chart_in has.inputs) (subst IsHead has.chart_is written); any_moment = subst (λ (c : Chart). MakesInTurn d old.disk new.disk c) has.chart_is outcome.3 };
          },
          report,
          out,
          tt,
        );
        rest = keeps_rest has.ssi has.charges rest;
        report = ap (λ (r : Room S K D). r.report) rest;
        out = ap (λ (r : Room S K D). r.out) rest;
      }
  init_texts chart head (Err fault) texts has written is rest making report out =
      let outcome = making chart is in
      record {
        inputs = has.inputs;
        are_for = has.home_is;
        gives = inl (halts_back (Passes source d old new has.inputs) (StopsAt source d old new has.inputs (status_of_making fault)) (StepIsUntouched d old new) account_steps (Step.make ∷ []) has.passed
            (inl ((fault, refl, subst (λ (c : Chart). StopsMaking d old.disk new.disk c fault) has.chart_is outcome), tt)));
        rest = keeps_rest has.ssi has.charges rest;
        report = ap (λ (r : Room S K D). r.report) rest;
        out = ap (λ (r : Room S K D). r.out) rest;
      }
