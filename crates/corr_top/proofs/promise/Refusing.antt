-- Why a change of the accounts is refused: the first reason against it, where its tables are right.
use Rattle.std.proofs.Common.{◌≡◌, ℕ, ◌+◌, ◌-◌, ◌<◌, List, length, Option, Some, None, false, inl, inr, refl, sym, ap, ◌∙◌, subst}
use mathlib.Core.Bool.{true≢false}
use Rattle.std.specs.List.{Contains}
use Rattle.corr_disk.specs.Disk.{most_disk_bytes}
use Rattle.corr_disk.specs.declared.disk.Disk as disks
use Rattle.corr_io.specs.declared.sink.Sink as sinks
use Rattle.corr_io.specs.declared.source.Source as sources
use Rattle.corr_text.specs.Faults.{Rose}
use Rattle.day_model.specs.Chart.{Chart}
use Rattle.day_model.specs.declared.change.Refusal.TheVariants as refusal
use Rattle.day_model.specs.declared.change.What.{What}
use Rattle.day_model.specs.declared.entry.Entry.{Entry}
use Rattle.jrn_book.specs.declared.changing.ChangeFault.{ChangeFault}
use Rattle.jrn_book.specs.declared.changing.ChangeFault.TheVariants as changing
use Rattle.jrn_book.specs.Changing.{ChangeShows}
use Rattle.jrn_book.specs.Journal.{file_of}
use Rattle.ref_tables.specs.Refusals.{named}
use Rattle.ref_tables.specs.Tables.{bics_fault, ccys_fault}
use Rattle.ref_tables.specs.declared.fault.TableName.{TableName}
use Rattle.ref_tables.specs.declared.fault.TableName.TheVariants as names
use Rattle.ref_tables.specs.declared.fault.Why.{Why}
use Rattle.corr_top.specs.declared.account_words.AccountChange.{AccountChange}
use Rattle.corr_top.specs.declared.account_words.AccountChange.TheVariants.{Open, Limit}
use Rattle.corr_top.specs.declared.room.Room.{Room}
use Rattle.corr_top.specs.declared.status.Status.{Status}
use Rattle.corr_top.specs.declared.status.Status.TheVariants as status
use Rattle.corr_top.specs.Change.{change_meaning, change_steps}
use Rattle.corr_top.specs.Changed.{IsRefusedFor, StopsChanging, lent_in, row_fault, what_of}
use Rattle.corr_top.specs.Ends.{Ends}
use Rattle.corr_top.specs.Inputs.{Inputs}
use Rattle.corr_top.specs.Passing.{Passes, StepIsUntouched, StopsAt, table_at, table_fault, table_file}
use Rattle.corr_top.specs.promises.Accounts.{AreRight}
use Rattle.corr_top.specs.promises.Books.{Keeps, Told, writes}
use Rattle.corr_top.specs.Steps.{Halts, Step, Walks}
use Rattle.corr_top.specs.Stops.{status_of_change}
use Rattle.corr_top.proofs.steps.OpenJournal.{opening_memory}
use Rattle.corr_top.proofs.steps.Table.{table_memory}
use Rattle.corr_top.proofs.FaultCounts.{tells_rose}
use Rattle.corr_top.proofs.Told.{small_table}
use Rattle.corr_top.proofs.Walking.{contained}
use Rattle.corr_top.proofs.promise.ChangeSteps.{first_steps, on_row, reached}

module _ {S K D : Type 0} (source : sources.Ghosts S) (sink : sinks.Ghosts K) (disk : disks.Ghosts D) (old new : Room S K D) (s : Status) (i : Inputs)
    (kept : Keeps disk old.disk i.chart i.history) (sound : Rose (disk.faults old.disk) (disk.faults new.disk) → ⊥) (enough : s ≡ status.Memory → ⊥) where
  -- ---- the reason of a stop at the change

  by_cause : (chart : Chart) (history : List Entry) (told : Option Why) (what : What) (stop : ChangeFault) → told ≡ None → s ≡ status_of_change what (length history) stop
      → ChangeShows chart history what (length (file_of chart history) - 1) (disk.faults old.disk) (disk.faults new.disk) (Some stop) → IsRefusedFor chart history told what s
  by_cause chart history told what (changing.Open fault) fine is cause = absurd cause
  by_cause chart history told what changing.Unknown fine is cause = inr (fine, inl (refusal.Unknown, cause.0, is))
  by_cause chart history told what changing.Rows fine is cause = inr (fine, inl (refusal.Rows, cause.0, is))
  by_cause chart history told what (changing.Double row) fine is cause = inr (fine, inl (refusal.Double row, cause.0, is))
  by_cause chart history told what changing.Currency fine is cause = inr (fine, inl (refusal.Currency, cause.0, is))
  by_cause chart history told what (changing.Limits account) fine is cause = inr (fine, inl (refusal.Limits account, cause.0, is))
  by_cause chart history told what (changing.Full at need) fine is cause =
      inr (
        fine,
        inr (record {
          legal = cause.0;
          past = subst (λ (x : ℕ × ℕ). most_disk_bytes < x.0 + x.1) (λ k. (cause.1 k, cause.2 k)) cause.3;
          status_is = is ∙ (λ k. status.Full (length history) (cause.1 k) (cause.2 k));
        }),
      )
  by_cause chart history told what (changing.DiskFault before after) fine is cause = absurd (sound (tells_rose (disk.faults old.disk) before after (disk.faults new.disk) cause.2))
  by_cause chart history told what changing.Memory fine is cause = absurd (enough is)

  reason_of : (chart : Chart) (history : List Entry) (told : Option Why) (what : What) → StopsChanging disk old.disk new.disk chart history told what s → IsRefusedFor chart history told what s
  reason_of chart history told what stops = elim stops [
    | inl row ↦ inl (row.0, row.2.is, row.1)
    | inr later ↦ elim later [
      | inl change ↦ by_cause chart history told what change.0 change.2 change.1 change.3.cause
      | inr memory ↦ absurd (enough memory.0)
    ]
  ]

  -- ---- it stopped at the change

  module _ (j : Inputs) where
    -- a table that is right stops nothing
    table_stops : (steps : List Step) → Told source old.tables steps i → AreRight source old.tables new.tables steps i → (name : TableName) → Contains steps (Step.table name)
        → (table_file name j ≡ table_file name i → table_fault name j ≡ table_fault name i) → StopsAt source disk old new j s (Step.table name) → ⊥
    table_stops steps told right name at same stops =
        let fine = right name at in
        enough (stops.1 ∙ table_memory source (table_at name old.tables) (table_at name new.tables) (table_file name j) (table_file name i) (table_fault name j) (table_fault name i) stops.0
        (record { told = told name at; sound = fine.0 }) fine.1 (small_table name i fine.1) same stops.2)

    -- nor does the journal
    opening_stops : StopsAt source disk old new j s Step.open_journal → ⊥
    opening_stops stops =
        enough (stops.1 ∙ opening_memory disk old.disk new.disk i.chart i.history stops.0 (record { told = kept.told; sound = sound }) (record { journal = kept.sound.journal; stands = λ honest. kept.reads }) stops.2)

    record StopsThere (change : AccountChange) : Type 0 where
      ahead : Walks (Passes source disk old new j) (first_steps change)
      stops : StopsAt source disk old new j s Step.change

    stops_there : (change : AccountChange) → Told source old.tables (change_steps change) i → AreRight source old.tables new.tables (change_steps change) i
        → Halts (Passes source disk old new j) (StopsAt source disk old new j s) (StepIsUntouched disk old new) (change_steps change) → StopsThere change
    stops_there (Open words) told right halts =
        let steps = change_steps (Open words) in
        elim halts [
          | inl here ↦ absurd (table_stops steps told right names.Bics (contained (Step.table names.Bics) steps refl) (λ own. ap (λ (f : List ℕ). named names.Bics (bics_fault f)) own) here.0)
          | inr one ↦ elim one.1 [
            | inl here ↦ absurd (table_stops steps told right names.Ccys (contained (Step.table names.Ccys) steps refl) (λ own. ap (λ (f : List ℕ). named names.Ccys (ccys_fault f)) own) here.0)
            | inr two ↦ elim two.1 [
              | inl here ↦ absurd (opening_stops here.0)
              | inr three ↦ elim three.1 [
                | inl here ↦ record { ahead = (one.0, (two.0, (three.0, tt))); stops = here.0 }
                | inr four ↦ absurd four.1
              ]
            ]
          ]
        ]
    stops_there (Limit id ends) told right halts = elim halts [
      | inl here ↦ absurd (opening_stops here.0)
      | inr one ↦ elim one.1 [
        | inl here ↦ record { ahead = (one.0, tt); stops = here.0 }
        | inr two ↦ absurd two.1
      ]
    ]

module _ {S K D : Type 0} (source : sources.Ghosts S) (sink : sinks.Ghosts K) (disk : disks.Ghosts D) (old new : Room S K D) (s : Status) (i : Inputs) where
  pub refused_for : Told source old.tables (change_steps i.change) i → Keeps disk old.disk i.chart i.history → AreRight source old.tables new.tables (change_steps i.change) i
      → (Rose (disk.faults old.disk) (disk.faults new.disk) → ⊥) → (s ≡ status.Memory → ⊥) → Ends source disk (change_meaning i.change) old new sink s → writes s ≡ false
      → IsRefusedFor i.chart i.history (row_fault i.chart (lent_in i) i.change) (what_of i) s
  refused_for told kept right sound enough ended none =
      let j = ended.inputs in
      elim ended.ends [
        | inl done ↦ absurd (true≢false (ap writes (sym done.status_is) ∙ none))
        | inr other ↦ elim other [
          | inl writing ↦ absurd (true≢false (ap writes (sym writing.status_is) ∙ none))
          | inr stop ↦ elim stop.stopped [
            | inl halts ↦
                let at = stops_there source sink disk old new s i kept sound enough j i.change told right halts in
                on_row source sink disk old new s i j (λ chart history row what. IsRefusedFor chart history row what s) (reached source sink disk old new s i j ended.are_for told kept at.ahead)
                (reason_of source sink disk old new s i kept sound enough j.chart j.history (row_fault j.chart (lent_in j) j.change) (what_of j) at.stops)
            | inr memory ↦ absurd (enough memory.1)
          ]
        ]
      ]
