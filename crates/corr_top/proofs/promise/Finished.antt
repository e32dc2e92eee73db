-- A command that wrote came to its end, and wrote its texts.
use Rattle.std.proofs.Common.{◌≡◌, ◌⊎◌, ℕ, List, [], true, false, inl, inr, length, refl, sym, ap, ◌∙◌, subst}
use mathlib.Core.Bool.{true≢false}
use Rattle.std.proofs.Math.Seq.{take-length}
use Rattle.std.proofs.KnownBytes.{Appends-nil}
use Rattle.std.specs.Io.KnownBytes.{Appends}
use Rattle.corr_disk.specs.declared.disk.Disk as disks
use Rattle.corr_io.specs.declared.sink.Sink as sinks
use Rattle.corr_io.specs.declared.source.Source as sources
use Rattle.corr_report.specs.Generated.{generated_of}
use Rattle.day_model.specs.Chart.{Chart}
use Rattle.day_model.specs.declared.entry.Entry.{Entry}
use Rattle.corr_top.specs.declared.room.Room.{Room}
use Rattle.corr_top.specs.declared.status.Status.{Status}
use Rattle.corr_top.specs.declared.status.Status.TheVariants as status
use Rattle.corr_top.specs.declared.words.Command.TheVariants.{Plain, Trial}
use Rattle.corr_top.specs.declared.words.Plain.TheVariants.{Generate, Query}
use Rattle.corr_top.specs.declared.words.Query.{Query as Asked}
use Rattle.corr_top.specs.Commands.{meaning_of}
use Rattle.corr_top.specs.Ends.{Ends, HasPassed}
use Rattle.corr_top.specs.Generate.{generate_meaning}
use Rattle.corr_top.specs.Inputs.{Inputs}
use Rattle.corr_top.specs.Meaning.{Meaning}
use Rattle.corr_top.specs.Passing.{StepIsUntouched, Passes, StopsAt}
use Rattle.corr_top.specs.Query.{QuerySends, query_meaning, query_out, query_report, query_steps}
use Rattle.corr_top.specs.Steps.{Halts, Step}
use Rattle.corr_top.specs.Trial.{BooksEach, trial_meaning, trial_report}
use Rattle.corr_top.specs.Writing.{FailsWriting}
use Rattle.corr_top.specs.promises.Books.{Keeps, Wrote, writes}
use Rattle.corr_top.proofs.Stopping.{halts_stop, stopped}
use Rattle.corr_top.proofs.Walking.{named_has}
use Rattle.corr_top.proofs.promise.Agreeing.{same_books}

module _ {S K D : Type 0} (sink : sinks.Ghosts K) (old new : Room S K D) (report out : List ℕ) where
  failed_wrote : (then now : ℕ) → FailsWriting sink.held sink.faults old.report new.report report old.out new.out out then now → Wrote sink old new (status.WriteFault then now) report out
  failed_wrote then now (inl first) = (
    first.0.part.0,
    0,
    first.0.part.1,
    subst (λ (k : K). Appends (sink.held old.out) (sink.held k) []) (sym first.1) (Appends-nil (sink.held old.out)),
    inl refl,
  )
  failed_wrote then now (inr second) = (
    length report,
    second.1.part.0,
    subst (λ (text : List ℕ). Appends (sink.held old.report) (sink.held new.report) text) (sym (take-length report)) second.0.whole,
    second.1.part.1,
    inr (take-length report),
  )

module _ {S K D : Type 0} (source : sources.Ghosts S) (sink : sinks.Ghosts K) (disk : disks.Ghosts D) (old new : Room S K D) (s : Status) where
  -- all steps passed; or one stopped, and nothing was written
  pub record Halted (m : Meaning) (i : Inputs) : Type 0 where
    pub halts : Halts (Passes source disk old new i) (StopsAt source disk old new i s) (StepIsUntouched disk old new) m.steps
    pub silent : writes s ≡ false

  pub came : (m : Meaning) (ended : Ends source disk m old new sink s) → HasPassed source disk m old new ended.inputs ⊎ Halted m ended.inputs
  came m ended = elim ended.ends [
    | inl done ↦ inl done.passed
    | inr other ↦ elim other [
      | inl writing ↦ inl writing.passed
      | inr stop ↦ elim stop.stopped [
        | inl halts ↦ inr (record { halts = halts; silent = (halts_stop source disk old new ended.inputs s m.steps halts).silent })
        | inr memory ↦ inl memory.0
      ]
    ]
  ]

  -- where something was written, all steps passed, what is sent is valid, and the texts were written
  pub finished : (m : Meaning) (ended : Ends source disk m old new sink s) → writes s ≡ true
      → HasPassed source disk m old new ended.inputs × m.valid ended.inputs × Wrote sink old new s (m.report ended.inputs) (m.out ended.inputs)
  finished m ended some =
      let report = m.report ended.inputs in
      let out = m.out ended.inputs in
      elim ended.ends [
        | inl done ↦ (done.passed, done.valid, subst (λ (t : Status). Wrote sink old new t report out) (sym done.status_is) (done.report.whole, done.out.whole))
        | inr other ↦ elim other [
          | inl writing ↦ (
            writing.passed,
            writing.valid,
            subst (λ (t : Status). Wrote sink old new t report out) (sym writing.status_is) (failed_wrote sink old new report out writing.then writing.now writing.failed),
          )
          | inr stop ↦ absurd (true≢false (sym some ∙ (stopped source disk old new ended.inputs s m stop.stopped).silent))
        ]
      ]

  -- where nothing is told to be written, nothing was
  pub silent : (m : Meaning) → Ends source disk m old new sink s → writes s ≡ false → (new.report ≡ old.report) × (new.out ≡ old.out)
  silent m ended none = elim ended.ends [
    | inl done ↦ absurd (true≢false (ap writes (sym done.status_is) ∙ none))
    | inr other ↦ elim other [
      | inl writing ↦ absurd (true≢false (ap writes (sym writing.status_is) ∙ none))
      | inr stop ↦ (stop.report, stop.out)
    ]
  ]

  -- where there is nothing to write, nothing was
  pub quiet : (m : Meaning) (ended : Ends source disk m old new sink s) → m.report ended.inputs ≡ [] → m.out ended.inputs ≡ [] → (new.report ≡ old.report) × (new.out ≡ old.out)
  quiet m ended no_report no_out = elim ended.ends [
    | inl done ↦ (done.report.none no_report, done.out.none no_out)
    | inr other ↦ elim other [
      | inl writing ↦ elim writing.failed [
        | inl first ↦ absurd (first.0.some no_report)
        | inr second ↦ absurd (second.1.some no_out)
      ]
      | inr stop ↦ (stop.report, stop.out)
    ]
  ]

  -- what a query wrote is said of the books that the disk had
  pub query_promise : (asked : Asked) (chart : Chart) (books : List Entry) → Ends source disk (meaning_of (Plain (Query asked))) old new sink s → Keeps disk old.disk chart books → writes s ≡ true
      → Wrote sink old new s (query_report asked chart books) (query_out asked chart books) × QuerySends asked chart books
  unfolding meaning_of
  query_promise asked chart books ended kept some =
      let i = ended.inputs in
      let all = finished (query_meaning asked) ended some in
      let holds = named_has (Passes source disk old new i) Step.open_journal query_steps refl all.0.passed in
      let same = same_books disk old.disk i chart books holds kept in
      let P : Chart → List Entry → Type 0 = λ c b. Wrote sink old new s (query_report asked c b) (query_out asked c b) × QuerySends asked c b in
      let here : P i.chart i.history = (all.2, all.1) in
      subst (λ (b : List Entry). P chart b) same.books_is (subst (λ (c : Chart). P c i.history) same.chart_is here)

  -- what `generate` wrote
  pub generate_promise : (count seed : ℕ) → Ends source disk (meaning_of (Plain (Generate count seed))) old new sink s → writes s ≡ true → Wrote sink old new s [] (generated_of count seed)
  unfolding meaning_of
  generate_promise count seed ended some = (finished (generate_meaning count seed) ended some).2

  -- what `trial` wrote, and that it booked each message
  pub trial_promise : (count seed workers : ℕ) → Ends source disk (meaning_of (Trial count seed workers)) old new sink s → writes s ≡ true → Wrote sink old new s (trial_report count seed) [] × BooksEach count seed
  unfolding meaning_of
  trial_promise count seed workers ended some = let all = finished (trial_meaning count seed) ended some in (all.2, all.1)
