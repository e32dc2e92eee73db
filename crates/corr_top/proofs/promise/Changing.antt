-- The promise of `open-account` and `set-limits`.
use Rattle.std.proofs.Common.{◌≡◌, Option, inl, inr, refl, sym, ap, ◌∙◌, subst}
use mathlib.Core.Bool.{true≢false}
use Rattle.std.specs.Prelude.{IsTrue}
use Rattle.corr_disk.specs.declared.disk.Disk as disks
use Rattle.corr_io.specs.declared.sink.Sink as sinks
use Rattle.corr_io.specs.declared.source.Source as sources
use Rattle.corr_text.specs.Faults.{Rose}
use Rattle.jrn_book.specs.declared.changing.ChangeFault.{ChangeFault}
use Rattle.jrn_book.specs.declared.changing.ChangeFault.TheVariants as changing
use Rattle.jrn_book.specs.Journal.{IsBeforeOrChanged}
use Rattle.ref_tables.specs.declared.fault.Why.{Why}
use Rattle.corr_top.specs.declared.room.Room.{Room}
use Rattle.corr_top.specs.declared.status.Status.{Status}
use Rattle.corr_top.specs.declared.words.Command.TheVariants.{Plain}
use Rattle.corr_top.specs.declared.words.Plain.TheVariants.{Change}
use Rattle.corr_top.specs.Change.{change_meaning, change_steps}
use Rattle.corr_top.specs.Changed.{ChangesInTurn, HasChanged, StopsAtChange, StopsChanging, changed_in, lent_in, row_fault, what_of}
use Rattle.corr_top.specs.Commands.{meaning_of}
use Rattle.corr_top.specs.Ends.{Ends, HasPassed}
use Rattle.corr_top.specs.Inputs.{Inputs}
use Rattle.corr_top.specs.OnDisk.{IsUnwritten}
use Rattle.corr_top.specs.Passing.{Passes, StepIsUntouched, StopsAt}
use Rattle.corr_top.specs.promises.Accounts.{ChangePromise}
use Rattle.corr_top.specs.promises.Books.{AtEachMoment, Keeps, Told, writes}
use Rattle.corr_top.specs.Steps.{Halts, Step, Walks}
use Rattle.corr_top.proofs.FaultCounts.{tells_rose}
use Rattle.corr_top.proofs.Walking.{walks_ahead}
use Rattle.corr_top.proofs.promise.ChangeSteps.{Reached, each_told, enters_none, first_steps, makes_none, on_told, reached, returns_none, takes_none}
use Rattle.corr_top.proofs.promise.Finished.{finished, quiet}
use Rattle.corr_top.proofs.promise.Refusing.{refused_for}
use Rattle.corr_top.proofs.promise.Running.{keeps_on}
use Rattle.corr_top.proofs.promise.Untouched.{KeepsAll, OnlyNow, stops_somewhere, unwritten_keeps}

module _ {S K D : Type 0} (source : sources.Ghosts S) (sink : sinks.Ghosts K) (disk : disks.Ghosts D) (old new : Room S K D) (s : Status) (i : Inputs)
    (only : OnlyNow disk) (honest : disk.honest new.disk ≡ disk.honest old.disk) (kept : Keeps disk old.disk i.chart i.history) where
  -- nothing was written
  unwritten_all : IsUnwritten disk old.disk new.disk → KeepsAll disk old.disk new.disk i.chart i.history
  unwritten_all unwritten = unwritten_keeps disk old.disk new.disk i.chart i.history honest unwritten kept

  abbrev Moments : Type 0
  Moments = AtEachMoment disk old.disk new.disk (IsBeforeOrChanged i.chart i.history (what_of i))

  moments_unwritten : IsUnwritten disk old.disk new.disk → Moments
  moments_unwritten unwritten = λ image left. inl ((unwritten_all unwritten).moments image left)

  moments_turn : ChangesInTurn disk old.disk new.disk i.chart i.history (what_of i) → Moments
  moments_turn turn = λ image left. (turn kept.told kept.crash).each image left

  -- it was made
  made_keeps : HasChanged disk old.disk new.disk i.chart i.history (what_of i) → Keeps disk new.disk (changed_in i) i.history
  made_keeps made = keeps_on disk new.disk (changed_in i) i.history (subst IsTrue (sym honest) kept.told) made.journal made.made

  -- it was not: what is left of the disk, and that it is as it was where no call failed
  record Refused : Type 0 where
    moments : Moments
    still : (Rose (disk.faults old.disk) (disk.faults new.disk) → ⊥) → Keeps disk new.disk i.chart i.history

  still_unwritten : IsUnwritten disk old.disk new.disk → Refused
  still_unwritten unwritten = record { moments = moments_unwritten unwritten; still = λ sound. (unwritten_all unwritten).kept }

  by_fault : (stop : ChangeFault) → StopsAtChange disk old.disk new.disk i.chart i.history (what_of i) stop → Refused
  by_fault (changing.Open fault) stops = still_unwritten stops.untouched
  by_fault changing.Unknown stops = still_unwritten stops.untouched
  by_fault changing.Rows stops = still_unwritten stops.untouched
  by_fault (changing.Double row) stops = still_unwritten stops.untouched
  by_fault changing.Currency stops = still_unwritten stops.untouched
  by_fault (changing.Limits account) stops = still_unwritten stops.untouched
  by_fault (changing.Full end need) stops = still_unwritten stops.untouched
  by_fault (changing.DiskFault before after) stops = record {
    moments = moments_turn stops.any_moment;
    still = λ sound. absurd (sound (tells_rose (disk.faults old.disk) before after (disk.faults new.disk) stops.cause.2));
  }
  by_fault changing.Memory stops = still_unwritten stops.untouched

  refused_at : (told : Option Why) → StopsChanging disk old.disk new.disk i.chart i.history told (what_of i) s → Refused
  refused_at told stops = elim stops [
    | inl row ↦ still_unwritten row.2.untouched
    | inr later ↦ elim later [
      | inl change ↦ by_fault change.0 change.3
      | inr memory ↦ still_unwritten memory.2
    ]
  ]

  module _ (told : Told source old.tables (change_steps i.change) i) (j : Inputs) (asked : j.change ≡ i.change) where
    reach : Walks (Passes source disk old new j) (first_steps i.change) → Reached source sink disk old new s i j
    reach passed = reached source sink disk old new s i j asked told kept passed

    all_passed : HasPassed source disk (change_meaning i.change) old new j → HasChanged disk old.disk new.disk i.chart i.history (what_of i)
    all_passed passed =
        let r = reach (walks_ahead (Passes source disk old new j) Step.change (change_steps i.change) passed.passed) in
        on_told source sink disk old new s i j (λ chart history what. HasChanged disk old.disk new.disk chart history what) r passed.leaves

    halted : Halts (Passes source disk old new j) (StopsAt source disk old new j s) (StepIsUntouched disk old new) (change_steps i.change) → Refused
    halted halts = elim (stops_somewhere source disk old new j s only (change_steps i.change) (each_told i.change) halts) [
      | inl unwritten ↦ still_unwritten unwritten
      | inr at ↦ elim at [
        | inl make ↦ absurd (true≢false (sym make.named ∙ makes_none i.change))
        | inr written ↦ elim written [
          | inl book ↦ absurd (true≢false (sym book.named ∙ enters_none i.change))
          | inr later ↦ elim later [
            | inl change ↦
                let row = row_fault j.chart (lent_in j) j.change in
                refused_at row (on_told source sink disk old new s i j (λ chart history what. StopsChanging disk old.disk new.disk chart history row what s) (reach change.ahead) change.stops)
            | inr last ↦ elim last [
              | inl back ↦ absurd (true≢false (sym back.named ∙ returns_none i.change))
              | inr taking ↦ absurd (true≢false (sym taking.named ∙ takes_none i.change))
            ]
          ]
        ]
      ]
    ]

  pub change_promise : Ends source disk (meaning_of (Plain (Change i.change))) old new sink s → Told source old.tables (change_steps i.change) i → ChangePromise source disk old new s i
  unfolding meaning_of
  change_promise ended told =
      let j = ended.inputs in
      let asked = ended.are_for in
      record {
        done = λ some. made_keeps (all_passed told j asked (finished source sink disk old new s (change_meaning i.change) ended some).0);
        moments = elim ended.ends [
          | inl done ↦ moments_turn (all_passed told j asked done.passed).any_moment
          | inr other ↦ elim other [
            | inl writing ↦ moments_turn (all_passed told j asked writing.passed).any_moment
            | inr stop ↦ elim stop.stopped [
              | inl halts ↦ (halted told j asked halts).moments
              | inr memory ↦ moments_turn (all_passed told j asked memory.0).any_moment
            ]
          ]
        ];
        quiet = quiet source sink disk old new s (change_meaning i.change) ended refl refl;
        refused = λ none sound enough. elim ended.ends [
          | inl done ↦ absurd (true≢false (ap writes (sym done.status_is) ∙ none))
          | inr other ↦ elim other [
            | inl writing ↦ absurd (true≢false (ap writes (sym writing.status_is) ∙ none))
            | inr stop ↦ elim stop.stopped [
              | inl halts ↦ (halted told j asked halts).still sound
              | inr memory ↦ absurd (enough memory.1)
            ]
          ]
        ];
        reason = λ none sound enough right. refused_for source sink disk old new s i told kept right sound enough ended none;
      }
