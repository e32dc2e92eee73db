-- A payment that isn't taken back: the first reason against it, and the books are as they were.
use Rattle.std.proofs.Common.{◌≡◌, ℕ, List, [], ◌∷◌, ◌++◌, true, false, inl, inr, refl, sym, ap, ◌∙◌, subst, append-nil, length}
use mathlib.Core.Bool.{true≢false}
use Rattle.std.specs.Prelude.{IsTrue}
use Rattle.std.proofs.lemmas.Bool.{cond-true}
use Rattle.corr_disk.specs.declared.disk.Disk as disks
use Rattle.corr_ids.specs.declared.day.Day.{Day}
use Rattle.corr_io.specs.declared.sink.Sink as sinks
use Rattle.corr_io.specs.declared.source.Source as sources
use Rattle.corr_text.specs.Faults.{Rose}
use Rattle.day_model.specs.Chart.{AreBy, Chart}
use Rattle.day_model.specs.Next.{fold_of, next_history}
use Rattle.day_model.specs.declared.entry.Entry.{Entry}
use Rattle.day_model.specs.declared.pay.Pay.{Pay}
use Rattle.jrn_book.specs.Answers.{FindsNoRoom, IsFull}
use Rattle.jrn_book.specs.Batches.{entered_of, lacks_room}
use Rattle.jrn_book.proofs.laws.Rooms.{no_room}
use Rattle.pay_returns.specs.Making.{MayReturn, TellsReturnFault}
use Rattle.corr_top.specs.Booking.{EntersInOrder, IsBack, LacksRoom, StopsEntering}
use Rattle.corr_top.specs.Ends.{Ends}
use Rattle.corr_top.specs.Inputs.{Inputs}
use Rattle.corr_top.specs.OnDisk.{IsUnwritten}
use Rattle.corr_top.specs.Passing.{Passes, StepIsUntouched, StopsAt}
use Rattle.corr_top.specs.promises.Books.{Keeps, writes}
use Rattle.corr_top.specs.Return.{return_meaning, return_steps}
use Rattle.corr_top.specs.Returned.{IsNotTakenBack}
use Rattle.corr_top.specs.Steps.{Halts, Step}
use Rattle.corr_top.specs.Stops.{status_of_booking}
use Rattle.corr_top.specs.declared.answers.BookStop.{BookStop}
use Rattle.corr_top.specs.declared.answers.BookStop.TheVariants as booking
use Rattle.corr_top.specs.declared.room.Room.{Room}
use Rattle.corr_top.specs.declared.status.Status.{Status}
use Rattle.corr_top.specs.declared.status.Status.TheVariants as status
use Rattle.corr_top.proofs.steps.OpenJournal.{opening_memory}
use Rattle.corr_top.proofs.FaultCounts.{tells_rose}
use Rattle.corr_top.proofs.promise.Agreeing.{SameBooks, same_books}
use Rattle.corr_top.proofs.promise.Running.{keeps_on}
use Rattle.corr_top.proofs.promise.Untouched.{OnlyNow, unwritten_keeps}

-- what was read is what was told
pub same_words : (i j : Inputs) → j.place ≡ i.place → j.day ≡ i.day → SameBooks j i.chart i.history → (F : Chart → List Entry → ℕ → Day → Type 0)
    → F j.chart j.history j.place j.day → F i.chart i.history i.place i.day
same_words i j place day books F here =
    subst (λ (x : Chart × (List Entry × (ℕ × Day))). F x.0 x.1.0 x.1.1.0 x.1.1.1) (λ k. (books.chart_is k, (books.books_is k, (place k, day k)))) here

-- ---- one pay that found no room

module _ (chart : Chart) (history : List Entry) (pay : Pay) (day : Day) (left : List Entry) (entries end need : ℕ) where
  first_finds : (front : List Pay) (p : Pay) (rest : List Pay) → pay ∷ [] ≡ front ++ p ∷ rest → FindsNoRoom chart (fold_of chart history front day) p day entries end need
      → FindsNoRoom chart history pay day entries end need
  first_finds [] p rest is finds = let same : p ≡ pay = cc (is) in subst (λ (x : Pay). FindsNoRoom chart history x day entries end need) same finds
  first_finds (x ∷ []) p rest is finds = absurd (cc (is))
  first_finds (x ∷ y ∷ front) p rest is finds = absurd (cc (is))

  pub pay_finds : LacksRoom chart history (pay ∷ []) day left entries end need → FindsNoRoom chart history pay day entries end need
  pay_finds lacks = first_finds lacks.front lacks.pay lacks.rest lacks.pays_are lacks.finds

  -- so nothing was entered
  pub nothing_more : AreBy (length history) chart → FindsNoRoom chart history pay day entries end need → EntersInOrder chart history (pay ∷ []) day left (booking.Full entries end need) → left ≡ history
  nothing_more by finds order =
      let e = order.entered in
      let full : lacks_room chart history pay day ≡ true = no_room chart history pay day by end finds.end_is (subst (IsFull history end) finds.need_is finds.full) in
      let all : e.front ≡ pay ∷ [] = sym (append-nil e.front) ∙ ap (λ (rest : List Pay). e.front ++ rest) (sym order.stops) ∙ sym e.pays_are in
      e.left_is ∙ ap (λ (pays : List Pay). entered_of chart history pays day) all ∙ cond-true (lacks_room chart history pay day) history (next_history chart history pay day) full

module _ {S K D : Type 0} (source : sources.Ghosts S) (sink : sinks.Ghosts K) (disk : disks.Ghosts D) (old new : Room S K D) (s : Status) (i : Inputs)
    (only : OnlyNow disk) (honest : disk.honest new.disk ≡ disk.honest old.disk) (kept : Keeps disk old.disk i.chart i.history)
    (sound : Rose (disk.faults old.disk) (disk.faults new.disk) → ⊥) (enough : s ≡ status.Memory → ⊥) where
  abbrev pub Refused : Type 0
  Refused = Keeps disk new.disk i.chart i.history × IsNotTakenBack i.chart i.history i.place i.day s

  still : IsUnwritten disk old.disk new.disk → Keeps disk new.disk i.chart i.history
  still unwritten = (unwritten_keeps disk old.disk new.disk i.chart i.history honest unwritten kept).kept

  -- the journal can be opened
  opens : (j : Inputs) → StopsAt source disk old new j s Step.open_journal → ⊥
  opens j stops =
      enough (stops.1 ∙ opening_memory disk old.disk new.disk i.chart i.history stops.0 (record { told = kept.told; sound = sound }) (record { journal = kept.sound.journal; stands = λ told. kept.reads }) stops.2)

  by_stop : (stop : BookStop) → s ≡ status_of_booking stop → (pay : Pay) → MayReturn i.chart i.history i.place i.day pay → StopsEntering disk old.disk new.disk i.chart i.history (pay ∷ []) i.day 1 1 stop → Refused
  by_stop (booking.DiskFault before after) is pay may stops = absurd (sound (tells_rose (disk.faults old.disk) before after (disk.faults new.disk) stops.cause))
  by_stop (booking.Full entries end need) is pay may stops =
      let left = i.history ++ stops.added in
      let finds = pay_finds i.chart i.history pay i.day left entries end need (stops.cause.2 refl) in
      let same = nothing_more i.chart i.history pay i.day left entries end need kept.sound.journal.legal.changes.by_now finds (stops.alone refl) in
      let keeps : Keeps disk new.disk i.chart left = elim stops.left [
        | inl calm ↦ keeps_on disk new.disk i.chart left (subst IsTrue (sym honest) kept.told) stops.journal calm.1
        | inr rose ↦ absurd (sound rose.0)
      ] in
      (subst (λ (books : List Entry). Keeps disk new.disk i.chart books) same keeps, inr (inr (pay, entries, end, need, is, may, finds)))
  by_stop booking.Memory is pay may stops = absurd (enough is)

  module _ (j : Inputs) (place : j.place ≡ i.place) (day : j.day ≡ i.day) where
    by_halts : Halts (Passes source disk old new j) (StopsAt source disk old new j s) (StepIsUntouched disk old new) return_steps → Refused
    by_halts halts = elim halts [
      | inl here ↦ absurd (opens j here.0)
      | inr one ↦
          let books = same_books disk old.disk j i.chart i.history one.0 kept in
          elim one.1 [
            | inl here ↦ (still here.1.1.0, inl (here.0.0, here.0.1, same_words i j place day books (λ c h p t. IsBack h t here.0.0) here.0.2))
            | inr two ↦ elim two.1 [
              | inl here ↦ (still here.1.0, inr (inl (here.0.0, here.0.1, same_words i j place day books (λ c h p t. TellsReturnFault c h p t here.0.0) here.0.2)))
              | inr three ↦ elim three.1 [
                | inl here ↦
                    let stops = here.0.2 in
                    let pay = stops.0 in
                    by_stop here.0.0 here.0.1 pay (same_words i j place day books (λ c h p t. MayReturn c h p t pay) stops.1)
                    (same_words i j place day books (λ c h p t. StopsEntering disk old.disk new.disk c h (pay ∷ []) t 1 1 here.0.0) stops.2)
                | inr four ↦ absurd four.1
              ]
            ]
          ]
    ]

  pub not_returned : Ends source disk (return_meaning i.place i.day) old new sink s → writes s ≡ false → Refused
  not_returned ended none = elim ended.ends [
    | inl done ↦ absurd (true≢false (ap writes (sym done.status_is) ∙ none))
    | inr other ↦ elim other [
      | inl writing ↦ absurd (true≢false (ap writes (sym writing.status_is) ∙ none))
      | inr stop ↦ elim stop.stopped [
        | inl halts ↦ by_halts ended.inputs ended.are_for.0 ended.are_for.1 halts
        | inr memory ↦ absurd (enough memory.1)
      ]
    ]
  ]
