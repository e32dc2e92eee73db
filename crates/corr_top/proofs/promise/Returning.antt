-- The promise of `return`.
use Rattle.std.proofs.Common.{◌≡◌, ◌⊎◌, ◌+◌, ◌≤◌, List, [], ◌∷◌, ◌++◌, true, false, inl, inr, length, refl, sym, ◌∙◌, subst}
use mathlib.Core.List.{IsPrefix, prefix-append}
use mathlib.Core.Bool.{true≢false}
use Rattle.std.specs.Prelude.{IsTrue}
use Rattle.corr_books.specs.Moments.{StandsBetween, StandsWithMore}
use Rattle.corr_disk.specs.declared.disk.Disk as disks
use Rattle.corr_io.specs.declared.sink.Sink as sinks
use Rattle.corr_io.specs.declared.source.Source as sources
use Rattle.corr_text.specs.Faults.{Rose}
use Rattle.day_model.specs.Chart.{Chart}
use Rattle.day_model.specs.declared.entry.Entry.{Entry}
use Rattle.day_model.specs.declared.pay.Pay.{Pay}
use Rattle.jrn_book.specs.Book.{IsLeftBy}
use Rattle.pay_returns.specs.Laws.{HoldsReturn}
use Rattle.pay_returns.specs.Making.{MayReturn}
use Rattle.ref_tables.specs.Seen.{Tables as Known}
use Rattle.corr_top.specs.Booking.{StopsEntering}
use Rattle.corr_top.specs.Commands.{meaning_of}
use Rattle.corr_top.specs.Ends.{Ends}
use Rattle.corr_top.specs.Inputs.{Inputs, new_in}
use Rattle.corr_top.specs.OnDisk.{up_to, LeavesMidway}
use Rattle.corr_top.specs.Origin.{AreSentValid}
use Rattle.corr_top.specs.Out.{booked_from, sent_from}
use Rattle.corr_top.specs.Passing.{Passes}
use Rattle.corr_top.specs.promises.Books.{AreBooks, AtEachMoment, Keeps, Wrote, writes}
use Rattle.corr_top.specs.promises.Returns.{ReturnPromise, TakesBack}
use Rattle.corr_top.specs.Return.{return_meaning, return_report, return_steps}
use Rattle.corr_top.specs.Returned.{IsNotTakenBack, IsReturned, booked_on}
use Rattle.corr_top.specs.Run.{RunLeaves, run_out}
use Rattle.corr_top.specs.Steps.{Step}
use Rattle.corr_top.specs.declared.room.Room.{Room}
use Rattle.corr_top.specs.declared.status.Status.{Status}
use Rattle.corr_top.specs.declared.status.Status.TheVariants.{Memory}
use Rattle.corr_top.specs.declared.words.Command.TheVariants.{Return}
use Rattle.corr_top.proofs.OnePay.{one_entered}
use Rattle.corr_top.proofs.Walking.{ahead_of, named_has}
use Rattle.corr_top.proofs.promise.Agreeing.{SameBooks, same_books, sound_books}
use Rattle.corr_top.proofs.promise.Finished.{came, finished}
use Rattle.corr_top.proofs.promise.Last.{CountsNow, last_leaves}
use Rattle.corr_top.proofs.promise.NotReturned.{not_returned, same_words}
use Rattle.corr_top.proofs.promise.Running.{keeps_on, whole_front}
use Rattle.corr_top.proofs.promise.Untouched.{KeepsAll, OnlyNow, stops_somewhere, unwritten_keeps}

module _ {S K D : Type 0} (source : sources.Ghosts S) (sink : sinks.Ghosts K) (disk : disks.Ghosts D) (old new : Room S K D) (s : Status) (i : Inputs) where
  -- why it wasn't taken back
  abbrev WhyNot : Type 0
  WhyNot = writes s ≡ false → (Rose (disk.faults old.disk) (disk.faults new.disk) → ⊥) → (s ≡ Memory → ⊥) → Keeps disk new.disk i.chart i.history × IsNotTakenBack i.chart i.history i.place i.day s

  -- nothing was entered
  entered_none : WhyNot → KeepsAll disk old.disk new.disk i.chart i.history → writes s ≡ false → ReturnPromise sink disk old new s i
  entered_none refused kept silent = record {
    books = i.history;
    more = [];
    entered = inl refl;
    crash = inl kept.kept;
    moments = λ image left. inl (record { history = i.history; goes_on = whole_front i.history; begins = whole_front i.history; stands = kept.moments image left });
    last = λ image now. inl (kept.kept.crash image now);
    done = λ some. absurd (true≢false (sym some ∙ silent));
    answers = λ some. absurd (true≢false (sym some ∙ silent));
    refused = refused;
  }

module _ {S K D : Type 0} (source : sources.Ghosts S) (sink : sinks.Ghosts K) (disk : disks.Ghosts D) (old new : Room S K D) (s : Status) (i j : Inputs)
    (place : j.place ≡ i.place) (day : j.day ≡ i.day) (books : SameBooks j i.chart i.history) (refused : WhyNot source sink disk old new s i) where
  -- what a crash left at each moment since the books were opened
  midway : (now : List Entry) → IsPrefix i.history now → Keeps disk old.disk i.chart i.history → LeavesMidway disk old.disk new.disk i.chart i.history now i.day 1
      → (more : List Entry) × AtEachMoment disk old.disk new.disk (λ image. StandsBetween i.chart i.history now image ⊎ (Rose (disk.faults old.disk) (disk.faults new.disk) × StandsWithMore i.chart now i.day 1 more image))
      × (disk.moment old.disk ≤ disk.moment new.disk)
  midway now begins kept leaves =
      let here = leaves kept.told in (
        here.0,
        λ image left. elim (here.1.each image left) [
          | inl before ↦ inl (record { history = i.history; goes_on = whole_front i.history; begins = begins; stands = kept.crash image before })
          | inr since ↦ since
        ],
        here.1.later,
      )

  module _ (kept : Keeps disk old.disk i.chart i.history) (sure : IsTrue (disk.honest new.disk)) where
    -- it was entered
    entered_all : (back : IsReturned j) → RunLeaves disk 1 old.disk new.disk j → (writes s ≡ true → TakesBack sink disk old new s i (i.history ++ booked_on i.day back.pay ∷ [])) → ReturnPromise sink disk old new s i
    entered_all back leaves answers =
        let pay = back.pay in
        let now = i.history ++ booked_on i.day pay ∷ [] in
        let is : new_in j ≡ now = back.is ∙ (λ k. books.books_is k ++ booked_on (day k) pay ∷ []) in
        let made : Keeps disk new.disk i.chart now = subst (λ (x : Chart × List Entry). Keeps disk new.disk x.0 x.1) (λ k. (books.chart_is k, is k)) (keeps_on disk new.disk j.chart (new_in j) sure leaves.journal leaves.entered) in
        let left = midway now (prefix-append i.history (booked_on i.day pay ∷ [])) kept
        (subst (λ (es : List Entry). LeavesMidway disk old.disk new.disk i.chart i.history es i.day 1) is (same_words i j place day books (λ c h p t. LeavesMidway disk old.disk new.disk c h (new_in j) t 1) leaves.any_moment)) in
        record {
          books = now;
          more = left.0;
          entered = inr (pay, same_words i j place day books (λ c h p t. MayReturn c h p t pay) back.may, refl);
          crash = inl made;
          moments = left.1;
          last = λ image now. inl (made.crash image now);
          done = λ some. made;
          answers = answers;
          refused = refused;
        }

    -- its entering stopped
    entered_some : CountsNow disk → (pay : Pay) → MayReturn i.chart i.history i.place i.day pay → {stop : _} → StopsEntering disk old.disk new.disk i.chart i.history (pay ∷ []) i.day 1 1 stop → writes s ≡ false → ReturnPromise sink disk old new s i
    entered_some counts pay may st silent =
        let now = i.history ++ st.added in
        let sound = sound_books i.chart now st.journal in
        let left = midway now (prefix-append i.history st.added) kept st.any_moment in
        let crash : Keeps disk new.disk i.chart now
        ⊎ (Rose (disk.faults old.disk) (disk.faults new.disk) × AreBooks i.chart now × IsLeftBy (disk.honest new.disk) (disk.may_leave new.disk) i.chart now (up_to 1 i.day)) =
        elim st.left [ inl calm ↦ inl (keeps_on disk new.disk i.chart now sure st.journal calm.1) | inr rose ↦ inr (rose.0, sound, rose.1) ] in
        record {
          books = now;
          more = left.0;
          entered = elim (one_entered i.chart i.history pay i.day now may.new.new may.funded (st.alone refl).entered) [
            | inl none ↦ inl none
            | inr one ↦ inr (pay, may, one)
          ];
          crash = crash;
          moments = left.1;
          last = last_leaves disk old.disk new.disk i.chart i.history now left.0 i.day 1 counts sure left.2 kept.sound crash left.1;
          done = λ some. absurd (true≢false (sym some ∙ silent));
          answers = λ some. absurd (true≢false (sym some ∙ silent));
          refused = refused;
        }

module _ {S K D : Type 0} (source : sources.Ghosts S) (sink : sinks.Ghosts K) (disk : disks.Ghosts D) (old new : Room S K D) (s : Status) (i : Inputs)
    (only : OnlyNow disk) (counts : CountsNow disk) (honest : disk.honest new.disk ≡ disk.honest old.disk) (kept : Keeps disk old.disk i.chart i.history) where
  sure : IsTrue (disk.honest new.disk)
  sure = subst IsTrue (sym honest) kept.told

  pub return_promise : Ends source disk (meaning_of (Return i.place i.day)) old new sink s → ReturnPromise sink disk old new s i
  unfolding meaning_of return_report run_out
  return_promise ended =
      let m = return_meaning i.place i.day in
      let j = ended.inputs in
      let passes = Passes source disk old new j in
      let place = ended.are_for.0 in
      let day = ended.are_for.1 in
      let refused : WhyNot source sink disk old new s i = λ none sound enough. not_returned source sink disk old new s i only honest kept sound enough ended none in
      elim (came source sink disk old new s m ended) [
        | inl done ↦
            let books = same_books disk old.disk j i.chart i.history (named_has passes Step.open_journal return_steps refl done.passed) kept in
            let back = named_has passes Step.book_return return_steps refl done.passed in
            let pay = back.pay in
            let now = i.history ++ booked_on i.day pay ∷ [] in
            let is : new_in j ≡ now = back.is ∙ (λ k. books.books_is k ++ booked_on (day k) pay ∷ []) in
            entered_all source sink disk old new s i j place day books refused kept sure back done.leaves
            (λ some.
            let all = finished source sink disk old new s m ended some in
            let W : Chart → List Entry → List Entry → Type 0 = λ c h es. Wrote sink old new s (booked_from c (length h + 1) es) (sent_from c (length h + 1) es) in
            let V : Chart → List Entry → List Entry → Type 0 = λ c h es. (t : Known) → HoldsReturn t c pay → AreSentValid t c (length h + 1) es in
            let valid : V j.chart j.history (new_in j) = λ t holds. all.1 t pay back.entered_is holds in
            record {
              pay = pay;
              may = same_words i j place day books (λ c h p t. MayReturn c h p t pay) back.may;
              books_are = refl;
              wrote = subst (λ (x : Chart × (List Entry × List Entry)). W x.0 x.1.0 x.1.1) (λ k. (books.chart_is k, (books.books_is k, is k))) all.2;
              valid = subst (λ (x : Chart × (List Entry × List Entry)). V x.0 x.1.0 x.1.1) (λ k. (books.chart_is k, (books.books_is k, is k))) valid;
            })
        | inr halted ↦ elim (stops_somewhere source disk old new j s only return_steps refl halted.halts) [
          | inl unwritten ↦ entered_none source sink disk old new s i refused (unwritten_keeps disk old.disk new.disk i.chart i.history honest unwritten kept) halted.silent
          | inr at ↦ elim at [
            | inl make ↦ absurd (true≢false (sym make.named))
            | inr written ↦ elim written [
              | inl book ↦ absurd (true≢false (sym book.named))
              | inr later ↦ elim later [
                | inl change ↦ absurd (true≢false (sym change.named))
                | inr last ↦ elim last [
                  | inl back ↦
                      let books = same_books disk old.disk j i.chart i.history (named_has passes Step.open_journal (ahead_of Step.book_return return_steps) refl back.ahead) kept in
                      let stops = back.stops.2 in
                      let pay = stops.0 in
                      let may = same_words i j place day books (λ c h p t. MayReturn c h p t pay) stops.1 in
                      let entering = same_words i j place day books (λ c h p t. StopsEntering disk old.disk new.disk c h (pay ∷ []) t 1 1 back.stops.0) stops.2 in
                      entered_some source sink disk old new s i j place day books refused kept sure counts pay may entering halted.silent
                  | inr taking ↦ absurd (true≢false (sym taking.named))
                ]
              ]
            ]
          ]
        ]
      ]
