-- The promise of `migrate`.
use Rattle.std.proofs.Common.{◌≡◌, ◌⊎◌, ◌∷◌, ℕ, Bool, List, [], length, Option, Some, None, false, inl, inr, refl, sym, ap, ◌∙◌, subst}
use mathlib.Core.Bool.{true≢false}
use Rattle.std.specs.Prelude.{IsTrue}
use Rattle.std.specs.Option.{option_map}
use Rattle.corr_disk.specs.Disk.{Only}
use Rattle.corr_disk.specs.declared.disk.Disk as disks
use Rattle.corr_io.specs.declared.sink.Sink as sinks
use Rattle.corr_io.specs.declared.source.Source as sources
use Rattle.corr_text.specs.Faults.{Rose}
use Rattle.day_model.specs.Chart.{Chart}
use Rattle.day_model.specs.declared.entry.Entry.{Entry}
use Rattle.jrn_book.specs.declared.version.Version.TheVariants.{One}
use Rattle.jrn_book.specs.Journal.{StandsForBook}
use Rattle.jrn_book.specs.Opening.{book}
use Rattle.jrn_book.proofs.laws.Findings.{one_finding_in}
use Rattle.jrn_file.specs.declared.fault.MakeFault.{MakeFault}
use Rattle.jrn_file.specs.declared.fault.MakeFault.TheVariants as making
use Rattle.jrn_file.specs.Making.{IsOther, IsUnmade}
use Rattle.jrn_file.specs.Reading.{opened_of}
use Rattle.corr_top.specs.declared.room.Room.{Room}
use Rattle.corr_top.specs.declared.status.Status.{Status}
use Rattle.corr_top.specs.declared.status.Status.TheVariants.{Memory}
use Rattle.corr_top.specs.declared.words.Command.TheVariants.{Plain}
use Rattle.corr_top.specs.declared.words.Plain.TheVariants.{Migrate}
use Rattle.corr_top.specs.Commands.{meaning_of}
use Rattle.corr_top.specs.Copied.{CopiesInTurn, HasCopied, HoldsOld, OnSecond, StopsCopying}
use Rattle.corr_top.specs.Ends.{Ends, HasPassed}
use Rattle.corr_top.specs.Inputs.{Inputs}
use Rattle.corr_top.specs.Migrate.{migrate_meaning, migrate_steps}
use Rattle.corr_top.specs.OnDisk.{IsUnwritten}
use Rattle.corr_top.specs.Passing.{Passes, StepIsUntouched, StopsAt}
use Rattle.corr_top.specs.promises.Accounts.{IsOldBooks, MigratePromise}
use Rattle.corr_top.specs.promises.Books.{Keeps, writes}
use Rattle.corr_top.specs.Steps.{Halts, Step}
use Rattle.corr_top.specs.Stops.{status_of_copying}
use Rattle.corr_top.proofs.FaultCounts.{tells_rose}
use Rattle.corr_top.proofs.Journals.{same_unwritten}
use Rattle.corr_top.proofs.Walking.{named_has}
use Rattle.corr_top.proofs.promise.Finished.{came, finished, quiet}
use Rattle.corr_top.proofs.promise.Running.{keeps_on}
use Rattle.corr_top.proofs.promise.Untouched.{OnlyNow, stops_unwritten}

module _ {D : Type 0} (disk : disks.Ghosts D) (only : OnlyNow disk) where
  -- ---- what is said of the second disk, where it is there as it was and as it is

  -- where the first is this disk and the second that one
  on_both : (P : D → D → Type 0) (old new : Option D) (from to : D) → old ≡ Some from → new ≡ Some to → OnSecond P old new → P from to
  on_both P (Some a) (Some b) from to first second has =
      let is : a ≡ from = cc (first) in
      let now : b ≡ to = cc (second) in
      subst (λ (x : D). P x to) is (subst (λ (x : D). P a x) now has)
  on_both P (Some a) None from to first second has = absurd has
  on_both P None new from to first second has = absurd has

  on_all : (P Q : D → D → Type 0) → ((from to : D) → P from to → Q from to) → (old new : Option D) → OnSecond P old new → OnSecond Q old new
  on_all P Q all (Some a) (Some b) has = all a b has
  on_all P Q all (Some a) None has = absurd has
  on_all P Q all None new has = absurd has

  -- it is there
  on_some : (P : D → D → Type 0) (old new : Option D) (from : D) → old ≡ Some from → OnSecond P old new → (to : D) × (new ≡ Some to) × P from to
  on_some P (Some a) (Some b) from first has = let is : a ≡ from = cc (first) in (b, refl, subst (λ (x : D). P x b) is has)
  on_some P (Some a) None from first has = absurd has
  on_some P None new from first has = absurd has

  -- whether each tells its bytes
  both_honest : (old new : Option D) → OnSecond (λ from to. disk.honest to ≡ disk.honest from) old new → option_map disk.honest new ≡ option_map disk.honest old
  both_honest (Some a) (Some b) same = ap (λ (x : Bool). Some x) same
  both_honest (Some a) None same = absurd same
  both_honest None new same = absurd same

  -- a second disk that nothing was done to
  pub unwritten_second : (old new : Option D) (from to : D) → old ≡ Some from → new ≡ Some to → new ≡ old → IsUnwritten disk from to
  unwritten_second old new from to first second same =
      let is : to ≡ from = let all : Some to ≡ Some from = sym second ∙ same ∙ first in cc (all) in
      same_unwritten disk only from to is

  module _ (from to : D) (chart : Chart) (books : List Entry) where
    abbrev At : List ℕ → Type 0
    At image = IsUnmade image ⊎ StandsForBook image chart books

    abbrev InTurn : Type 0
    InTurn = (image : List ℕ) → disk.left_since to (disk.moment from) image → At image

    turn : CopiesInTurn disk from to chart books → IsTrue (disk.honest from) → Only (disk.reads from) (disk.may_leave from) → IsUnmade (disk.reads from) → InTurn
    turn copies told alone unmade = λ image left. (copies told alone unmade).each image left

    still : IsUnwritten disk from to → Only (disk.reads from) (disk.may_leave from) → IsUnmade (disk.reads from) → InTurn
    still unwritten alone unmade = λ image left. inl (subst IsUnmade (sym (alone image (unwritten.any_moment.each image left))) unmade)

module _ {S K D : Type 0} (source : sources.Ghosts S) (sink : sinks.Ghosts K) (disk : disks.Ghosts D) (old new : Room S K D) (s : Status) (only : OnlyNow disk) where
  module _ (j : Inputs) where
    -- the books that were opened are those that the disk had
    same_old : (chart : Chart) (books : List Entry) → HoldsOld disk old.disk j.chart j.history → IsOldBooks disk old.disk chart books → book j.chart j.history ≡ book chart books
    same_old chart books holds is = one_finding_in One (opened_of (disk.reads old.disk)) (book j.chart j.history) (book chart books) (holds.journal, holds.stands is.told) (is.journal, is.reads)

    on_told : (P : Chart → List Entry → Type 0) (chart : Chart) (books : List Entry) → HoldsOld disk old.disk j.chart j.history → IsOldBooks disk old.disk chart books → P j.chart j.history → P chart books
    on_told P chart books holds is here =
        let same = same_old chart books holds is in
        let charts : j.chart ≡ chart = cc (same) in
        let histories : j.history ≡ books = cc (same) in
        subst (λ (x : Chart × List Entry). P x.0 x.1) (λ k. (charts k, histories k)) here

    -- how it stopped, as the second disk tells it: the copy wasn't begun, or it stopped
    record CopyStops : Type 0 where
      holds : HoldsOld disk old.disk j.chart j.history
      stop : MakeFault
      is : s ≡ status_of_copying (length j.history) stop
      stops : OnSecond (λ from to. StopsCopying disk from to j.chart j.history stop) old.disk2 new.disk2

    how : Halts (Passes source disk old new j) (StopsAt source disk old new j s) (StepIsUntouched disk old new) migrate_steps → (new.disk2 ≡ old.disk2) ⊎ CopyStops
    how halts = elim halts [
      | inl here ↦ inl (named_has (StepIsUntouched disk old new) Step.copy (Step.old_journal ∷ Step.copy ∷ []) refl here.1)
      | inr one ↦ elim one.1 [
        | inl here ↦ inl (named_has (StepIsUntouched disk old new) Step.copy (Step.copy ∷ []) refl here.1)
        | inr two ↦ elim two.1 [
          | inl here ↦ inr (record { holds = two.0; stop = here.0.0; is = here.0.1; stops = here.0.2 })
          | inr three ↦ absurd three.1
        ]
      ]
    ]

  -- what is known of the second disk, however it ended: nothing was done to it; or it has the copy; or the copy stopped
  abbrev SecondIs : Inputs → Type 0
  SecondIs j =
      (new.disk2 ≡ old.disk2)
      ⊎ ((HoldsOld disk old.disk j.chart j.history × OnSecond (λ from to. HasCopied disk from to j.chart j.history) old.disk2 new.disk2) ⊎ CopyStops j)

  old_passed : (j : Inputs) → HasPassed source disk migrate_meaning old new j → HoldsOld disk old.disk j.chart j.history
  old_passed j passed = named_has (Passes source disk old new j) Step.old_journal migrate_steps refl passed.passed

  copy_passed : (j : Inputs) → HasPassed source disk migrate_meaning old new j → OnSecond (λ from to. HasCopied disk from to j.chart j.history) old.disk2 new.disk2
  copy_passed j passed = named_has (Passes source disk old new j) Step.copy migrate_steps refl passed.passed

  by_end : (ended : Ends source disk migrate_meaning old new sink s) → SecondIs ended.inputs
  by_end ended = elim (came source sink disk old new s migrate_meaning ended) [
    | inl passed ↦ inr (inl (old_passed ended.inputs passed, copy_passed ended.inputs passed))
    | inr halted ↦ elim (how ended.inputs halted.halts) [ inl same ↦ inl same | inr stop ↦ inr (inr stop) ]
  ]

  module _ (chart : Chart) (books : List Entry) (is : IsOldBooks disk old.disk chart books) (from to : D) (first : old.disk2 ≡ Some from) (second : new.disk2 ≡ Some to)
      (told : IsTrue (disk.honest from)) (alone : Only (disk.reads from) (disk.may_leave from)) (unmade : IsUnmade (disk.reads from)) where
    moments : (j : Inputs) → SecondIs j → InTurn disk only from to chart books
    moments j (inl same) = still disk only from to chart books (unwritten_second disk only old.disk2 new.disk2 from to first second same) alone unmade
    moments j (inr (inl copied)) =
        turn disk only from to chart books
        (on_told j (λ c b. CopiesInTurn disk from to c b) chart books copied.0 is (on_both disk only (λ a b. HasCopied disk a b j.chart j.history) old.disk2 new.disk2 from to first second copied.1).any_moment) told alone unmade
    moments j (inr (inr stop)) =
        turn disk only from to chart books
        (on_told j (λ c b. CopiesInTurn disk from to c b) chart books stop.holds is (on_both disk only (λ a b. StopsCopying disk a b j.chart j.history stop.stop) old.disk2 new.disk2 from to first second stop.stops).any_moment)
        told alone unmade

  module _ (from : D) (first : ℕ) (was : old.disk2 ≡ Some from) (told : IsTrue (disk.honest from)) (is : IsOther (disk.reads from) first) where
    other : (j : Inputs) → SecondIs j → (to : D) × (new.disk2 ≡ Some to) × IsUnwritten disk from to
    other j (inl same) = (from, same ∙ was, same_unwritten disk only from from refl)
    other j (inr (inl copied)) =
        let at = on_some disk only (λ a b. HasCopied disk a b j.chart j.history) old.disk2 new.disk2 from was copied.1 in
        absurd (at.2.free told first is)
    other j (inr (inr stop)) =
        let at = on_some disk only (λ a b. StopsCopying disk a b j.chart j.history stop.stop) old.disk2 new.disk2 from was stop.stops in
        (at.0, at.1, at.2.untouched first told is)

  done_with : (j : Inputs) (chart : Chart) (books : List Entry) → HasPassed source disk migrate_meaning old new j → IsOldBooks disk old.disk chart books
      → OnSecond (λ from to. IsTrue (disk.honest from) → Keeps disk to chart books) old.disk2 new.disk2
  done_with j chart books passed is =
      let holds = old_passed j passed in
      let here = on_all disk only (λ a b. HasCopied disk a b j.chart j.history) (λ a b. IsTrue (disk.honest a) → Keeps disk b j.chart j.history)
      (λ a b has told. keeps_on disk b j.chart j.history (subst IsTrue (sym has.honest) told) has.journal has.made) old.disk2 new.disk2 (copy_passed j passed) in
      on_told j (λ c b. OnSecond (λ from to. IsTrue (disk.honest from) → Keeps disk to c b) old.disk2 new.disk2) chart books holds is here

  -- the second disk tells its bytes as it did
  honest : (j : Inputs) → SecondIs j → option_map disk.honest new.disk2 ≡ option_map disk.honest old.disk2
  honest j (inl same) = ap (option_map disk.honest) same
  honest j (inr (inl copied)) = both_honest disk only old.disk2 new.disk2 (on_all disk only (λ a b. HasCopied disk a b j.chart j.history) (λ a b. disk.honest b ≡ disk.honest a) (λ a b has. has.honest) old.disk2 new.disk2 copied.1)
  honest j (inr (inr stop)) =
      both_honest disk only old.disk2 new.disk2 (on_all disk only (λ a b. StopsCopying disk a b j.chart j.history stop.stop) (λ a b. disk.honest b ≡ disk.honest a) (λ a b stops. stops.honest) old.disk2 new.disk2 stop.stops)

  -- where it is refused, and no call of the second disk failed, nothing is written there
  module _ (enough : s ≡ Memory → ⊥) (from to : D) (first : old.disk2 ≡ Some from) (second : new.disk2 ≡ Some to) (told : IsTrue (disk.honest from)) (sound : Rose (disk.faults from) (disk.faults to) → ⊥) where
    by_fault : (chart : Chart) (history : List Entry) (stop : MakeFault) → s ≡ status_of_copying (length history) stop → StopsCopying disk from to chart history stop → IsUnwritten disk from to
    by_fault chart history (making.Exists front) is stops = stops.untouched front told (stops.cause.1 told)
    by_fault chart history (making.Full end need) is stops = stops.cause.1.same
    by_fault chart history (making.DiskFault before after) is stops = absurd (sound (tells_rose (disk.faults from) before after (disk.faults to) stops.cause))
    by_fault chart history making.Memory is stops = absurd (enough is)

    by_stop : (j : Inputs) → (new.disk2 ≡ old.disk2) ⊎ CopyStops j → IsUnwritten disk from to
    by_stop j (inl same) = unwritten_second disk only old.disk2 new.disk2 from to first second same
    by_stop j (inr stop) =
        by_fault j.chart j.history stop.stop stop.is (on_both disk only (λ a b. StopsCopying disk a b j.chart j.history stop.stop) old.disk2 new.disk2 from to first second stop.stops)

    refused : Ends source disk migrate_meaning old new sink s → writes s ≡ false → IsUnwritten disk from to
    refused ended none = elim ended.ends [
      | inl done ↦ absurd (true≢false (ap writes (sym done.status_is) ∙ none))
      | inr other ↦ elim other [
        | inl writing ↦ absurd (true≢false (ap writes (sym writing.status_is) ∙ none))
        | inr stop ↦ elim stop.stopped [
          | inl halts ↦ by_stop ended.inputs (how ended.inputs halts)
          | inr memory ↦ absurd (enough memory.1)
        ]
      ]
    ]

  unwritten : Ends source disk migrate_meaning old new sink s → IsUnwritten disk old.disk new.disk
  unwritten ended = elim (came source sink disk old new s migrate_meaning ended) [
    | inl passed ↦ passed.leaves.unwritten
    | inr halted ↦ stops_unwritten source disk old new ended.inputs s only migrate_steps refl refl refl refl refl refl halted.halts
  ]

  pub migrate_promise : Ends source disk (meaning_of (Plain Migrate)) old new sink s → MigratePromise source disk old new s
  unfolding meaning_of
  migrate_promise ended = record {
    unwritten = unwritten ended;
    quiet = quiet source sink disk old new s migrate_meaning ended refl refl;
    honest = honest ended.inputs (by_end ended);
    done = λ some chart books is. done_with ended.inputs chart books (finished source sink disk old new s migrate_meaning ended some).0 is;
    moments = λ chart books is from to first second told alone unmade. moments chart books is from to first second told alone unmade ended.inputs (by_end ended);
    other = λ from first was told is. other from first was told is ended.inputs (by_end ended);
    refused = λ none enough from to first second told sound. refused enough from to first second told sound ended none;
  }
