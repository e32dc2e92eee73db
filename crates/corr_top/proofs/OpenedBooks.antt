-- Books that were opened for a day: what stood on the disk then, and what stands on it when they are closed.
use Rattle.std.proofs.Common.{◌≡◌, ◌⊎◌, ◌<ℤ◌, inl, inr, ℕ, All, List, [], Option, None, Some, Result, Ok, refl, sym, ap, ◌∙◌, subst, length}
use Rattle.std.specs.Prelude.{IfSome, IsTrue, is_some, slice_get}
use Rattle.corr_books.specs.Closing.{LeavesClosed, LeavesInTurn}
use Rattle.corr_books.specs.Finding.{IsDateBack, TellsOf}
use Rattle.corr_books.specs.Moments.{StandsBetween, StandsWithMore}
use Rattle.corr_books.specs.Opening.{Parts, opening_with, past_of}
use Rattle.corr_disk.specs.declared.disk.Disk as disks
use Rattle.corr_text.specs.Faults.{Rose}
use Rattle.corr_ids.specs.Day.{InCentury}
use Rattle.corr_ids.specs.declared.day.Day.{Day}
use Rattle.day_model.specs.declared.entry.Entry.{Entry}
use Rattle.day_model.specs.declared.pay.Pay.{Pay}
use Rattle.day_model.specs.Chart.{Chart}
use Rattle.jrn_book.specs.Book.{IsLeftBy}
use Rattle.jrn_book.specs.Journal.{IsJournal}
use Rattle.jrn_book.specs.Opening.{Finding, IsFound, book}
use Rattle.jrn_codec.specs.Record.{IsEntry}
use Rattle.jrn_file.specs.File.{disk_of}
use Rattle.jrn_file.specs.Reading.{Reading, opened_of}
use Rattle.corr_top.specs.declared.answers.BookStop.{BookStop}
use Rattle.corr_top.specs.declared.answers.BookStop.TheVariants as booking
use Rattle.corr_top.specs.declared.message.NoPay.{NoPay}
use Rattle.corr_top.specs.Booking.{BookCause, EachTried, EntersInOrder, IsBack, IsEnteredOn, StopsEntering}
use Rattle.corr_top.specs.inner.Collecting.{IsCalm}
use Rattle.corr_top.specs.inner.Days.{StopCause}
use Rattle.corr_top.specs.Message.{pays_in}
use Rattle.corr_top.specs.OnDisk.{up_to, HoldsJournal, IsLeft, IsLeftMidway, IsOnDisk, IsUnwritten, LeavesMidway}
use Rattle.corr_top.specs.inner.Serving.{HasServed}
use Rattle.corr_books.proofs.laws.Moments.{leaves_only}
use Rattle.corr_disk.proofs.laws.Moments.{then_on, weaker}
use Rattle.corr_top.proofs.Replying.{get_all}
use Rattle.day_model.proofs.laws.Folds.{get_at}

-- the day of the last entry is after that of the books
pub is_back : (chart : Chart) (history : List Entry) (day last : Day) → IsJournal chart history → IsDateBack history day last → IsBack history day last
is_back chart history day last journal back =
    let ends = back.ends in
    let at : slice_get history (length ends.before) ≡ Some ends.entry = ap (λ (es : List Entry). slice_get es (length ends.before)) ends.is ∙ get_at ends.before ends.entry [] in
    let written = get_all IsEntry history (length ends.before) ends.entry journal.entries at in
    record {
      front = ends.before;
      last = ends.entry;
      history_is = ends.is;
      day_is = sym ends.day_is;
      after = subst (λ (x : Day). day.0 <ℤ x.0) (sym ends.day_is) back.later;
      century = subst InCentury ends.day_is written.day;
    }

-- what is found is what the bytes give
pub found_is : (found : Option Finding) (reading : Reading) → (IsTrue (is_some found) → (finding : Finding) × IsFound reading finding × IfSome found (λ f. f ≡ finding)) → IfSome found (IsFound reading)
found_is None reading told = tt
found_is (Some f) reading told = let t = told refl in subst (IsFound reading) (sym t.2) t.1

module _ {D : Type 0} (d : disks.Ghosts D) (day : Day) (workers most : ℕ) (from to : D) (opened : Parts D) where
  -- the disk held their journal
  pub holds_opened : IsJournal opened.accounts opened.base → (IsTrue (d.honest from) → TellsOf (opened_of (d.reads from)) day (Ok opened)) → HoldsJournal d from opened.accounts opened.base
  holds_opened journal told = record {
    journal = journal;
    stands = λ true_here. let t = told true_here refl in let found : IsFound (opened_of (d.reads from)) (book opened.accounts opened.base) = subst (IsFound (opened_of (d.reads from))) t.2.0 t.1 in found.1;
  }

  module _ (at_open : opened.at_open ≡ d.faults from) (honest : d.honest (disk_of opened.file) ≡ d.honest from) (of_day : opened.day ≡ day) (unwritten : IsUnwritten d from (disk_of opened.file)) where
    -- the disk after the books were closed
    pub left_closed : (history : List Entry) → LeavesClosed d (opening_with d opened workers most) history to → IsLeft d from to opened.accounts history day most
    left_closed history (inl alone) = inl (alone.sure ∙ at_open, record { stands = alone.stands; durable = alone.durable })
    left_closed history (inr failed) =
        inr (subst (λ n. Rose n (d.faults to)) at_open failed.0, subst (λ (x : Day). IsLeftBy (d.honest to) (d.may_leave to) opened.accounts history (up_to most x)) of_day failed.1)

    -- what a crash left at a moment since the books were opened, where their count was this, and their day
    abbrev IsLeftSince : List Entry → ℕ → Day → List Entry → List ℕ → Type 0
    IsLeftSince history then today more image = StandsBetween opened.accounts opened.base history image ⊎ (Rose then (d.faults to) × StandsWithMore opened.accounts history today most more image)

    -- and at each moment since the command began
    pub left_midway : (history : List Entry) → LeavesInTurn d (opening_with d opened workers most) (past_of d opened) history to → LeavesMidway d from to opened.accounts opened.base history day most
    left_midway history leaves true_here =
        let left = leaves (honest ∙ true_here) in
        let more = left.0 in
        let since = leaves_only d opened workers most to (IsLeftSince history opened.at_open opened.day more) left.1 in (
          more,
          then_on d.moment d.left_since from (disk_of opened.file) to (IsLeftMidway d from to opened.accounts opened.base history day most more)
              (weaker d.moment d.left_since from (disk_of opened.file) (d.may_leave from) (IsLeftMidway d from to opened.accounts opened.base history day most more) (λ image x. inl x) unwritten.any_moment)
              (weaker d.moment d.left_since (disk_of opened.file) to (IsLeftSince history opened.at_open opened.day more) (IsLeftMidway d from to opened.accounts opened.base history day most more)
              (λ image x. inr (subst (λ (y : ℕ × Day). IsLeftSince history y.0 y.1 more image) (λ i. (at_open i, of_day i)) x)) since),
        )

    cause_of : (pays : List Pay) (history : List Entry) (stop : BookStop) → StopCause (opening_with d opened workers most) pays history (d.faults to) stop
        → BookCause d from to opened.accounts opened.base pays opened.day workers history stop
    cause_of pays history (booking.DiskFault before after) cause = record { before_is = cause.0 ∙ at_open; after_is = cause.1; rose = cause.2 }
    cause_of pays history (booking.Full entries end need) cause = (cause.0 ∙ at_open, cause.1, cause.2)
    cause_of pays history booking.Memory cause = tt

    -- the entering of pays stopped, and the books were closed
    pub entering_stops : (readings : List (Result Pay NoPay)) (history : List Entry) (stop : BookStop) → HasServed d (opening_with d opened workers most) (past_of d opened) readings opened.accounts history to
        → EachTried opened.accounts opened.base (pays_in readings) opened.day history stop → (workers ≡ 1 → EntersInOrder opened.accounts opened.base (pays_in readings) opened.day history stop)
        → StopCause (opening_with d opened workers most) (pays_in readings) history (d.faults to) stop → StopsEntering d from to opened.accounts opened.base (pays_in readings) day workers most stop
    entering_stops readings history stop served tried alone cause =
        let pays = pays_in readings in
        let is = served.is in
        record {
          added = served.added;
          each = subst (λ (x : Day). All (IsEnteredOn x pays) served.added) of_day served.each;
          tried = subst (λ (x : List Entry × Day). EachTried opened.accounts opened.base pays x.1 x.0 stop) (λ k. (is k, of_day k)) tried;
          alone = λ one. subst (λ (x : List Entry × Day). EntersInOrder opened.accounts opened.base pays x.1 x.0 stop) (λ k. (is k, of_day k)) (alone one);
          journal = subst (λ es. IsJournal opened.accounts es) is served.journal;
          left = subst (λ es. IsLeft d from to opened.accounts es day most) is (left_closed history served.leaves);
          any_moment = subst (λ es. LeavesMidway d from to opened.accounts opened.base es day most) is (left_midway history served.in_turn);
          cause = subst (λ (x : List Entry × Day). BookCause d from to opened.accounts opened.base pays x.1 workers x.0 stop) (λ k. (is k, of_day k)) (cause_of pays history stop cause);
        }

  -- a disk whose count of faults has not risen
  pub closed_alone : (history : List Entry) → IsCalm opened.at_open (d.faults to) → LeavesClosed d (opening_with d opened workers most) history to → (d.faults to ≡ opened.at_open) × IsOnDisk d to opened.accounts history
  closed_alone history calm (inl alone) = (alone.sure, record { stands = alone.stands; durable = alone.durable })
  closed_alone history calm (inr failed) = absurd (calm failed.0)
