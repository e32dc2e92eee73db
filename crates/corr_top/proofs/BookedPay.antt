-- One pay that was entered over the books of an opening: its texts, or why there are none.
use Rattle.std.proofs.Common.{◌≡◌, ◌≤◌, ◌+◌, ◌-◌, inr, ℕ, List, [], ◌∷◌, ◌++◌, Some, None, Result, Ok, Err, refl, sym, ap, ◌∙◌, subst, arith, length}
use Rattle.std.specs.Prelude.{slice_get}
use Rattle.corr_books.specs.Opening.{Opening, Parts, opening_with, past_of}
use Rattle.corr_disk.specs.declared.disk.Disk as disks
use Rattle.corr_ids.specs.declared.day.Day.{Day}
use Rattle.corr_report.specs.Bookings.{booking_line}
use Rattle.day_model.specs.Balance.{outcome_of}
use Rattle.day_model.specs.Chart.{Chart}
use Rattle.day_model.specs.Next.{entered_at}
use Rattle.day_model.specs.declared.entry.Entry.{Entry}
use Rattle.day_model.specs.declared.entry.Outcome.TheVariants.{Booked}
use Rattle.day_model.specs.declared.pay.Pay.{Pay}
use Rattle.day_model.specs.declared.reply.Reply.{Reply}
use Rattle.day_model.proofs.laws.Folds.{get_at}
use Rattle.jrn_book.specs.Journal.{IsJournal}
use Rattle.pay_returns.specs.Making.{MayReturn}
use Rattle.corr_top.specs.declared.returning.Entered.{Entered}
use Rattle.corr_top.specs.declared.status.Status.{Status}
use Rattle.corr_top.specs.declared.writing.Texts.{Texts}
use Rattle.corr_top.specs.inner.Collecting.{IsCalm}
use Rattle.corr_top.specs.Origin.{AreSentValid}
use Rattle.corr_top.specs.Out.{booked_from, entry_out, sent_from}
use Rattle.corr_top.specs.Returned.{booked_on}
use Rattle.corr_top.specs.inner.Returning.{GivesBooked, GivesEntry, GivesLast, GivesReturned, IsEntered, asks_for}
use Rattle.corr_top.specs.inner.Serving.{AreServedInOrder, HasServed, are_replies}
use Rattle.corr_top.proofs.DayDone.{cause_of, in_order, tried_at}
use Rattle.corr_top.proofs.OnePay.{one_booked}
use Rattle.corr_top.proofs.OpenedBooks.{closed_alone}
use Rattle.corr_top.proofs.Returned.{last_place, last_valid, numbered_last}

-- the texts of the last entry are those from its place on
last_texts : (chart : Chart) (base history : List Entry) (e : Entry) (texts : Texts) → history ≡ base ++ e ∷ []
    → ((entry : Entry) → slice_get history (length history - 1) ≡ Some entry → GivesLast chart (length history) entry texts) → GivesLast chart (length base + 1) e texts
last_texts chart base history e texts is last =
    let long : length history ≡ length base + 1 = ap (λ (es : List Entry). length es) is ∙ last_place base e in
    let place : length history - 1 ≡ length base = omega (arith, long) in
    let at : slice_get history (length history - 1) ≡ Some e = (λ k. slice_get (is k) (place k)) ∙ get_at base e [] in
    subst (λ (n : ℕ). GivesLast chart n e texts) long (last e at)

module _ {D : Type 0} (d : disks.Ghosts D) (old : Parts D) (pay : Pay) (e : Entered D) (before : ℕ) (count : before ≡ old.at_open)
    (missing : entered_at pay.mir old.base ≡ None) (funded : outcome_of old.accounts old.base pay ≡ Booked) (is : IsEntered d (opening_with d old 1 1) (past_of d old) pay e) where
  abbrev o : Opening
  o = opening_with d old 1 1

  abbrev history : List Entry
  history = e.closed.history.entries

  abbrev left : D
  left = e.closed.disk

  served : HasServed d o (past_of d old) (asks_for pay) old.accounts history left
  served = subst (λ (c : Chart). HasServed d o (past_of d old) (asks_for pay) c history left) is.left.accounts is.left

  turn : o.made ≡ 1 → AreServedInOrder o history (asks_for pay) (e.made ∷ [])
  turn one = is.turn

  -- the books that were closed are a journal
  pub closed_journal : IsJournal e.closed.accounts history
  closed_journal = subst (λ (c : Chart). IsJournal c history) (sym is.left.accounts) is.left.journal

  -- where the pay has a reply, there is a last entry
  pub some_entry : (replies : List Reply) → e.made ∷ [] ≡ are_replies replies → 1 ≤ length history
  some_entry replies all =
      let entry = booked_on old.day pay in
      let long : length history ≡ length (old.base ++ entry ∷ []) = ap (λ (es : List Entry). length es) (is.turn.all replies all ∙ one_booked old.accounts old.base pay old.day missing funded) in
      omega (arith, long, last_place old.base entry)

  gives_at : (chart : Chart) → chart ≡ old.accounts → (r : Result Texts Status) → GivesEntry chart history (e.made ∷ []) before (d.faults left) r → GivesBooked d old left pay r
  gives_at chart same (Ok texts) gives =
      let entry = booked_on old.day pay in
      let history_is : history ≡ old.base ++ entry ∷ [] = is.turn.all gives.0 gives.1 ∙ one_booked old.accounts old.base pay old.day missing funded in
      let last = subst (λ (c : Chart). GivesLast c (length old.base + 1) entry texts) same (last_texts chart old.base history entry texts history_is gives.3) in
      let lines : booked_from old.accounts (length old.base + 1) history ≡ booking_line old.accounts (length old.base + 1) entry =
      ap (booked_from old.accounts (length old.base + 1)) history_is ∙ numbered_last (booking_line old.accounts) old.base entry in
      let sent : sent_from old.accounts (length old.base + 1) history ≡ entry_out old.accounts (length old.base + 1) entry =
      ap (sent_from old.accounts (length old.base + 1)) history_is ∙ numbered_last (entry_out old.accounts) old.base entry in (
        history,
        record { served = served; calm = subst (λ (n : ℕ). IsCalm n (d.faults left)) count gives.2; is = history_is },
        last.0 ∙ sym lines,
        last.1 ∙ sym sent,
        λ t own notices. subst (λ (es : List Entry). AreSentValid t old.accounts (length old.base + 1) es) (sym history_is) (last_valid t old.accounts old.base entry (last.2 t own notices)),
      )
  gives_at chart same (Err s) gives =
      let faults = d.faults left in
      let made = e.made ∷ [] in
      let stop = gives.0 in
      inr (
        stop,
        gives.1,
        record {
          history = history;
          served = served;
          tried = tried_at o (asks_for pay) history faults made is.told turn before faults stop gives.2;
          in_order = in_order o (asks_for pay) history faults made is.told turn before faults stop gives.2 refl;
          cause = cause_of o (asks_for pay) history faults made is.told turn before faults stop count refl (λ calm. (closed_alone d old.day 1 1 left left old history calm served.leaves).0) gives.2;
        },
      )

  pub gives_booked : (r : Result Texts Status) → GivesEntry e.closed.accounts history (e.made ∷ []) before (d.faults left) r → GivesBooked d old left pay r
  gives_booked r gives = gives_at e.closed.accounts is.left.accounts r gives

-- the same of a return
pub gives_returned : {D : Type 0} (d : disks.Ghosts D) (old : Parts D) (new : D) (place : ℕ) (day : Day) (pay : Pay) → MayReturn old.accounts old.base place day pay → (r : Result Texts Status) → GivesBooked d old new pay r
    → GivesReturned d old new place day r
gives_returned d old new place day pay may (Ok texts) gives = (pay, may, gives)
gives_returned d old new place day pay may (Err s) gives = inr (pay, may, gives)
