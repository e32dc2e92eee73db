-- How `return` ends before anything is written, from how its parts end.
use Rattle.std.proofs.Common.{◌≡◌, ◌+◌, inl, inr, ℕ, List, [], ◌∷◌, ◌++◌, Result, Ok, Err, refl, sym, ap, ◌∙◌, subst, length}
use Rattle.std.specs.Prelude.{IsTrue}
use Rattle.corr_books.specs.declared.opening.BooksFault.{BooksFault}
use Rattle.corr_books.specs.declared.opening.BooksFault.TheVariants.{Open, DateBack}
use Rattle.corr_books.specs.Finding.{BooksCause, OpensBack, RefusesAs, ShowsBack, TellsOf, is_of_bytes}
use Rattle.corr_books.specs.Opening.{Parts}
use Rattle.corr_disk.specs.declared.disk.Disk as disks
use Rattle.corr_io.specs.declared.source.Source as sources
use Rattle.corr_ids.specs.declared.day.Day.{Day}
use Rattle.day_model.specs.Laws.{IsLatest}
use Rattle.day_model.specs.Shape.{HasShape}
use Rattle.day_model.specs.declared.entry.Entry.{Entry}
use Rattle.day_model.specs.declared.pay.Pay.{Pay}
use Rattle.jrn_book.specs.Journal.{IsJournal}
use Rattle.jrn_book.specs.Opening.{Finding, IsFound, found_by}
use Rattle.jrn_file.specs.File.{disk_of}
use Rattle.jrn_file.specs.Reading.{opened_of}
use Rattle.jrn_file.specs.declared.fault.OpenFault.{OpenFault}
use Rattle.pay_returns.specs.Laws.{HoldsReturn}
use Rattle.pay_returns.specs.Making.{MayReturn, TellsReturnFault}
use Rattle.pay_returns.specs.declared.fault.ReturnFault.{ReturnFault}
use Rattle.pay_returns.specs.declared.fault.ReturnFault.TheVariants as returning
use Rattle.corr_top.specs.declared.answers.BookStop.{BookStop}
use Rattle.corr_top.specs.declared.room.Room.{Room}
use Rattle.corr_top.specs.declared.status.Status.{Status}
use Rattle.corr_top.specs.declared.words.Command.TheVariants.{Return}
use Rattle.corr_top.specs.declared.writing.Texts.{Texts}
use Rattle.corr_top.specs.Commands.{meaning_of}
use Rattle.corr_top.specs.Ends.{HasPassed}
use Rattle.corr_top.specs.inner.Ends.{CommandGives, HasTexts}
use Rattle.corr_top.specs.Inputs.{Inputs, new_in}
use Rattle.corr_top.specs.Meaning.{KeepsRest}
use Rattle.corr_top.specs.OnDisk.{HoldsJournal, IsOnDisk, IsUnwritten, LeavesMidway, StopsOpening}
use Rattle.corr_top.specs.Origin.{AreSentValid}
use Rattle.corr_top.specs.Out.{booked_from, sent_from}
use Rattle.corr_top.specs.Passing.{table_at}
use Rattle.corr_top.specs.Return.{return_report, return_steps}
use Rattle.corr_top.specs.Returned.{booked_on}
use Rattle.corr_top.specs.inner.Returning.{GivesBooked, GivesReturned, HasBooked, StopsAtPay, asks_for}
use Rattle.corr_top.specs.Run.{run_out}
use Rattle.corr_top.specs.Stops.{status_of_booking, status_of_books, status_of_day, status_of_opening, status_of_return}
use Rattle.corr_top.proofs.OnePay.{one_booked}
use Rattle.corr_top.proofs.OpenedBooks.{closed_alone, entering_stops, found_is, holds_opened, is_back, left_midway}
use Rattle.corr_top.proofs.Returned.{last_shape, return_valid}
use Rattle.corr_top.proofs.TableFiles.{no_inputs}

-- all but the disk is as it was
pub record IsRest {S K D : Type 0} (old new : Room S K D) : Type 0 where
  pub tables : new.tables ≡ old.tables
  pub messages : new.messages ≡ old.messages
  pub received : new.received ≡ old.received
  pub sent : new.sent ≡ old.sent
  pub disk2 : new.disk2 ≡ old.disk2
  pub report : new.report ≡ old.report
  pub out : new.out ≡ old.out

module _ {S K D : Type 0} (source : sources.Ghosts S) (d : disks.Ghosts D) (place : ℕ) (day : Day) (old new : Room S K D) (rest : IsRest old new) where
  keeps_rest : KeepsRest return_steps old new
  keeps_rest = record {
    tables = λ name unread. ap (table_at name) rest.tables;
    messages = λ unread unserved. rest.messages;
    received = λ unread unpacked. rest.received;
    sent = λ unread. rest.sent;
    disk2 = λ unread. rest.disk2;
  }

  gives_return : (r : Result Texts Status) (i : Inputs) → i.place ≡ place → i.day ≡ day → CommandGives source d (meaning_of (Return place day)) old new r i → HasTexts source d (meaning_of (Return place day)) old new r
  unfolding meaning_of
  gives_return r i at is gives = record { inputs = i; are_for = (at, is); gives = gives; rest = keeps_rest; report = rest.report; out = rest.out }

  -- the inputs before the journal is opened
  abbrev asked : Inputs
  asked = record no_inputs { place = place; day = day }

  -- the books were not opened, for a reason that opening the journal gave
  open_stops : (fault : OpenFault) → StopsOpening d old.disk new.disk fault → HasTexts source d (meaning_of (Return place day)) old new (Err (status_of_opening fault))
  unfolding meaning_of
  open_stops fault stops =
      gives_return (Err (status_of_opening fault)) asked refl refl (inl (inl ((fault, refl, stops), (tt, (tt, (stops.untouched, tt))))))

  -- or for the day of the last entry
  back_stops : (last : Day) → OpensBack (opened_of (d.reads old.disk)) (d.honest old.disk) day last → d.faults new.disk ≡ d.faults old.disk → IsUnwritten d old.disk new.disk
      → HasTexts source d (meaning_of (Return place day)) old new (Err (status_of_day last))
  unfolding meaning_of
  back_stops last shows sure unwritten =
      let i = record asked { chart = shows.accounts; history = shows.history } in
      let holds : HoldsJournal d old.disk shows.accounts shows.history = record { journal = shows.journal; stands = λ honest. (shows.found honest).1 } in
      gives_return (Err (status_of_day last)) i refl refl
      (inl (inr (holds, inl ((last, refl, is_back shows.accounts shows.history day last shows.journal shows.back, sure), (tt, (unwritten, tt))))))

  -- opening the books stopped it
  pub books_stop : (fault : BooksFault) → BooksCause (d.faults old.disk) (d.faults new.disk) fault → (IsTrue (d.honest old.disk) → IsTrue (is_of_bytes fault) → (finding : Finding) × IsFound (opened_of (d.reads old.disk)) finding × RefusesAs day fault finding)
      → ShowsBack (opened_of (d.reads old.disk)) (d.honest old.disk) day fault → IsUnwritten d old.disk new.disk → HasTexts source d (meaning_of (Return place day)) old new (Err (status_of_books fault))
  books_stop (Open fault) cause told shows unwritten =
      open_stops fault (record { cause = cause; told = λ honest. found_is (found_by fault) (opened_of (d.reads old.disk)) (told honest); untouched = unwritten })
  books_stop (DateBack last) cause told shows unwritten = back_stops last shows cause unwritten

  module _ (opened : Parts D) (journal : IsJournal opened.accounts opened.base) (told : IsTrue (d.honest old.disk) → TellsOf (opened_of (d.reads old.disk)) day (Ok opened)) (latest : IsLatest opened.base day)
      (at_open : opened.at_open ≡ d.faults old.disk) (kept : d.faults (disk_of opened.file) ≡ d.faults old.disk) (honest : d.honest (disk_of opened.file) ≡ d.honest old.disk)
      (of_day : opened.day ≡ day) (unwritten : IsUnwritten d old.disk (disk_of opened.file)) where
    -- the inputs once the books are opened, with these pays entered
    abbrev i_of : List Pay → Inputs
    i_of entered = record asked { chart = opened.accounts; history = opened.base; entered = entered }

    holds : HoldsJournal d old.disk opened.accounts opened.base
    holds = holds_opened d day 1 1 old.disk new.disk opened journal told

    -- no return was made, and the disk is as the opening left it
    pub made_none : (stop : ReturnFault) → TellsReturnFault opened.accounts opened.base place day stop → new.disk ≡ disk_of opened.file → HasTexts source d (meaning_of (Return place day)) old new (Err (status_of_return stop))
    unfolding meaning_of
    made_none stop tells same =
        gives_return (Err (status_of_return stop)) (i_of []) refl refl
        (inl (inr (holds, inr (latest, inl ((stop, refl, tells, ap d.faults same ∙ kept), (subst (IsUnwritten d old.disk) (sym same) unwritten, tt))))))

    module _ (pay : Pay) (may : MayReturn opened.accounts opened.base place day pay) where
      -- it wasn't entered
      pub pay_stops : (s : Status) (stop : BookStop) → s ≡ status_of_booking stop → StopsAtPay d opened new.disk pay stop → HasTexts source d (meaning_of (Return place day)) old new (Err s)
      unfolding meaning_of
      pay_stops s stop is stops =
          let entering = entering_stops d day 1 1 old.disk new.disk opened at_open honest of_day unwritten (asks_for pay) stops.history stop stops.served stops.tried (λ one. stops.in_order) stops.cause in
          gives_return (Err s) (i_of []) refl refl
          (inl (inr (holds, inr (latest, inr ((pay, may), inl ((stop, is, (pay, may, entering)), tt))))))

      -- the history with the return more
      new_is : new_in (i_of (pay ∷ [])) ≡ opened.base ++ booked_on day pay ∷ []
      new_is = one_booked opened.accounts opened.base pay day may.new.new may.funded

      history_is : (history : List Entry) → HasBooked d opened new.disk pay history → history ≡ new_in (i_of (pay ∷ []))
      history_is history had = had.is ∙ ap (λ (x : Day). opened.base ++ booked_on x pay ∷ []) of_day ∙ sym new_is

      -- it was entered
      passed : (history : List Entry) → HasBooked d opened new.disk pay history → HasPassed source d (meaning_of (Return place day)) old new (i_of (pay ∷ []))
      unfolding meaning_of
      passed history had =
          let is = history_is history had in
          let served = had.served in
          let on : (d.faults new.disk ≡ opened.at_open) × IsOnDisk d new.disk opened.accounts history = closed_alone d day 1 1 old.disk new.disk opened history had.calm served.leaves in
          record {
            passed = (holds, (latest, ((pay, may), (record { pay = pay; may = may; entered_is = refl; is = new_is }, tt))));
            leaves = record {
              sure = on.0 ∙ at_open;
              entered = subst (λ es. IsOnDisk d new.disk opened.accounts es) is on.1;
              journal = subst (λ es. IsJournal opened.accounts es) is served.journal;
              any_moment = subst (λ es. LeavesMidway d old.disk new.disk opened.accounts opened.base es day 1) is
                  (left_midway d day 1 1 old.disk new.disk opened at_open honest of_day unwritten history served.in_turn);
            };
          }

      shaped : (history : List Entry) → HasBooked d opened new.disk pay history → HasShape pay
      shaped history had = last_shape opened.accounts opened.base (booked_on opened.day pay) (subst (λ (es : List Entry). IsJournal opened.accounts es) had.is had.served.journal)

      pub booked_ends : (r : Result Texts Status) → GivesBooked d opened new.disk pay r → HasTexts source d (meaning_of (Return place day)) old new r
      unfolding meaning_of return_report run_out
      booked_ends (Ok texts) gives =
          let history = gives.0 in
          let had = gives.1 in
          let is = history_is history had in
          gives_return (Ok texts) (i_of (pay ∷ [])) refl refl (
            passed history had,
            gives.2 ∙ ap (booked_from opened.accounts (length opened.base + 1)) is,
            gives.3 ∙ ap (sent_from opened.accounts (length opened.base + 1)) is,
            λ t other entered holds_it.
                let same : pay ≡ other = cc (entered) in
                let own = return_valid opened.accounts opened.base place day pay may journal (shaped history had) t (subst (λ (p : Pay). HoldsReturn t opened.accounts p) (sym same) holds_it) in
                subst (λ (es : List Entry). AreSentValid t opened.accounts (length opened.base + 1) es) is (gives.4 t own.0 own.1),
          )
      booked_ends (Err s) (inl none) = subst (λ (x : Status). HasTexts source d (meaning_of (Return place day)) old new (Err x)) (sym none.0) (made_none returning.Memory tt none.1)
      booked_ends (Err s) (inr stop) = pay_stops s stop.0 stop.1 stop.2

    -- the part of the command after the opening of the books
    pub return_ends : (r : Result Texts Status) → GivesReturned d opened new.disk place day r → HasTexts source d (meaning_of (Return place day)) old new r
    return_ends (Ok texts) gives = booked_ends gives.0 gives.1 (Ok texts) gives.2
    return_ends (Err s) (inl none) = subst (λ (x : Status). HasTexts source d (meaning_of (Return place day)) old new (Err x)) (sym none.1) (made_none none.0 none.2 none.3)
    return_ends (Err s) (inr stop) = booked_ends stop.0 stop.1 (Err s) stop.2

-- whether the disk tells its bytes stays
module _ {D : Type 0} (d : disks.Ghosts D) (opened : Parts D) (new : D) where
  booked_honest : (pay : Pay) (r : Result Texts Status) → GivesBooked d opened new pay r → d.honest new ≡ d.honest (disk_of opened.file)
  booked_honest pay (Ok texts) gives = gives.1.served.honest
  booked_honest pay (Err s) (inl none) = ap d.honest none.1
  booked_honest pay (Err s) (inr stop) = stop.2.served.honest

  pub return_honest : (place : ℕ) (day : Day) (r : Result Texts Status) → GivesReturned d opened new place day r → d.honest new ≡ d.honest (disk_of opened.file)
  return_honest place day (Ok texts) gives = booked_honest gives.0 (Ok texts) gives.2
  return_honest place day (Err s) (inl none) = ap d.honest none.3
  return_honest place day (Err s) (inr stop) = booked_honest stop.0 (Err s) stop.2
