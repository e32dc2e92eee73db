-- One pay that was entered with the one pass of its books, when the books are closed.
use Rattle.std.proofs.Common.{◌≡◌, ℕ, All, List, [], ◌∷◌, Result, Ok, get_or, length, map, ap, sym, ◌∙◌, subst}
use Rattle.std.specs.Prelude.{slice_get, slice_set}
use Rattle.corr_books.specs.Closing.{Closes, LeavesClosed, LeavesInTurn}
use Rattle.corr_books.specs.Opening.{Opening, Parts, opening_with}
use Rattle.corr_books.specs.Passes.{AreNew, Belongs}
use Rattle.corr_books.specs.Stand.{entries_of}
use Rattle.corr_books.specs.Telling.{Told}
use Rattle.corr_disk.specs.declared.disk.Disk as disks
use Rattle.day_model.specs.Chart.{AreBy, Chart}
use Rattle.day_model.specs.Shape.{HasShape}
use Rattle.day_model.specs.declared.entry.Entry.{Entry}
use Rattle.day_model.specs.declared.pay.Pay.{Pay}
use Rattle.front_word.specs.Known.{PassKnows}
use Rattle.jrn_book.specs.Answers.{Answer}
use Rattle.jrn_book.specs.Journal.{IsJournal}
use Rattle.corr_top.specs.Booking.{IsEnteredOn}
use Rattle.corr_top.specs.Message.{pays_in}
use Rattle.corr_top.specs.inner.Returning.{IsEntered, asks_for}
use Rattle.corr_top.specs.inner.Serving.{AreServedInOrder, AreTold, served_of, starting}
use Rattle.corr_top.specs.inner.Workers.{Worker}
use Rattle.corr_top.specs.declared.desk.Served.{Served}
use Rattle.corr_top.specs.declared.message.NoPay.{NoPay}
use Rattle.corr_top.specs.declared.returning.Entered.{Entered}
use Rattle.corr_top.proofs.Batches.{HaveServed}
use Rattle.corr_top.proofs.OnePay.{afterwards, one_served}
use Rattle.corr_top.proofs.Workers.{Serving, all_added, are_told, single_of, turn}

-- what the job of a pay asks for
abbrev asks : Pay → Result Pay NoPay
asks pay = Ok pay

module _ (o : Opening) (pay : Pay) (news : List PassKnows) (q p : PassKnows) (is_one : news ≡ q ∷ []) (new : AreNew o news) (history : List Entry) (faults : ℕ) (closes : Closes o history faults (p ∷ []))
    (answer : Answer) (told : Told o pay q answer p) (shape : HasShape pay) (made : Served) (is : made ≡ served_of pay.mir answer) where
  abbrev after : List Worker
  after = afterwards o pay q p made answer told shape is ∷ []

  served : HaveServed (Serving o asks (pay ∷ [])) (map starting news) (pay ∷ []) after (made ∷ [])
  served = subst (λ (ns : List PassKnows). HaveServed (Serving o asks (pay ∷ [])) (map starting ns) (pay ∷ []) after (made ∷ [])) (sym is_one) (one_served o pay q p made answer told shape is)

  pub pay_added : All (IsEnteredOn o.day (pays_in (asks_for pay))) (entries_of closes.log)
  pay_added = all_added o asks (pay ∷ []) news after history faults new closes (made ∷ []) served

  pub pay_told : AreTold o history (asks_for pay) (made ∷ [])
  pay_told = are_told o asks (pay ∷ []) news after history faults new closes (made ∷ []) served

  pub pay_turn : AreBy (length o.base) o.accounts → o.made ≡ 1 → AreServedInOrder o history (asks_for pay) (made ∷ [])
  pay_turn by one = turn o asks (pay ∷ []) news after history faults new closes (made ∷ []) served by one

-- ---- the one pass of new books

module _ (o : Opening) (made : o.made ≡ 1) (news : List PassKnows) (new : AreNew o news) (q : PassKnows) (first : q ≡ get_or news 0 q) where
  -- there is no other
  pub only_new : news ≡ q ∷ []
  only_new =
      let one = single_of news (new.count ∙ made) in
      let same : q ≡ one.0 = first ∙ ap (λ (ps : List PassKnows). get_or ps 0 q) one.1 in
      one.1 ∙ ap (λ (p : PassKnows). p ∷ []) (sym same)

  pub new_belongs : Belongs o q
  new_belongs = (new.each 0 q (ap (λ (ps : List PassKnows). slice_get ps 0) only_new)).belongs

  -- so it is alone after a call too
  pub only_after : (p : PassKnows) → slice_set news 0 p ≡ p ∷ []
  only_after p = ap (λ (ps : List PassKnows). slice_set ps 0 p) only_new

-- ---- the books of a name, which were closed

module _ {D : Type 0} (d : disks.Ghosts D) (opened : Parts D) (past : ℕ → List ℕ → Type 0) (o : Opening) (named : o ≡ opening_with d opened 1 1) (by_now : AreBy (length opened.base) opened.accounts)
    (pay : Pay) (news : List PassKnows) (q p : PassKnows) (is_one : news ≡ q ∷ []) (new : AreNew o news) (e : Entered D) where
  abbrev ended : List Entry
  ended = e.closed.history.entries

  pub entered_named : e.closed.accounts ≡ o.accounts → IsJournal e.closed.accounts ended → Closes o ended (d.faults e.closed.disk) (p ∷ []) → LeavesClosed d o ended e.closed.disk
      → LeavesInTurn d o past ended e.closed.disk → d.honest e.closed.disk ≡ o.honest → (answer : Answer) → Told o pay q answer p → HasShape pay → e.made ≡ served_of pay.mir answer
      → IsEntered d (opening_with d opened 1 1) past pay e
  entered_named accounts journal closes leaves moments honest answer told shape is =
      let faults = d.faults e.closed.disk in
      let by : AreBy (length o.base) o.accounts = subst (λ (x : Opening). AreBy (length x.base) x.accounts) (sym named) by_now in
      let all : IsEntered d o past pay e = record {
        left = record {
          accounts = accounts;
          added = entries_of closes.log;
          is = closes.is;
          each = pay_added o pay news q p is_one new ended faults closes answer told shape e.made is;
          journal = subst (λ (chart : Chart). IsJournal chart ended) accounts journal;
          leaves = leaves;
          in_turn = moments;
          honest = honest;
        };
        told = pay_told o pay news q p is_one new ended faults closes answer told shape e.made is;
        turn = pay_turn o pay news q p is_one new ended faults closes answer told shape e.made is by (ap (λ (x : Opening). x.made) named);
      } in
      subst (λ (x : Opening). IsEntered d x past pay e) named all
