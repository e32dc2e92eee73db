-- What an answer leaves behind the lock, and what the pass shows of it.
use Rattle.std.proofs.Common.{◌≡◌, ◌⊎◌, ⊎_elim, inl, inr, ℕ, ◌<◌, ◌≤◌, ◌≤ℤ◌, List, [], ◌∷◌, ◌++◌, length, max, take, Option, Some, None, Ok, Err, slice_get, refl, ap, sym, ◌∙◌, subst, arith}
use Rattle.std.specs.Prelude.{true, false, IfSome, IsTrue, is_some, if◌then◌else◌}
use Rattle.std.proofs.lemmas.Int.{ints}
use Rattle.std.proofs.lemmas.List.Elements.{All-cons, All-nil}
use mathlib.Core.List.{IsPrefix}
use Rattle.atomic_table.specs.Seated.{TableId}
use Rattle.corr_disk.specs.Disk.{LeavesOnly}
use Rattle.corr_disk.specs.declared.disk.Disk as disks
use Rattle.corr_text.specs.Faults.{Rose}
use Rattle.corr_ids.specs.declared.day.Day.{Day}
use Rattle.day_model.specs.declared.entry.Entry.{Entry}
use Rattle.day_model.specs.declared.entry.Outcome.{Outcome}
use Rattle.day_model.specs.declared.pay.Pay.{Pay}
use Rattle.day_model.specs.Chart.{Chart}
use Rattle.day_model.specs.Balance.{outcome_of}
use Rattle.day_model.specs.Fit.{FitsAccounts}
use Rattle.day_model.specs.Laws.{IsLatest}
use Rattle.day_model.specs.Legal.{IsLegal}
use Rattle.day_model.specs.Next.{entered_at, entry_of, next_history}
use Rattle.day_model.proofs.laws.Growth.{one_pay_more}
use Rattle.day_model.proofs.laws.Slices.{in_pushed}
use Rattle.front_word.specs.declared.view.Act.{Act}
use Rattle.front_word.specs.Known.{WriterKnows, PassKnows}
use Rattle.front_word.specs.Rule.{OwedPast, IsNumber}
use Rattle.front_word.proofs.laws.Prefixes.{prefix_self, prefix_trans, prefix_length, get_snoc, get_last}
use Rattle.jrn_book.specs.Answers.{Answer, StandsAt, calls_disk, failed_after}
use Rattle.jrn_book.specs.declared.answer.Failed.{Failed}
use Rattle.jrn_book.specs.Book.{Book, Counts}
use Rattle.jrn_book.specs.Journal.{IsBeforeOrNext, StandsForBook}
use Rattle.jrn_book.specs.declared.answer.Committed.TheVariants.{New, Kept}
use Rattle.jrn_book.specs.declared.answer.CommitFault.TheVariants.{Conflict, Full, DiskFault, Broken, Memory}
use Rattle.jrn_file.specs.File.{disk_of, end_of}
use Rattle.jrn_file.specs.declared.file.JFile.{JFile}
use Rattle.corr_books.specs.inner.Entering.{Enters}
use Rattle.corr_books.specs.inner.Meeting.{HasMet, IsNext, MeetsAfter, writer_after}
use Rattle.corr_books.specs.Moments.{LeavesSince, StandsBetween, StandsWithMore}
use Rattle.corr_books.specs.inner.Moments.{IsLeftInTurn}
use Rattle.corr_books.specs.Opening.{Opening}
use Rattle.corr_books.specs.Stand.{entries_of, history_of}
use Rattle.corr_books.specs.inner.Stand.{IsStand}
use Rattle.corr_books.specs.Telling.{Grows, IsAdded, NothingAdded, Says, ShowsFull, ShowsRoom, Told, entry_on, is_of_whole, known_to}
use Rattle.corr_books.proofs.laws.Histories.{history_of-push, length-history_of, tags_more, take_front}
use Rattle.corr_books.proofs.laws.Moments.{leaves_next}

-- the history after an answer other than New is as before; the reference is entered where the answer is Kept
pub kept_history : (chart : Chart) (history : List Entry) (pay : Pay) (day : Day) (place : ℕ) → entered_at pay.mir history ≡ Some place → next_history chart history pay day ≡ history
kept_history chart history pay day place at =
    ap (λ (found : Option ℕ). if is_some found then history else history ++ entry_of chart history pay day ∷ []) at

-- and it has one entry more where the reference is new
pub new_history : (chart : Chart) (history : List Entry) (pay : Pay) (day : Day) → entered_at pay.mir history ≡ None → next_history chart history pay day ≡ history ++ entry_of chart history pay day ∷ []
new_history chart history pay day none =
    ap (λ (found : Option ℕ). if is_some found then history else history ++ entry_of chart history pay day ∷ []) none

-- no entry has a later day, with one more of this day
pub latest_more : (history : List Entry) (e : Entry) (day : Day) → IsLatest history day → e.day ≡ day → IsLatest (history ++ e ∷ []) day
latest_more history e day latest same i d at =
    ⊎_elim
    (λ (t : slice_get history i ≡ Some d). latest i d t)
    (λ (t : (i ≡ length history) × (e ≡ d)).
    let s : d.day ≡ day = ap (λ (x : Entry). x.day) (sym t.1) ∙ same in
    subst (λ (x : Day). x.0 ≤ℤ day.0) (sym s) (omega (arith, ints)))
    (in_pushed history e i d at)

module _ {D : Type 0} (disk : disks.Ghosts D) (o : Opening) (past : ℕ → List ℕ → Type 0) (purses : TableId) (b b' : Book D) (w : WriterKnows) (number most : ℕ) (pay : Pay) where
  -- what stands behind the lock, before and after
  abbrev Before : Type 0
  Before = IsStand disk o past purses record { book = b; writer = w; day = o.day }

  abbrev After : Answer → Type 0
  After answer = IsStand disk o past purses record { book = b'; writer = writer_after w number pay o.day answer; day = o.day }

  abbrev Entered : Answer → Type 0
  Entered answer = Enters disk o.day most b b' pay answer

  -- a commit failed on the day of the books, if one did, over no more entries than the name tells
  abbrev Dated : Option Failed → Type 0
  Dated failed = IfSome failed (λ f. (f.day ≡ o.day) × (f.most ≤ o.most))

  -- what a crash since the opening leaves of a file, with a history and a failure
  abbrev Crash : JFile D → List Entry → Option Failed → Type 0
  Crash file history failed = IsTrue o.honest → (more : List Entry) × LeavesSince disk o past (disk_of file) (IsLeftInTurn o.accounts o.base history failed more)

  -- nothing was entered: the mark is no more than the disk's count
  still : (answer : Answer) (mark : ℕ) → Before → Entered answer → b'.history ≡ b.history → mark ≤ disk.faults (disk_of b'.file)
      → Dated b'.failed → Counts b'.failed b'.at_open (disk.faults (disk_of b'.file)) → Crash b'.file b'.history b'.failed
      → IsStand disk o past purses record { book = b'; writer = record w { mark = mark }; day = o.day }
  still answer mark s e same le failed counts crash = record {
    accounts = e.accounts ∙ s.accounts;
    purses_are = e.table ∙ s.purses_are;
    at_open = e.at_open ∙ s.at_open;
    honest = e.honest ∙ s.honest;
    day = refl;
    word = s.word;
    base = s.base;
    made = s.made;
    owed = s.owed;
    back = s.back;
    history = same ∙ s.history;
    tags = s.tags;
    century = s.century;
    latest = subst (λ (h : List Entry). IsLatest h o.day) (sym same) s.latest;
    some = s.some;
    failed = failed;
    counts = counts;
    mark = le;
    crash = crash;
  }

  -- where the disk was not called, or didn't fail: what is known of failures and counts is as before
  failed_still : (answer : Answer) → Before → Entered answer → failed_after most b.failed o.day answer ≡ b.failed → Dated b'.failed
  failed_still answer s e same = subst Dated (sym (e.failed ∙ same)) s.failed

  counts_still : (answer : Answer) → Before → Entered answer → failed_after most b.failed o.day answer ≡ b.failed → disk.faults (disk_of b'.file) ≡ disk.faults (disk_of b.file)
      → Counts b'.failed b'.at_open (disk.faults (disk_of b'.file))
  counts_still answer s e same count =
      subst (λ (x : Option Failed × (ℕ × ℕ)). Counts x.0 x.1.0 x.1.1) (λ i. (sym (e.failed ∙ same) i, (sym e.at_open i, sym count i))) s.counts

  -- the disk was not called
  crash_still : (answer : Answer) → Before → Entered answer → b'.history ≡ b.history → failed_after most b.failed o.day answer ≡ b.failed → calls_disk answer ≡ false → Crash b'.file b'.history b'.failed
  crash_still answer s e same failed none =
      subst (λ (x : JFile D × (List Entry × Option Failed)). Crash x.0 x.1.0 x.1.1) (λ i. (sym (e.file none) i, (sym same i, sym (e.failed ∙ failed) i))) s.crash

  -- A pay was entered, or the disk failed over it, in books in which no commit had failed.
  module _ (whole : b.failed ≡ None) (s : Before) where
    goes_on : IsPrefix o.base b.history
    goes_on = let log : IsPrefix o.base (history_of o.base w.acts) = (entries_of w.acts, refl) in subst (IsPrefix o.base) (sym s.history) log

    -- what a crash left before the call
    left_before : IsTrue o.honest → LeavesSince disk o past (disk_of b.file) (StandsBetween o.accounts o.base b.history)
    left_before honest =
        let was = s.crash honest in
        subst (λ (f : Option Failed). LeavesSince disk o past (disk_of b.file) (IsLeftInTurn o.accounts o.base b.history f was.0)) whole was.1

    -- and within it
    left_within : (answer : Answer) → Entered answer → IsTrue o.honest → LeavesOnly disk.moment disk.left_since (disk_of b.file) (disk_of b'.file) (IsBeforeOrNext o.accounts b.history pay o.day)
    left_within answer e honest =
        subst (λ (c : Chart). LeavesOnly disk.moment disk.left_since (disk_of b.file) (disk_of b'.file) (IsBeforeOrNext c b.history pay o.day)) s.accounts
        (e.any_moment whole (subst IsTrue (sym s.honest) honest))

    -- the history goes on
    between_more : (image : List ℕ) → IsPrefix b.history b'.history → StandsBetween o.accounts o.base b.history image → StandsBetween o.accounts o.base b'.history image
    between_more image more x = record { history = x.history; goes_on = x.goes_on; begins = prefix_trans x.history b.history b'.history x.begins more; stands = x.stands }

    crash_new : (place : ℕ) (outcome : Outcome) → Entered (Ok (New place outcome)) → IsPrefix b.history b'.history → Crash b'.file b'.history b'.failed
    crash_new place outcome e more honest =
        let within : LeavesSince disk o past (disk_of b'.file) (StandsBetween o.accounts o.base b'.history) =
        leaves_next disk o past (disk_of b.file) (disk_of b'.file) (StandsBetween o.accounts o.base b.history) (IsBeforeOrNext o.accounts b.history pay o.day) (StandsBetween o.accounts o.base b'.history)
        (left_before honest) (left_within (Ok (New place outcome)) e honest)
        (λ image x. between_more image more x)
        (λ image x. ⊎_elim
        (λ (y : StandsForBook image o.accounts b.history). record { history = b.history; goes_on = goes_on; begins = more; stands = y })
        (λ (y : StandsForBook image o.accounts (next_history o.accounts b.history pay o.day)).
        let same : b'.history ≡ next_history o.accounts b.history pay o.day = e.history ∙ ap (λ (c : Chart). next_history c b.history pay o.day) s.accounts in
        record {
          history = b'.history;
          goes_on = prefix_trans o.base b.history b'.history goes_on more;
          begins = prefix_self b'.history;
          stands = subst (λ (h : List Entry). StandsForBook image o.accounts h) (sym same) y;
        })
        x) in
        ([], subst (λ (f : Option Failed). LeavesSince disk o past (disk_of b'.file) (IsLeftInTurn o.accounts o.base b'.history f [])) (sym (e.failed ∙ whole)) within)

    crash_failed : 1 ≤ most → (before after : ℕ) → Entered (Err (DiskFault before after)) → FitsAccounts o.accounts pay → Crash b'.file b'.history b'.failed
    crash_failed some before after e fits honest =
        let shows = e.shows in
        let entry = entry_of o.accounts b.history pay o.day in
        let legal_here : IsLegal o.accounts b.history = subst (λ (x : Chart × List Entry). IsLegal x.0 x.1) (λ i. ((e.accounts ∙ s.accounts) i, e.history i)) e.legal in
        let few : length b.history < 100000 = shows.2.entries in
        let legal : IsLegal o.accounts (b.history ++ entry ∷ []) = one_pay_more o.accounts b.history pay o.day legal_here fits s.latest few (ap is_some shows.1) in
        let Left : List Entry → List ℕ → Type 0 = λ h image. StandsBetween o.accounts o.base h image ⊎ StandsWithMore o.accounts h o.day most (entry ∷ []) image in
        let within : LeavesSince disk o past (disk_of b'.file) (Left b.history) =
        leaves_next disk o past (disk_of b.file) (disk_of b'.file) (StandsBetween o.accounts o.base b.history) (IsBeforeOrNext o.accounts b.history pay o.day) (Left b.history)
        (left_before honest) (left_within (Err (DiskFault before after)) e honest)
        (λ image x. inl x)
        (λ image x. ⊎_elim
        (λ (y : StandsForBook image o.accounts b.history). inl (record { history = b.history; goes_on = goes_on; begins = prefix_self b.history; stands = y }))
        (λ (y : StandsForBook image o.accounts (next_history o.accounts b.history pay o.day)). inr (record {
          few = omega (arith, some);
          of_day = All-cons (λ (x : Entry). x.day ≡ o.day) entry [] refl (All-nil (λ (x : Entry). x.day ≡ o.day));
          legal = legal;
          stands = subst (λ (h : List Entry). StandsForBook image o.accounts h) (new_history o.accounts b.history pay o.day shows.1) y;
        }))
        x) in
        (entry ∷ [], subst (λ (x : List Entry × Option Failed). LeavesSince disk o past (disk_of b'.file) (IsLeftInTurn o.accounts o.base x.0 x.1 (entry ∷ []))) (λ i. (sym e.history i, sym e.failed i)) within)

  -- an answer that entered nothing and left the disk's count
  quiet : (answer : Answer) → Before → Entered answer → b'.history ≡ b.history → failed_after most b.failed o.day answer ≡ b.failed → disk.faults (disk_of b'.file) ≡ disk.faults (disk_of b.file) → calls_disk answer ≡ false
      → IsStand disk o past purses record { book = b'; writer = w; day = o.day }
  quiet answer s e same failed count none =
      still answer w.mark s e same (let m = s.mark in omega (arith, count)) (failed_still answer s e failed) (counts_still answer s e failed count) (crash_still answer s e same failed none)

  -- what holds wherever the lock is free holds again
  pub stand_after : (answer : Answer) → 1 ≤ most → most ≤ o.most → Before → Entered answer → IsNumber o.made number → FitsAccounts o.accounts pay → After answer
  stand_after (Ok (New place outcome)) some within s e by fits =
      let shows = e.shows in
      let entry = entry_of b.accounts b.history pay o.day in
      let act : Act = record { by = number; entry = record { pay = pay; day = o.day; outcome = outcome } } in
      let is : act.entry ≡ entry = ap (λ (x : Outcome). record { pay = pay; day = o.day; outcome = x }) shows.4 in
      let grown : b'.history ≡ b.history ++ act.entry ∷ [] =
      e.history ∙ new_history b.accounts b.history pay o.day shows.1 ∙ ap (λ (x : Entry). b.history ++ x ∷ []) (sym is) in
      record {
        accounts = e.accounts ∙ s.accounts;
        purses_are = e.table ∙ s.purses_are;
        at_open = e.at_open ∙ s.at_open;
        honest = e.honest ∙ s.honest;
        day = refl;
        word = s.word;
        base = s.base;
        made = s.made;
        owed = s.owed;
        back = s.back;
        history = grown ∙ ap (λ (h : List Entry). h ++ act.entry ∷ []) s.history ∙ sym (history_of-push o.base w.acts act);
        tags = tags_more o.made w.acts act s.tags by;
        century = s.century;
        latest = subst (λ (h : List Entry). IsLatest h o.day) (sym grown) (latest_more b.history act.entry o.day s.latest refl);
        some = s.some;
        failed = failed_still (Ok (New place outcome)) s e refl;
        counts = counts_still (Ok (New place outcome)) s e refl shows.5;
        mark = let m = s.mark in omega (arith, e.later);
        crash = crash_new shows.0 s place outcome e (act.entry ∷ [], sym grown);
      }
  stand_after (Ok (Kept place outcome)) some within s e by fits =
      quiet (Ok (Kept place outcome)) s e (e.history ∙ kept_history b.accounts b.history pay o.day place e.shows.1.first) refl e.shows.3 refl
  stand_after (Err (Conflict place)) some within s e by fits = quiet (Err (Conflict place)) s e e.history refl e.shows.2 refl
  stand_after (Err (Full entries end need)) some within s e by fits = quiet (Err (Full entries end need)) s e e.history refl e.shows.6 refl
  stand_after (Err (DiskFault before after)) some within s e by fits =
      let shows = e.shows in
      let at_open : disk.faults (disk_of b.file) ≡ b.at_open = subst (λ (f : Option Failed). Counts f b.at_open (disk.faults (disk_of b.file))) shows.0 s.counts in
      let rose : Rose b'.at_open (disk.faults (disk_of b'.file)) = subst (λ (x : ℕ × ℕ). Rose x.0 x.1) (λ i. ((shows.3 ∙ at_open ∙ sym e.at_open) i, shows.4 i)) shows.5 in
      still (Err (DiskFault before after)) (max w.mark after) s e e.history (let m = s.mark in omega (arith, shows.4, e.later))
      (subst Dated (sym e.failed) (refl, within))
      (subst (λ (f : Option Failed). Counts f b'.at_open (disk.faults (disk_of b'.file))) (sym e.failed) rose)
      (crash_failed shows.0 s some before after e fits)
  stand_after (Err (Broken from now)) some within s e by fits =
      let shows = e.shows in
      still (Err (Broken from now)) (max w.mark now) s e e.history (let m = s.mark in omega (arith, shows.2, e.later))
      (failed_still (Err (Broken from now)) s e refl)
      (counts_still (Err (Broken from now)) s e refl shows.4)
      (crash_still (Err (Broken from now)) s e e.history refl refl)
  stand_after (Err Memory) some within s e by fits = quiet (Err Memory) s e e.history refl e.shows.1 refl

  -- a new place is the next one of the writer's
  pub next_place : (answer : Answer) → Before → Entered answer → IsNext w.base w.acts answer
  next_place (Ok (New place outcome)) s e =
      let n = ap length s.history ∙ length-history_of o.base w.acts in
      let base = ap length s.base in
      let p = e.shows.3 in
      let r = e.shows.2.entries in
      (omega arith, omega arith)
  next_place (Ok (Kept place outcome)) s e = tt
  next_place (Err fault) s e = tt

  none_past : (old new : PassKnows) (log : List Act) → OwedPast log (length old.known) old.number None → new.known ≡ log → NothingAdded old new
  none_past old new log owed known i a at past tag =
      let x = owed i a (subst (λ (l : List Act). slice_get l i ≡ Some a) known at) past tag in absurd (cc (x.0))

  -- the writer's mark doesn't fall
  mark_after : (answer : Answer) → w.mark ≤ (writer_after w number pay o.day answer).mark
  mark_after (Ok (New place outcome)) = omega arith
  mark_after (Ok (Kept place outcome)) = omega arith
  mark_after (Err (Conflict place)) = omega arith
  mark_after (Err (Full entries end need)) = omega arith
  mark_after (Err (DiskFault before after)) = omega arith
  mark_after (Err (Broken from now)) = omega arith
  mark_after (Err Memory) = omega arith

  grows_after : (answer : Answer) (place : Option ℕ) (old new : PassKnows) → After answer → Entered answer
      → HasMet w (writer_after w number pay o.day answer) place old new → IsPrefix w.acts (writer_after w number pay o.day answer).acts
      → Grows o old new
  grows_after answer place old new s e m more = record {
    number = m.number;
    known = subst (IsPrefix old.known) (sym m.known) (prefix_trans old.known w.acts (writer_after w number pay o.day answer).acts m.before more);
    looked = subst (λ (l : List Act). length l ≤ new.seen) (sym m.known) m.looked;
    seen = subst (λ (l : List Act). old.seen ≤ length l) (sym m.known) (let x = m.seen in let y = prefix_length w.acts (writer_after w number pay o.day answer).acts more in omega arith);
    legal = subst (λ (x : Chart × List Entry). IsLegal x.0 x.1) (λ i. (s.accounts i, (s.history ∙ ap (history_of o.base) (sym m.known)) i)) e.legal;
    mark = let a = m.marked in let b = mark_after answer in let k = m.mark in omega arith;
  }

  -- the history, as the pass knows it
  as_known : (old new : PassKnows) (place : Option ℕ) (answer : Answer) → Before → HasMet w (writer_after w number pay o.day answer) place old new
      → (writer_after w number pay o.day answer).acts ≡ w.acts → b.history ≡ known_to o new
  as_known old new place answer s m same = s.history ∙ ap (history_of o.base) (sym (m.known ∙ same))

  -- what New says
  added : (place : ℕ) (outcome : Outcome) (old new : PassKnows) → old.number ≡ number → Before → Entered (Ok (New place outcome))
      → HasMet w (writer_after w number pay o.day (Ok (New place outcome))) (Some place) old new → IsAdded o pay old new place outcome
  added place outcome old new num s e m =
      let act : Act = record { by = number; entry = entry_on o pay outcome } in
      let front : take (length w.acts) new.known ≡ w.acts = ap (take (length w.acts)) m.known ∙ take_front w.acts act in
      let is : b.history ≡ history_of o.base (take (length w.acts) new.known) = s.history ∙ ap (history_of o.base) (sym front) in
      record {
        at = length w.acts;
        place_is = let n = ap length s.history ∙ length-history_of o.base w.acts in let p = e.shows.3 in omega arith;
        past = prefix_length old.known w.acts m.before;
        there = subst (λ (l : List Act). slice_get l (length w.acts) ≡ Some record { by = old.number; entry = entry_on o pay outcome }) (sym m.known)
            (get_last w.acts act ∙ ap (λ (n : ℕ). Some record { by = n; entry = entry_on o pay outcome }) (sym num));
        decided = e.shows.4 ∙ (λ i. outcome_of (s.accounts i) (is i) pay);
        room = subst (λ (x : Chart × List Entry). ShowsRoom (record o { accounts = x.0 }) pay x.1) (λ i. (s.accounts i, is i))
            record { end = end_of b.file; end_is = e.place e.shows.0; room = e.shows.2 };
        alone = λ i a at past tag. ⊎_elim
            (λ (t : slice_get w.acts i ≡ Some a). let x = m.owed i a t past tag in absurd (cc (x.0)))
            (λ (t : (i ≡ length w.acts) × (act ≡ a)). t.0)
            (get_snoc w.acts act a i (subst (λ (l : List Act). slice_get l i ≡ Some a) m.known at));
      }

  -- what Full says
  full : (entries end need : ℕ) (old new : PassKnows) → Before → Entered (Err (Full entries end need)) → HasMet w w None old new → ShowsFull o pay (known_to o new) entries end need
  full entries end need old new s e m =
      let shows = e.shows in
      let is : b.history ≡ known_to o new = as_known old new None (Err (Full entries end need)) s m refl in
      subst (λ (x : Chart × List Entry). ShowsFull (record o { accounts = x.0 }) pay x.1 entries end need) (λ i. (s.accounts i, is i))
      record {
        new = shows.1;
        entries_are = shows.2;
        end_is = let p = e.place shows.0 in omega (arith, shows.3, p);
        need_is = shows.4;
        full = shows.5;
      }

  says_after : (answer : Answer) (old new : PassKnows) → old.number ≡ number → Before → Entered answer → MeetsAfter w (writer_after w number pay o.day answer) answer old new → Says o pay old new answer
  says_after (Ok (New place outcome)) old new num s e m = added place outcome old new num s e m
  says_after (Ok (Kept place outcome)) old new num s e m = (
    subst (λ (h : List Entry). (stands : StandsAt h pay place true) × (stands.entry.outcome ≡ outcome)) (as_known old new (Some place) (Ok (Kept place outcome)) s m refl) (e.shows.1, e.shows.2),
    none_past old new w.acts m.owed m.known,
  )
  says_after (Err (Conflict place)) old new num s e m = (
    subst (λ (h : List Entry). StandsAt h pay place false) (as_known old new None (Err (Conflict place)) s m refl) e.shows.1,
    none_past old new w.acts m.owed m.known,
  )
  says_after (Err (Full entries end need)) old new num s e m = (full entries end need old new s e m, none_past old new w.acts m.owed m.known)
  says_after (Err (DiskFault before after)) old new num s e m =
      let shows = e.shows in
      let at_open : disk.faults (disk_of b.file) ≡ b.at_open = subst (λ (f : Option Failed). Counts f b.at_open (disk.faults (disk_of b.file))) shows.0 s.counts in
      let missing = subst (λ (h : List Entry). entered_at pay.mir h ≡ None) (as_known old new None (Err (DiskFault before after)) s m refl) shows.1 in
      (shows.3 ∙ at_open ∙ s.at_open, shows.5, (let k = m.mark in omega arith), missing, none_past old new w.acts m.owed m.known, (let a = m.marked in let k = s.mark in omega (arith, s.at_open, at_open)))
  says_after (Err (Broken from now)) old new num s e m =
      let shows = e.shows in
      (shows.1 ∙ s.at_open, shows.3, (let k = m.mark in omega arith), none_past old new w.acts m.owed m.known)
  says_after (Err Memory) old new num s e m = tt

  -- where no commit had failed, the pass's mark isn't above the disk's count at the opening
  whole_after : (answer : Answer) (place : Option ℕ) (old new : PassKnows) → Before → Entered answer → HasMet w (writer_after w number pay o.day answer) place old new
      → (writer_after w number pay o.day answer).mark ≡ w.mark → is_of_whole answer ≡ true → new.mark ≤ o.at_open
  whole_after answer place old new s e m same is =
      let whole : b.failed ≡ None = was_whole answer e is in
      let now : disk.faults (disk_of b.file) ≡ b.at_open = subst (λ (f : Option Failed). Counts f b.at_open (disk.faults (disk_of b.file))) whole s.counts in
      let mark : new.mark ≡ w.mark = m.mark ∙ same in
      let most = s.mark in omega (arith, mark, now, s.at_open)
    where
      was_whole : (a : Answer) → Entered a → is_of_whole a ≡ true → b.failed ≡ None
      was_whole (Ok (New place outcome)) e is = e.shows.0
      was_whole (Ok (Kept place outcome)) e is = e.shows.0
      was_whole (Err (Conflict place)) e is = e.shows.0
      was_whole (Err (Full entries end need)) e is = e.shows.0
      was_whole (Err (DiskFault before after)) e is = absurd (cc (is))
      was_whole (Err (Broken from now)) e is = absurd (cc (is))
      was_whole (Err Memory) e is = absurd (cc (is))

  -- what a pass is told
  pub told_after : (answer : Answer) (old new : PassKnows) → old.number ≡ number → Before → After answer → Entered answer
      → MeetsAfter w (writer_after w number pay o.day answer) answer old new → Told o pay old answer new
  told_after (Ok (New place outcome)) old new num s s' e m = record {
    grows = λ _. grows_after (Ok (New place outcome)) (Some place) old new s' e m (record { by = number; entry = entry_on o pay outcome } ∷ [], refl);
    says = says_after (Ok (New place outcome)) old new num s e m;
    whole = λ _. whole_after (Ok (New place outcome)) (Some place) old new s e m refl refl;
    mine = m.mine;
    memory = λ same. absurd (cc (same));
  }
  told_after (Ok (Kept place outcome)) old new num s s' e m = record {
    grows = λ _. grows_after (Ok (Kept place outcome)) (Some place) old new s' e m (prefix_self w.acts);
    says = says_after (Ok (Kept place outcome)) old new num s e m;
    whole = λ _. whole_after (Ok (Kept place outcome)) (Some place) old new s e m refl refl;
    mine = m.mine;
    memory = λ same. absurd (cc (same));
  }
  told_after (Err (Conflict place)) old new num s s' e m = record {
    grows = λ _. grows_after (Err (Conflict place)) None old new s' e m (prefix_self w.acts);
    says = says_after (Err (Conflict place)) old new num s e m;
    whole = λ _. whole_after (Err (Conflict place)) None old new s e m refl refl;
    mine = m.mine;
    memory = λ same. absurd (cc (same));
  }
  told_after (Err (Full entries end need)) old new num s s' e m = record {
    grows = λ _. grows_after (Err (Full entries end need)) None old new s' e m (prefix_self w.acts);
    says = says_after (Err (Full entries end need)) old new num s e m;
    whole = λ _. whole_after (Err (Full entries end need)) None old new s e m refl refl;
    mine = m.mine;
    memory = λ same. absurd (cc (same));
  }
  told_after (Err (DiskFault before after)) old new num s s' e m = record {
    grows = λ _. grows_after (Err (DiskFault before after)) None old new s' e m (prefix_self w.acts);
    says = says_after (Err (DiskFault before after)) old new num s e m;
    whole = λ none. absurd (cc (none));
    mine = m.mine;
    memory = λ same. absurd (cc (same));
  }
  told_after (Err (Broken from now)) old new num s s' e m = record {
    grows = λ _. grows_after (Err (Broken from now)) None old new s' e m (prefix_self w.acts);
    says = says_after (Err (Broken from now)) old new num s e m;
    whole = λ none. absurd (cc (none));
    mine = m.mine;
    memory = λ same. absurd (cc (same));
  }
  told_after (Err Memory) old new num s s' e m = record {
    grows = λ (none : ⊥). absurd none;
    says = tt;
    whole = λ none. absurd (cc (none));
    mine = ap (λ (p : PassKnows). p.mine) m;
    memory = λ _. m ∙ ap (λ (p : PassKnows). record old { spare = p.spare }) (sym m);
  }

-- room alone doesn't matter
pub told_spare : (o : Opening) (pay : Pay) (old new : PassKnows) (spare : ℕ) (answer : Answer) → Told o pay (record old { spare = spare }) answer new → Told o pay old answer new
told_spare o pay old new spare answer t = record {
  grows = λ answered. let x = t.grows answered in record { number = x.number; known = x.known; seen = x.seen; looked = x.looked; legal = x.legal; mark = x.mark };
  says = says_spare answer t.says;
  whole = t.whole;
  mine = t.mine;
  memory = t.memory;
}
  where
    says_spare : (answer : Answer) → Says o pay (record old { spare = spare }) new answer → Says o pay old new answer
    says_spare (Ok (New place outcome)) x = record { at = x.at; place_is = x.place_is; past = x.past; there = x.there; decided = x.decided; room = x.room; alone = x.alone }
    says_spare (Ok (Kept place outcome)) x = x
    says_spare (Err (Conflict place)) x = x
    says_spare (Err (Full entries end need)) x = x
    says_spare (Err (DiskFault before after)) x = x
    says_spare (Err (Broken from now)) x = x
    says_spare (Err Memory) x = x
