-- What a batch leaves behind the lock, on the books' own disk.
use Rattle.std.proofs.Common.{◌≡◌, ◌⊎◌, ⊎_elim, inl, inr, ℕ, ◌<◌, ◌≤◌, All, Bool, true, false, List, [], ◌∷◌, length, replicate, Option, Some, None, Err, refl, ap, sym, ◌∙◌, subst, arith}
use Rattle.std.specs.Prelude.{IsSome, IsTrue}
use Rattle.std.specs.List.{list_any}
use Rattle.std.proofs.lemmas.Bool.{cases_lt, false_from_ne_true}
use Rattle.std.proofs.lemmas.List.{nil_from_length}
use Rattle.std.proofs.lemmas.List.Elements.{All-cons, All-nil}
use mathlib.Core.List.{IsPrefix}
use Rattle.atomic_table.specs.Seated.{TableId}
use Rattle.corr_disk.specs.Disk.{LeavesOnly}
use Rattle.corr_disk.specs.declared.disk.Disk as disks
use Rattle.corr_ids.specs.declared.day.Day.{Day}
use Rattle.day_model.specs.declared.entry.Entry.{Entry}
use Rattle.day_model.specs.declared.pay.Pay.{Pay}
use Rattle.day_model.specs.Chart.{Chart}
use Rattle.day_model.specs.Fit.{FitsAccounts}
use Rattle.day_model.specs.Legal.{IsLegal}
use Rattle.front_word.specs.Known.{WriterKnows, PassKnows}
use Rattle.front_word.specs.Rule.{IsNumber}
use Rattle.front_word.proofs.laws.Prefixes.{prefix_self, prefix_trans}
use Rattle.jrn_file.specs.File.{disk_of}
use Rattle.jrn_file.specs.declared.file.JFile.{JFile}
use Rattle.jrn_book.specs.Answers.{Answer}
use Rattle.jrn_book.specs.Batches.{AnswersInTurn, IsBeforeOrEntered, Stage, entered_of, is_memory, is_new}
use Rattle.jrn_book.specs.Book.{Book, Counts}
use Rattle.jrn_book.specs.CommitsAll.{stage_of}
use Rattle.jrn_book.specs.Journal.{StandsForBook}
use Rattle.jrn_book.specs.declared.answer.Failed.{Failed}
use Rattle.jrn_book.specs.declared.answer.CommitFault.TheVariants.{Memory}
use Rattle.jrn_book.proofs.laws.Rooms.{chain_entered}
use Rattle.corr_books.specs.inner.Entering.{EntersAll}
use Rattle.corr_books.specs.Moments.{LeavesSince, StandsBetween, StandsWithMore}
use Rattle.corr_books.specs.inner.Moments.{IsLeftInTurn}
use Rattle.corr_books.specs.Opening.{Opening}
use Rattle.corr_books.specs.Stand.{entries_of, history_of}
use Rattle.corr_books.specs.inner.Stand.{IsStand}
use Rattle.corr_books.specs.TellingAll.{AreUntried, IsBehind, NoneEntered, NoneTried, ToldAll, stops}
use Rattle.corr_books.specs.inner.TellingAll.{AreNextInTurn, MeetsInTurn}
use Rattle.corr_books.proofs.Batching.{Stands, Together, all_tried, as_many, broken_rest, failure_told, memory_rest, next_in_turn, some_longer, told_in_turn, told_none, tried_on}
use Rattle.corr_books.proofs.Booking.{told_spare}
use Rattle.corr_books.proofs.Grown.{GoesOn, entered_grows}
use Rattle.corr_books.proofs.Together.{none_entered, none_tried_all}
use Rattle.corr_books.proofs.laws.Moments.{leaves_next}

module _ {D : Type 0} (disk : disks.Ghosts D) (o : Opening) (past : ℕ → List ℕ → Type 0) (purses : TableId) (b b' : Book D) (w : WriterKnows) (pays : List Pay) (answers : List Answer)
    (s : IsStand disk o past purses record { book = b; writer = w; day = o.day }) (fits : All (FitsAccounts o.accounts) pays)
    (e : EntersAll disk o.day b b' pays answers) where
  -- the stage of the books before and after
  abbrev pub first : Stage
  first = stage_of b (disk.faults (disk_of b.file))

  abbrev pub last : Stage
  last = stage_of b' (disk.faults (disk_of b'.file))

  -- the answers, by what the name of the books names
  pub chain : AnswersInTurn o.accounts o.day (length pays) o.at_open first pays answers last
  chain = subst (λ (x : Chart × ℕ). AnswersInTurn x.0 o.day (length pays) x.1 first pays answers last) (λ i. (s.accounts i, s.at_open i)) e.each

  pub is_legal : IsLegal o.accounts b.history
  is_legal = subst (λ (c : Chart). IsLegal c b.history) s.accounts e.legal

  pub together : Together answers
  together some = (e.no_memory some).2

  -- at first all stands as if on another disk
  pub stands_first : Stands o past purses w first
  stands_first = record {
    accounts = refl;
    purses_are = refl;
    at_open = refl;
    honest = refl;
    day = refl;
    word = s.word;
    base = s.base;
    made = s.made;
    owed = s.owed;
    back = s.back;
    history = s.history;
    tags = s.tags;
    century = s.century;
    latest = s.latest;
    some = s.some;
    failed = s.failed;
    counts = subst (λ (n : ℕ). Counts b.failed n (disk.faults (disk_of b.file))) s.at_open s.counts;
    mark = s.mark;
    crash = λ honest. ([], record { later = omega arith; each = λ image left. absurd left; before = λ t image le left. absurd left });
  }

  -- what a crash since the opening leaves now
  abbrev Crash : Type 0
  Crash = (more : List Entry) × LeavesSince disk o past (disk_of b'.file) (IsLeftInTurn o.accounts o.base b'.history b'.failed more)

  -- nothing changed
  crash_same : IsTrue o.honest → b'.file ≡ b.file → b'.history ≡ b.history → b'.failed ≡ b.failed → Crash
  crash_same honest file history failed =
      subst (λ (x : JFile D × (List Entry × Option Failed)). (more : List Entry) × LeavesSince disk o past (disk_of x.0) (IsLeftInTurn o.accounts o.base x.1.0 x.1.1 more)) (λ i. (sym file i, (sym history i, sym failed i))) (s.crash honest)

  -- the books were whole
  module _ (honest : IsTrue o.honest) (whole : b.failed ≡ None) where
    goes_on : IsPrefix o.base b.history
    goes_on = let log : IsPrefix o.base (history_of o.base w.acts) = (entries_of w.acts, refl) in subst (IsPrefix o.base) (sym s.history) log

    -- what a crash left before the batch
    left_before : LeavesSince disk o past (disk_of b.file) (StandsBetween o.accounts o.base b.history)
    left_before =
        let was = s.crash honest in
        subst (λ (f : Option Failed). LeavesSince disk o past (disk_of b.file) (IsLeftInTurn o.accounts o.base b.history f was.0)) whole was.1

    -- and within it
    left_within : LeavesOnly disk.moment disk.left_since (disk_of b.file) (disk_of b'.file) (IsBeforeOrEntered o.accounts b.history pays o.day)
    left_within =
        subst (λ (c : Chart). LeavesOnly disk.moment disk.left_since (disk_of b.file) (disk_of b'.file) (IsBeforeOrEntered c b.history pays o.day)) s.accounts
        (e.any_moment whole (subst IsTrue (sym s.honest) honest))

    abbrev Entered : List Entry
    Entered = entered_of o.accounts b.history pays o.day

    grown : GoesOn o.accounts b.history o.day (length pays) Entered
    grown = entered_grows o.accounts o.day b.history pays is_legal fits s.latest

    -- the pays were entered
    crash_entered : b'.history ≡ Entered → LeavesSince disk o past (disk_of b'.file) (StandsBetween o.accounts o.base b'.history)
    crash_entered is =
        let more : IsPrefix b.history b'.history = (grown.more, sym (is ∙ grown.is)) in
        leaves_next disk o past (disk_of b.file) (disk_of b'.file) (StandsBetween o.accounts o.base b.history) (IsBeforeOrEntered o.accounts b.history pays o.day) (StandsBetween o.accounts o.base b'.history)
        left_before left_within
        (λ image x. record { history = x.history; goes_on = x.goes_on; begins = prefix_trans x.history b.history b'.history x.begins more; stands = x.stands })
        (λ image x. ⊎_elim
        (λ (y : StandsForBook image o.accounts b.history). record { history = b.history; goes_on = goes_on; begins = more; stands = y })
        (λ (y : StandsForBook image o.accounts Entered). record {
          history = b'.history;
          goes_on = prefix_trans o.base b.history b'.history goes_on more;
          begins = prefix_self b'.history;
          stands = subst (λ (h : List Entry). StandsForBook image o.accounts h) (sym is) y;
        })
        x)

    -- the disk failed
    crash_failed : b'.history ≡ b.history → b'.failed ≡ Some record { day = o.day; most = length pays } → Crash
    crash_failed same failed =
        let Left : List Entry → List ℕ → Type 0 = λ h image. StandsBetween o.accounts o.base h image ⊎ StandsWithMore o.accounts h o.day (length pays) grown.more image in
        let here : LeavesSince disk o past (disk_of b'.file) (Left b.history) =
        leaves_next disk o past (disk_of b.file) (disk_of b'.file) (StandsBetween o.accounts o.base b.history) (IsBeforeOrEntered o.accounts b.history pays o.day) (Left b.history)
        left_before left_within
        (λ image x. inl x)
        (λ image x. ⊎_elim
        (λ (y : StandsForBook image o.accounts b.history). inl (record { history = b.history; goes_on = goes_on; begins = prefix_self b.history; stands = y }))
        (λ (y : StandsForBook image o.accounts Entered). inr (record {
          few = grown.few;
          of_day = grown.of_day;
          legal = grown.legal;
          stands = subst (λ (h : List Entry). StandsForBook image o.accounts h) grown.is y;
        }))
        x) in
        (grown.more, subst (λ (x : List Entry × Option Failed). LeavesSince disk o past (disk_of b'.file) (IsLeftInTurn o.accounts o.base x.0 x.1 grown.more)) (λ i. (sym same i, sym failed i)) here)

    by_memory : b'.failed ≡ None → (t : Bool) → list_any is_memory answers ≡ t → Crash
    by_memory whole_then true some = let rest = e.no_memory some in crash_same honest rest.1 rest.0 (whole_then ∙ sym whole)
    by_memory whole_then false none =
        let tried = all_tried o.accounts o.day (length pays) o.at_open pays answers first last whole_then none chain in
        let entered = chain_entered o.accounts o.day (length pays) o.at_open first last pays answers is_legal.changes.by_now chain tried in
        ([], subst (λ (f : Option Failed). LeavesSince disk o past (disk_of b'.file) (IsLeftInTurn o.accounts o.base b'.history f [])) (sym whole_then) (crash_entered entered))

    by_failure : (f : Option Failed) → b'.failed ≡ f → Crash
    by_failure (Some failed) is =
        let told = failure_told o.accounts o.day (length pays) o.at_open pays answers first last failed whole is chain in
        crash_failed (e.together told.0) told.1
    by_failure None whole_then = by_memory whole_then (list_any is_memory answers) refl

  crash : IsTrue o.honest → (f : Option Failed) → b.failed ≡ f → Crash
  crash honest (Some failed) is =
      let broken : IsSome b.failed = subst (λ (f : Option Failed). IsSome f) (sym is) refl in
      let rest = broken_rest o.accounts o.day (length pays) o.at_open pays answers first last broken chain in
      crash_same honest (e.file rest.none_new rest.none_failed) (ap (λ (x : Stage). x.history) rest.same) (ap (λ (x : Stage). x.failed) rest.same)
  crash honest None whole = by_failure honest whole b'.failed refl

  -- where a batch stops no pay of it was entered
  still_then : b.failed ≡ None → list_any stops answers ≡ true → (f : Option Failed) → b'.failed ≡ f → list_any is_new answers ≡ false
  still_then whole stop (Some failed) is =
      let told = failure_told o.accounts o.day (length pays) o.at_open pays answers first last failed whole is chain in
      let same = ap (λ (h : List Entry). length h) (e.together told.0) in
      false_from_ne_true (list_any is_new answers) (λ some. let longer = some_longer o.accounts o.day (length pays) o.at_open pays answers first last some chain in omega (arith, same, longer))
  still_then whole stop None whole_then = by_want (list_any is_memory answers) refl
    where
      by_want : (t : Bool) → list_any is_memory answers ≡ t → list_any is_new answers ≡ false
      by_want true some = (memory_rest o.accounts o.day (length pays) o.at_open pays answers first last (e.no_memory some).2 chain).none_new
      by_want false none =
          absurd (let on = tried_on answers (all_tried o.accounts o.day (length pays) o.at_open pays answers first last whole_then none chain) in cc (on, stop))

  still_all : list_any stops answers ≡ true → (f : Option Failed) → b.failed ≡ f → list_any is_new answers ≡ false
  still_all stop (Some failed) is =
      let broken : IsSome b.failed = subst (λ (f : Option Failed). IsSome f) (sym is) refl in
      (broken_rest o.accounts o.day (length pays) o.at_open pays answers first last broken chain).none_new
  still_all stop None whole = still_then whole stop b'.failed refl

  -- what holds wherever the lock is free holds again
  stand_after_all : (w' : WriterKnows) → Stands o past purses w' last → IsStand disk o past purses record { book = b'; writer = w'; day = o.day }
  stand_after_all w' t = record {
    accounts = e.accounts ∙ s.accounts;
    purses_are = e.table ∙ s.purses_are;
    at_open = e.at_open ∙ s.at_open;
    honest = e.honest ∙ s.honest;
    day = refl;
    word = t.word;
    base = t.base;
    made = t.made;
    owed = t.owed;
    back = t.back;
    history = t.history;
    tags = t.tags;
    century = t.century;
    latest = t.latest;
    some = t.some;
    failed = t.failed;
    counts = subst (λ (n : ℕ). Counts b'.failed n (disk.faults (disk_of b'.file))) (sym (e.at_open ∙ s.at_open)) t.counts;
    mark = t.mark;
    crash = λ honest. crash honest b.failed refl;
  }

  -- each place that is new is the next one of the writer's then
  pub next_all : (number : ℕ) → length pays ≤ o.most → IsNumber o.made number → AreNextInTurn w number pays o.day answers
  next_all number within by =
      ⊎_elim
      (λ (some : 0 < length pays). next_in_turn o past purses number (length pays) (omega (arith, some)) within by pays answers w first last stands_first is_legal fits e.later chain)
      (λ (le : length pays ≤ 0). subst (λ (ps : List Pay). AreNextInTurn w number ps o.day answers) (sym (nil_from_length pays (omega (arith, le)))) tt)
      (cases_lt 0 (length pays))

  -- what the pass is told of all, and what stands at the end as if on another disk
  ends_all : (number : ℕ) (old new : PassKnows) (w' : WriterKnows) → length pays ≤ o.most → IsNumber o.made number → old.number ≡ number → MeetsInTurn w number pays o.day answers old w' new
      → ToldAll o pays old answers new × Stands o past purses w' last
  ends_all number old new w' within by num met =
      ⊎_elim
      (λ (some : 0 < length pays).
      told_in_turn o past purses number (length pays) (omega (arith, some)) within by pays answers w w' first last old new stands_first is_legal fits e.later chain together num met)
      (λ (le : length pays ≤ 0).
      let none : pays ≡ [] = nil_from_length pays (omega (arith, le)) in
      subst (λ (ps : List Pay). ToldAll o ps old answers new × Stands o past purses w' last) (sym none)
      (told_none o past purses number (length pays) answers w w' first last old new stands_first
      (subst (λ (ps : List Pay). AnswersInTurn o.accounts o.day (length pays) o.at_open first ps answers last) none chain)
      (subst (λ (ps : List Pay). MeetsInTurn w number ps o.day answers old w' new) none met)))
      (cases_lt 0 (length pays))

-- Of books that have the day of their name.
module _ {D : Type 0} (disk : disks.Ghosts D) (o : Opening) (past : ℕ → List ℕ → Type 0) (purses : TableId) (b b' : Book D) (w : WriterKnows) (day : Day) (pays : List Pay) (answers : List Answer)
    (s : IsStand disk o past purses record { book = b; writer = w; day = day }) (fits : All (FitsAccounts o.accounts) pays) (e : EntersAll disk day b b' pays answers) where
  of_day : IsStand disk o past purses record { book = b; writer = w; day = o.day }
  of_day = subst (λ (d : Day). IsStand disk o past purses record { book = b; writer = w; day = d }) s.day s

  enters : EntersAll disk o.day b b' pays answers
  enters = subst (λ (d : Day). EntersAll disk d b b' pays answers) s.day e

  -- there are as many answers as pays
  pub many_answers : length answers ≡ length pays
  many_answers =
      as_many b.accounts day (length pays) b.at_open pays answers (stage_of b (disk.faults (disk_of b.file))) (stage_of b' (disk.faults (disk_of b'.file))) e.each

  pub next_places : (number : ℕ) → length pays ≤ o.most → IsNumber o.made number → AreNextInTurn w number pays day answers
  next_places number within by =
      subst (λ (d : Day). AreNextInTurn w number pays d answers) (sym s.day) (next_all disk o past purses b b' w pays answers of_day fits enters number within by)

  -- where a batch stops none of its pays was entered
  pub all_entered : (old new : PassKnows) → ToldAll o pays old answers new → list_any stops answers ≡ true → NoneEntered old new answers
  all_entered old new told stop = none_entered o pays answers old new told (still_all disk o past purses b b' w pays answers of_day fits enters stop b.failed refl)

  -- and where there is no memory none was tried
  pub all_wanted : (old new : PassKnows) → ToldAll o pays old answers new → list_any is_memory answers ≡ true → NoneTried old new answers
  all_wanted old new told some = none_tried_all o pays answers old new told some (e.no_memory some).2

  -- what the pass is told, and what stands behind the lock again
  pub booked_all : (old new : PassKnows) (w' : WriterKnows) → length pays ≤ o.most → IsNumber o.made old.number → MeetsInTurn w old.number pays day answers old w' new
      → ToldAll o pays old answers new × IsStand disk o past purses record { book = b'; writer = w'; day = day }
  booked_all old new w' within by met =
      let met_then = subst (λ (d : Day). MeetsInTurn w old.number pays d answers old w' new) s.day met in
      let ends = ends_all disk o past purses b b' w pays answers of_day fits enters old.number old new w' within by refl met_then in (
        ends.0,
        subst (λ (d : Day). IsStand disk o past purses record { book = b'; writer = w'; day = d }) (sym s.day) (stand_after_all disk o past purses b b' w pays answers of_day fits enters w' ends.1),
      )

-- room alone doesn't matter
pub told_all_spare : (o : Opening) (pays : List Pay) (old new : PassKnows) (spare : ℕ) (answers : List Answer) → (pays ≡ [] → record old { spare = spare } ≡ old)
    → ToldAll o pays (record old { spare = spare }) answers new → ToldAll o pays old answers new
told_all_spare o [] old new spare [] same told = told ∙ same refl
told_all_spare o [] old new spare (a ∷ answers) same told = told
told_all_spare o (pay ∷ pays) old new spare [] same told = told
told_all_spare o (pay ∷ pays) old new spare (a ∷ answers) same told = (told.0, told_spare o pay old told.0 spare a told.1, told.2)

-- where there is no memory for as many pays none is tried
none_tried : (o : Opening) (p : PassKnows) (pays : List Pay) → AreUntried o p (Err Memory) pays (replicate (length pays) (Err Memory))
none_tried o p [] = record { each = All-nil (IsBehind o.at_open p.mark (Err Memory)); many = refl }
none_tried o p (pay ∷ pays) =
    let rest = none_tried o p pays in
    record {
      each = All-cons (IsBehind o.at_open p.mark (Err Memory)) (Err Memory) (replicate (length pays) (Err Memory)) refl rest.each;
      many = let many = rest.many in omega (arith, many);
    }

-- and the pass is as it was
pub told_memory : (o : Opening) (pays : List Pay) (p : PassKnows) → ToldAll o pays p (replicate (length pays) (Err Memory)) p
told_memory o [] p = refl
told_memory o (pay ∷ pays) p = (
  p,
  record { grows = λ (none : ⊥). absurd none; says = tt; whole = λ none. absurd (cc (none)); mine = refl; memory = λ _. refl },
  (refl, none_tried o p pays),
)
