-- Answers to a batch, one after another: what they leave behind the lock, and what the pass shows of them.
use Rattle.std.proofs.Common.{◌≡◌, ℕ, ◌+◌, ◌<◌, ◌≤◌, All, Bool, true, false, List, [], ◌∷◌, length, Option, Some, None, Ok, Err, refl, ap, sym, ◌∙◌, subst, arith, length-append}
use Rattle.std.specs.Prelude.{IsSome}
use Rattle.std.specs.List.{list_all, list_any}
use Rattle.std.proofs.lemmas.Bool.{and_parts, or_from, or_right}
use Rattle.std.proofs.lemmas.List.Elements.{All-cons, All-head, All-nil, All-tail}
use Rattle.atomic_table.specs.Seated.{TableId}
use Rattle.corr_disk.specs.declared.disk.Disk as disks
use Rattle.corr_ids.specs.declared.day.Day.{Day}
use Rattle.day_model.specs.declared.entry.Entry.{Entry}
use Rattle.day_model.specs.declared.entry.Outcome.{Outcome}
use Rattle.day_model.specs.declared.pay.Pay.{Pay}
use Rattle.day_model.specs.Chart.{Chart}
use Rattle.day_model.specs.Fit.{FitsAccounts}
use Rattle.day_model.specs.Laws.{IsLatest}
use Rattle.day_model.specs.Legal.{IsLegal}
use Rattle.day_model.specs.Next.{entry_of}
use Rattle.day_model.proofs.laws.Growth.{stays_legal}
use Rattle.front_word.specs.Known.{WriterKnows, PassKnows}
use Rattle.front_word.specs.Rule.{IsNumber}
use Rattle.jrn_book.specs.Answers.{Answer, AnswerShows, calls_disk, history_after}
use Rattle.jrn_book.specs.Batches.{AnswersInTurn, Stage, gate_of, is_disk_fault, is_memory, is_new, stage_after}
use Rattle.jrn_book.specs.inner.Batches.{is_tried}
use Rattle.jrn_book.specs.Book.{Book}
use Rattle.jrn_book.specs.declared.answer.Failed.{Failed}
use Rattle.jrn_book.specs.declared.answer.Committed.TheVariants.{New, Kept}
use Rattle.jrn_book.specs.declared.answer.CommitFault.TheVariants.{Conflict, Full, DiskFault, Broken, Memory}
use Rattle.jrn_book.proofs.laws.Sizes.{gate_place}
use Rattle.corr_books.specs.inner.Entering.{Enters}
use Rattle.corr_books.specs.inner.Meeting.{IsNext, MeetsAfter, writer_after}
use Rattle.corr_books.specs.Opening.{Opening}
use Rattle.corr_books.specs.inner.Stand.{IsStand}
use Rattle.corr_books.specs.Telling.{Told}
use Rattle.corr_books.specs.TellingAll.{AreUntried, IsBehind, OneOf, TellsOfRise, ToldAll, stops}
use Rattle.corr_books.specs.inner.TellingAll.{AreNextInTurn, MeetsInTurn}
use Rattle.corr_books.proofs.Booking.{kept_history, new_history, next_place, stand_after, told_after}

-- A disk of which nothing is told but its count of faults, and of which a crash leaves nothing. Between the answers of a batch books
-- are as if on such a disk.
abbrev pub counter : Opening → disks.Ghosts ℕ
counter o = record {
  honest = λ n. o.honest;
  reads = λ n. [];
  may_leave = λ n image. ⊥;
  moment = λ n. o.since;
  left_since = λ n t image. ⊥;
  faults = λ n. n;
  plan = λ n k. None;
}

-- no answer of several entered a pay, and none tells of a failure of the disk; each of them says this, and nothing changed
pub record ChangeNothing (P : Answer → Type 0) (pays : List Pay) (answers : List Answer) (stage last : Stage) : Type 0 where
  pub each : All P answers
  pub many : length answers ≡ length pays
  pub none_new : list_any is_new answers ≡ false
  pub none_failed : list_any is_disk_fault answers ≡ false
  pub same : last ≡ stage

-- want of memory comes for all pays of a batch, or for none
abbrev pub Together : List Answer → Type 0
Together answers = list_any is_memory answers ≡ true → list_all is_memory answers ≡ true

together_behind : (answer : Answer) (answers : List Answer) → Together (answer ∷ answers) → Together answers
together_behind answer answers all some = (and_parts (is_memory answer) (list_all is_memory answers) (all (or_right (is_memory answer) (list_any is_memory answers) some))).1

-- where each pay was tried no answer stops the batch
pub tried_on : (answers : List Answer) → list_all is_tried answers ≡ true → list_any stops answers ≡ false
tried_on [] tried = refl
tried_on (Ok committed ∷ answers) tried = tried_on answers (and_parts (is_tried (Ok committed)) (list_all is_tried answers) tried).1
tried_on (Err (Conflict place) ∷ answers) tried = tried_on answers (and_parts (is_tried (Err (Conflict place))) (list_all is_tried answers) tried).1
tried_on (Err (Full entries end need) ∷ answers) tried = tried_on answers (and_parts (is_tried (Err (Full entries end need))) (list_all is_tried answers) tried).1
tried_on (Err (DiskFault before after) ∷ answers) tried = absurd (cc (tried))
tried_on (Err (Broken from now) ∷ answers) tried = absurd (cc (tried))
tried_on (Err Memory ∷ answers) tried = absurd (cc (tried))

module _ (chart : Chart) (day : Day) (most at_open : ℕ) where
  -- what an answer tells by a stage, with this count of faults then
  abbrev Shows : Stage → Pay → Answer → ℕ → Type 0
  Shows stage pay answer now = AnswerShows chart stage.history pay day (gate_of chart stage.history) stage.failed at_open stage.faults now answer

  abbrev Chain : Stage → List Pay → List Answer → Stage → Type 0
  Chain stage pays answers last = AnswersInTurn chart day most at_open stage pays answers last

  abbrev next_stage : Stage → Pay → Answer → ℕ → Stage
  next_stage stage pay answer now = stage_after chart day most stage pay answer now

  -- nothing follows
  nothing : (P : Answer → Type 0) (stage last : Stage) → last ≡ stage → ChangeNothing P [] [] stage last
  nothing P stage last same = record { each = All-nil P; many = refl; none_new = refl; none_failed = refl; same = same }

  -- one more answer that changes nothing
  one_nothing : (P : Answer → Type 0) (pay : Pay) (answer : Answer) (pays : List Pay) (answers : List Answer) (stage last : Stage) → P answer → is_new answer ≡ false → is_disk_fault answer ≡ false
      → ChangeNothing P pays answers stage last → ChangeNothing P (pay ∷ pays) (answer ∷ answers) stage last
  one_nothing P pay answer pays answers stage last says new failed rest = record {
    each = All-cons P answer answers says rest.each;
    many = let many = rest.many in omega (arith, many);
    none_new = or_from (is_new answer) (list_any is_new answers) new rest.none_new;
    none_failed = or_from (is_disk_fault answer) (list_any is_disk_fault answers) failed rest.none_failed;
    same = rest.same;
  }

  -- a whole book isn't a broken one
  not_whole : {P : Type 0} (stage : Stage) → IsSome stage.failed → stage.failed ≡ None → P
  not_whole stage some none = absurd (let no : IsSome {T = Failed} None = subst (λ (f : Option Failed). IsSome f) none some in cc (no))

  -- where a commit failed all that follows is Broken, with the disk's count then
  broken_by : (mark : ℕ) (pays : List Pay) (answers : List Answer) (stage last : Stage) → stage.faults ≤ mark → IsSome stage.failed → Chain stage pays answers last
      → ChangeNothing (TellsOfRise at_open mark) pays answers stage last
  broken_by mark [] [] stage last le some chain = nothing (TellsOfRise at_open mark) stage last chain
  broken_by mark [] (a ∷ answers) stage last le some chain = absurd chain
  broken_by mark (pay ∷ pays) [] stage last le some chain = absurd chain
  broken_by mark (pay ∷ pays) (Ok (New place outcome) ∷ answers) stage last le some chain = not_whole stage some chain.1.0
  broken_by mark (pay ∷ pays) (Ok (Kept place outcome) ∷ answers) stage last le some chain = not_whole stage some chain.1.0
  broken_by mark (pay ∷ pays) (Err (Conflict place) ∷ answers) stage last le some chain = not_whole stage some chain.1.0
  broken_by mark (pay ∷ pays) (Err (Full entries end need) ∷ answers) stage last le some chain = not_whole stage some chain.1.0
  broken_by mark (pay ∷ pays) (Err (DiskFault before after) ∷ answers) stage last le some chain = not_whole stage some chain.1.0
  broken_by mark (pay ∷ pays) (Err Memory ∷ answers) stage last le some chain = not_whole stage some chain.1.0
  broken_by mark (pay ∷ pays) (Err (Broken from now) ∷ answers) stage last le some chain =
      let is : now ≡ chain.0 = chain.1.2 in
      let same : chain.0 ≡ stage.faults = chain.1.4 in
      one_nothing (TellsOfRise at_open mark) pay (Err (Broken from now)) pays answers stage last (chain.1.1, chain.1.3, omega (arith, is, same, le)) refl refl
      (subst (λ (n : ℕ). ChangeNothing (TellsOfRise at_open mark) pays answers (record { history = stage.history; failed = stage.failed; faults = n }) last) same
      (broken_by mark pays answers (next_stage stage pay (Err (Broken from now)) chain.0) last (omega (arith, same, le)) some chain.2))

  pub broken_rest : (pays : List Pay) (answers : List Answer) (stage last : Stage) → IsSome stage.failed → Chain stage pays answers last
      → ChangeNothing (TellsOfRise at_open stage.faults) pays answers stage last
  broken_rest pays answers stage last some chain = broken_by stage.faults pays answers stage last (omega arith) some chain

  -- and where there is no memory for any
  pub memory_rest : (pays : List Pay) (answers : List Answer) (stage last : Stage) → list_all is_memory answers ≡ true → Chain stage pays answers last
      → ChangeNothing (λ answer. answer ≡ Err Memory) pays answers stage last
  memory_rest [] [] stage last all chain = nothing (λ (answer : Answer). answer ≡ Err Memory) stage last chain
  memory_rest [] (a ∷ answers) stage last all chain = absurd chain
  memory_rest (pay ∷ pays) [] stage last all chain = absurd chain
  memory_rest (pay ∷ pays) (Ok committed ∷ answers) stage last all chain = absurd (cc (all))
  memory_rest (pay ∷ pays) (Err (Conflict place) ∷ answers) stage last all chain = absurd (cc (all))
  memory_rest (pay ∷ pays) (Err (Full entries end need) ∷ answers) stage last all chain = absurd (cc (all))
  memory_rest (pay ∷ pays) (Err (DiskFault before after) ∷ answers) stage last all chain = absurd (cc (all))
  memory_rest (pay ∷ pays) (Err (Broken from now) ∷ answers) stage last all chain = absurd (cc (all))
  memory_rest (pay ∷ pays) (Err Memory ∷ answers) stage last all chain =
      one_nothing (λ (answer : Answer). answer ≡ Err Memory) pay (Err Memory) pays answers stage last refl refl refl
      (subst (λ (n : ℕ). ChangeNothing (λ (answer : Answer). answer ≡ Err Memory) pays answers (record { history = stage.history; failed = stage.failed; faults = n }) last) chain.1.1
      (memory_rest pays answers (next_stage stage pay (Err Memory) chain.0) last (and_parts (is_memory (Err Memory)) (list_all is_memory answers) all).1 chain.2))

  -- behind an answer that stops a batch nothing changes, and each answer says so
  stopped : (mark : ℕ) (answer : Answer) (pay : Pay) (pays : List Pay) (answers : List Answer) (stage last : Stage) (now : ℕ) → stops answer ≡ true → (is_memory answer ≡ false → now ≤ mark)
      → Shows stage pay answer now → Together (answer ∷ answers) → Chain (next_stage stage pay answer now) pays answers last
      → ChangeNothing (IsBehind at_open mark answer) pays answers (next_stage stage pay answer now) last
  stopped mark (Ok committed) pay pays answers stage last now stop marks shows all chain = absurd (cc (stop))
  stopped mark (Err (Conflict place)) pay pays answers stage last now stop marks shows all chain = absurd (cc (stop))
  stopped mark (Err (Full entries end need)) pay pays answers stage last now stop marks shows all chain = absurd (cc (stop))
  stopped mark (Err (DiskFault before after)) pay pays answers stage last now stop marks shows all chain =
      broken_by mark pays answers (next_stage stage pay (Err (DiskFault before after)) now) last (marks refl) refl chain
  stopped mark (Err (Broken from to)) pay pays answers stage last now stop marks shows all chain =
      broken_by mark pays answers (next_stage stage pay (Err (Broken from to)) now) last (marks refl) shows.0 chain
  stopped mark (Err Memory) pay pays answers stage last now stop marks shows all chain =
      memory_rest pays answers (next_stage stage pay (Err Memory) now) last (and_parts (is_memory (Err Memory)) (list_all is_memory answers) (all refl)).1 chain

  -- the count of faults doesn't fall, where it is no less at the end than it was
  now_later : (answer : Answer) (pay : Pay) (pays : List Pay) (answers : List Answer) (stage last : Stage) (now : ℕ) → Shows stage pay answer now
      → Chain (next_stage stage pay answer now) pays answers last → stage.faults ≤ last.faults → (stage.faults ≤ now) × (now ≤ last.faults)
  now_later (Ok (New place outcome)) pay pays answers stage last now shows chain le = (omega (arith, shows.5), omega (arith, shows.5, le))
  now_later (Ok (Kept place outcome)) pay pays answers stage last now shows chain le = (omega (arith, shows.3), omega (arith, shows.3, le))
  now_later (Err (Conflict place)) pay pays answers stage last now shows chain le = (omega (arith, shows.2), omega (arith, shows.2, le))
  now_later (Err (Full entries end need)) pay pays answers stage last now shows chain le = (omega (arith, shows.6), omega (arith, shows.6, le))
  now_later (Err (DiskFault before after)) pay pays answers stage last now shows chain le =
      let same : last.faults ≡ now = ap (λ (s : Stage). s.faults) (broken_rest pays answers (next_stage stage pay (Err (DiskFault before after)) now) last refl chain).same in
      (omega (arith, same, le), omega (arith, same))
  now_later (Err (Broken from to)) pay pays answers stage last now shows chain le = (omega (arith, shows.4), omega (arith, shows.4, le))
  now_later (Err Memory) pay pays answers stage last now shows chain le = (omega (arith, shows.1), omega (arith, shows.1, le))

  -- an answer leaves a legal history
  legal_after : (answer : Answer) (pay : Pay) (stage : Stage) (now : ℕ) → IsLegal chart stage.history → FitsAccounts chart pay → IsLatest stage.history day → Shows stage pay answer now
      → IsLegal chart (history_after chart stage.history pay day answer)
  legal_after (Ok (New place outcome)) pay stage now legal fits latest shows = stays_legal chart stage.history pay legal fits day latest shows.2.entries
  legal_after (Ok (Kept place outcome)) pay stage now legal fits latest shows = subst (IsLegal chart) (sym (kept_history chart stage.history pay day place shows.1.first)) legal
  legal_after (Err fault) pay stage now legal fits latest shows = legal

  -- without a failure and without want of memory each pay was tried
  pub all_tried : (pays : List Pay) (answers : List Answer) (stage last : Stage) → last.failed ≡ None → list_any is_memory answers ≡ false → Chain stage pays answers last → list_all is_tried answers ≡ true
  all_tried [] [] stage last whole none chain = refl
  all_tried [] (a ∷ answers) stage last whole none chain = absurd chain
  all_tried (pay ∷ pays) [] stage last whole none chain = absurd chain
  all_tried (pay ∷ pays) (Ok (New place outcome) ∷ answers) stage last whole none chain = all_tried pays answers (next_stage stage pay (Ok (New place outcome)) chain.0) last whole none chain.2
  all_tried (pay ∷ pays) (Ok (Kept place outcome) ∷ answers) stage last whole none chain = all_tried pays answers (next_stage stage pay (Ok (Kept place outcome)) chain.0) last whole none chain.2
  all_tried (pay ∷ pays) (Err (Conflict place) ∷ answers) stage last whole none chain = all_tried pays answers (next_stage stage pay (Err (Conflict place)) chain.0) last whole none chain.2
  all_tried (pay ∷ pays) (Err (Full entries end need) ∷ answers) stage last whole none chain =
      all_tried pays answers (next_stage stage pay (Err (Full entries end need)) chain.0) last whole none chain.2
  all_tried (pay ∷ pays) (Err (DiskFault before after) ∷ answers) stage last whole none chain =
      let next = next_stage stage pay (Err (DiskFault before after)) chain.0 in
      let same : last ≡ next = (broken_rest pays answers next last refl chain.2).same in
      not_whole next refl (ap (λ (s : Stage). s.failed) (sym same) ∙ whole)
  all_tried (pay ∷ pays) (Err (Broken from now) ∷ answers) stage last whole none chain =
      let next = next_stage stage pay (Err (Broken from now)) chain.0 in
      let same : last ≡ next = (broken_rest pays answers next last chain.1.0 chain.2).same in
      not_whole next chain.1.0 (ap (λ (s : Stage). s.failed) (sym same) ∙ whole)
  all_tried (pay ∷ pays) (Err Memory ∷ answers) stage last whole none chain = absurd (cc (none))

  -- a pay that is entered adds one
  one_longer : (place : ℕ) (outcome : Outcome) (pay : Pay) (stage : Stage) (now : ℕ) → Shows stage pay (Ok (New place outcome)) now
      → length (history_after chart stage.history pay day (Ok (New place outcome))) ≡ length stage.history + 1
  one_longer place outcome pay stage now shows =
      ap (λ (h : List Entry). length h) (new_history chart stage.history pay day shows.1) ∙ length-append stage.history (entry_of chart stage.history pay day ∷ [])

  -- an answer takes no entry away
  not_shorter : (answer : Answer) (pay : Pay) (stage : Stage) (now : ℕ) → Shows stage pay answer now → length stage.history ≤ length (history_after chart stage.history pay day answer)
  not_shorter (Ok (New place outcome)) pay stage now shows = let longer = one_longer place outcome pay stage now shows in omega (arith, longer)
  not_shorter (Ok (Kept place outcome)) pay stage now shows =
      let same = ap (λ (h : List Entry). length h) (kept_history chart stage.history pay day place shows.1.first) in omega (arith, same)
  not_shorter (Err fault) pay stage now shows = omega arith

  -- nor do several
  none_shorter : (pays : List Pay) (answers : List Answer) (stage last : Stage) → Chain stage pays answers last → length stage.history ≤ length last.history
  none_shorter [] [] stage last chain = let same = ap (λ (s : Stage). length s.history) chain in omega (arith, same)
  none_shorter [] (a ∷ answers) stage last chain = absurd chain
  none_shorter (pay ∷ pays) [] stage last chain = absurd chain
  none_shorter (pay ∷ pays) (answer ∷ answers) stage last chain =
      let first = not_shorter answer pay stage chain.0 chain.1 in
      let rest = none_shorter pays answers (next_stage stage pay answer chain.0) last chain.2 in
      omega (arith, first, rest)

  -- where one was entered the history is longer
  pub some_longer : (pays : List Pay) (answers : List Answer) (stage last : Stage) → list_any is_new answers ≡ true → Chain stage pays answers last → length stage.history < length last.history
  some_longer [] [] stage last some chain = absurd (cc (some))
  some_longer [] (a ∷ answers) stage last some chain = absurd chain
  some_longer (pay ∷ pays) [] stage last some chain = absurd chain
  some_longer (pay ∷ pays) (Ok (New place outcome) ∷ answers) stage last some chain =
      let first = one_longer place outcome pay stage chain.0 chain.1 in
      let rest = none_shorter pays answers (next_stage stage pay (Ok (New place outcome)) chain.0) last chain.2 in
      omega (arith, first, rest)
  some_longer (pay ∷ pays) (Ok (Kept place outcome) ∷ answers) stage last some chain =
      let first = not_shorter (Ok (Kept place outcome)) pay stage chain.0 chain.1 in
      let rest = some_longer pays answers (next_stage stage pay (Ok (Kept place outcome)) chain.0) last some chain.2 in
      omega (arith, first, rest)
  some_longer (pay ∷ pays) (Err fault ∷ answers) stage last some chain = some_longer pays answers (next_stage stage pay (Err fault) chain.0) last some chain.2

  -- there are as many answers as pays
  pub as_many : (pays : List Pay) (answers : List Answer) (stage last : Stage) → Chain stage pays answers last → length answers ≡ length pays
  as_many [] [] stage last chain = refl
  as_many [] (a ∷ answers) stage last chain = absurd chain
  as_many (pay ∷ pays) [] stage last chain = absurd chain
  as_many (pay ∷ pays) (a ∷ answers) stage last chain = let many = as_many pays answers (next_stage stage pay a chain.0) last chain.2 in omega (arith, many)

  -- a failure was answered, and is that of so many pays
  pub failure_told : (pays : List Pay) (answers : List Answer) (stage last : Stage) (failed : Failed) → stage.failed ≡ None → last.failed ≡ Some failed → Chain stage pays answers last
      → (list_any is_disk_fault answers ≡ true) × (last.failed ≡ Some record { day = day; most = most })
  failure_told [] [] stage last failed whole is chain = absurd (let no : None ≡ Some failed = sym whole ∙ ap (λ (s : Stage). s.failed) (sym chain) ∙ is in cc (no))
  failure_told [] (a ∷ answers) stage last failed whole is chain = absurd chain
  failure_told (pay ∷ pays) [] stage last failed whole is chain = absurd chain
  failure_told (pay ∷ pays) (Ok (New place outcome) ∷ answers) stage last failed whole is chain =
      failure_told pays answers (next_stage stage pay (Ok (New place outcome)) chain.0) last failed whole is chain.2
  failure_told (pay ∷ pays) (Ok (Kept place outcome) ∷ answers) stage last failed whole is chain =
      failure_told pays answers (next_stage stage pay (Ok (Kept place outcome)) chain.0) last failed whole is chain.2
  failure_told (pay ∷ pays) (Err (Conflict place) ∷ answers) stage last failed whole is chain =
      failure_told pays answers (next_stage stage pay (Err (Conflict place)) chain.0) last failed whole is chain.2
  failure_told (pay ∷ pays) (Err (Full entries end need) ∷ answers) stage last failed whole is chain =
      failure_told pays answers (next_stage stage pay (Err (Full entries end need)) chain.0) last failed whole is chain.2
  failure_told (pay ∷ pays) (Err (DiskFault before after) ∷ answers) stage last failed whole is chain =
      let next = next_stage stage pay (Err (DiskFault before after)) chain.0 in
      (refl, ap (λ (s : Stage). s.failed) (broken_rest pays answers next last refl chain.2).same)
  failure_told (pay ∷ pays) (Err (Broken from now) ∷ answers) stage last failed whole is chain = not_whole stage chain.1.0 whole
  failure_told (pay ∷ pays) (Err Memory ∷ answers) stage last failed whole is chain =
      failure_told pays answers (next_stage stage pay (Err Memory) chain.0) last failed whole is chain.2

-- where a failure stops a batch the pass's mark is no less than the disk's count
marks_stop : (o : Opening) (most : ℕ) (stage : Stage) (pay : Pay) (answer : Answer) (now : ℕ) (old next : PassKnows) → Told o pay old answer next → Shows o.accounts o.day most o.at_open stage pay answer now
    → stops answer ≡ true → is_memory answer ≡ false → now ≤ next.mark
marks_stop o most stage pay (Ok committed) now old next told shows stop some = absurd (cc (stop))
marks_stop o most stage pay (Err (Conflict place)) now old next told shows stop some = absurd (cc (stop))
marks_stop o most stage pay (Err (Full entries end need)) now old next told shows stop some = absurd (cc (stop))
marks_stop o most stage pay (Err (DiskFault before after)) now old next told shows stop some =
    let is : after ≡ now = shows.4 in let le : after ≤ next.mark = told.says.2 in omega (arith, is, le)
marks_stop o most stage pay (Err (Broken from to)) now old next told shows stop some =
    let is : to ≡ now = shows.2 in let le : to ≤ next.mark = told.says.2 in omega (arith, is, le)
marks_stop o most stage pay (Err Memory) now old next told shows stop some = absurd (cc (some))

module _ (o : Opening) (past : ℕ → List ℕ → Type 0) (purses : TableId) where
  -- the books at a stage, as if on such a disk
  abbrev pub book_at : Stage → Book ℕ
  book_at stage = record {
    accounts = o.accounts;
    history = stage.history;
    table = purses;
    file = record { disk = stage.faults; end = gate_of o.accounts stage.history };
    at_open = o.at_open;
    failed = stage.failed;
    room = None;
  }

  -- what stands behind the lock then
  abbrev pub Stands : WriterKnows → Stage → Type 0
  Stands w stage = IsStand (counter o) o past purses record { book = book_at stage; writer = w; day = o.day }

  -- what the pass is told of all of them, and what stands behind the lock then
  abbrev Ends : List Pay → List Answer → PassKnows → WriterKnows → Stage → PassKnows → Type 0
  Ends pays answers old last_writer last new = ToldAll o pays old answers new × Stands last_writer last

  -- where there is no pay
  pub told_none : (number most : ℕ) (answers : List Answer) (w last_writer : WriterKnows) (stage last : Stage) (old new : PassKnows) → Stands w stage → AnswersInTurn o.accounts o.day most o.at_open stage [] answers last
      → MeetsInTurn w number [] o.day answers old last_writer new → Ends [] answers old last_writer last new
  told_none number most [] w last_writer stage last old new s chain met = (met.1, subst (λ (x : WriterKnows × Stage). Stands x.0 x.1) (λ i. (sym met.0 i, sym chain i)) s)
  told_none number most (a ∷ answers) w last_writer stage last old new s chain met = absurd chain

  module _ (number most : ℕ) (some : 1 ≤ most) (within : most ≤ o.most) (by : IsNumber o.made number) where
    abbrev Says : Stage → Pay → Answer → ℕ → Type 0
    Says stage pay answer now = Shows o.accounts o.day most o.at_open stage pay answer now

    abbrev then_stage : Stage → Pay → Answer → ℕ → Stage
    then_stage stage pay answer now = stage_after o.accounts o.day most stage pay answer now

    abbrev then_writer : WriterKnows → Pay → Answer → WriterKnows
    then_writer w pay answer = writer_after w number pay o.day answer

    -- an answer of a disk that wasn't called leaves the file
    file_still : (answer : Answer) (stage : Stage) (pay : Pay) (now : ℕ) → Says stage pay answer now → calls_disk answer ≡ false → (book_at (then_stage stage pay answer now)).file ≡ (book_at stage).file
    file_still (Ok (New place outcome)) stage pay now shows none = absurd (cc (none))
    file_still (Ok (Kept place outcome)) stage pay now shows none =
        λ i. record { disk = shows.3 i; end = gate_of o.accounts (kept_history o.accounts stage.history pay o.day place shows.1.first i) }
    file_still (Err (Conflict place)) stage pay now shows none = λ i. record { disk = shows.2 i; end = gate_of o.accounts stage.history }
    file_still (Err (Full entries end need)) stage pay now shows none = λ i. record { disk = shows.6 i; end = gate_of o.accounts stage.history }
    file_still (Err (DiskFault before after)) stage pay now shows none = absurd (cc (none))
    file_still (Err (Broken from to)) stage pay now shows none = λ i. record { disk = shows.4 i; end = gate_of o.accounts stage.history }
    file_still (Err Memory) stage pay now shows none = λ i. record { disk = shows.1 i; end = gate_of o.accounts stage.history }

    -- what books use of an answer
    enters_at : (answer : Answer) (stage : Stage) (pay : Pay) (now : ℕ) → Says stage pay answer now → stage.faults ≤ now → IsLegal o.accounts (history_after o.accounts stage.history pay o.day answer)
        → Enters (counter o) o.day most (book_at stage) (book_at (then_stage stage pay answer now)) pay answer
    enters_at answer stage pay now shows later legal = record {
      shows = shows;
      history = refl;
      accounts = refl;
      table = refl;
      at_open = refl;
      failed = refl;
      legal = legal;
      place = λ whole. gate_place o.accounts stage.history;
      later = later;
      honest = refl;
      file = file_still answer stage pay now shows;
      any_moment = λ whole honest. record { later = omega arith; each = λ image left. absurd left; before = λ t image le left. absurd left };
    }

    module _ (answer : Answer) (w : WriterKnows) (stage : Stage) (pay : Pay) (now : ℕ) (s : Stands w stage) (legal : IsLegal o.accounts stage.history) (fits : FitsAccounts o.accounts pay)
        (shows : Says stage pay answer now) (later : stage.faults ≤ now) where
      legal_then : IsLegal o.accounts (history_after o.accounts stage.history pay o.day answer)
      legal_then = legal_after o.accounts o.day most o.at_open answer pay stage now legal fits s.latest shows

      entered_then : Enters (counter o) o.day most (book_at stage) (book_at (then_stage stage pay answer now)) pay answer
      entered_then = enters_at answer stage pay now shows later legal_then

      stands_then : Stands (then_writer w pay answer) (then_stage stage pay answer now)
      stands_then = stand_after (counter o) o past purses (book_at stage) (book_at (then_stage stage pay answer now)) w number most pay answer some within s entered_then by fits

      next_then : IsNext w.base w.acts answer
      next_then = next_place (counter o) o past purses (book_at stage) (book_at (then_stage stage pay answer now)) w number most pay answer s entered_then

      told_then : (old new : PassKnows) → old.number ≡ number → MeetsAfter w (then_writer w pay answer) answer old new → Told o pay old answer new
      told_then old new num met = told_after (counter o) o past purses (book_at stage) (book_at (then_stage stage pay answer now)) w number most pay answer old new num s stands_then entered_then met

    -- a pass keeps its number
    number_kept : (answer : Answer) (w w' : WriterKnows) (old new : PassKnows) → MeetsAfter w w' answer old new → new.number ≡ old.number
    number_kept (Ok committed) w w' old new met = met.number
    number_kept (Err (Conflict place)) w w' old new met = met.number
    number_kept (Err (Full entries end need)) w w' old new met = met.number
    number_kept (Err (DiskFault before after)) w w' old new met = met.number
    number_kept (Err (Broken from to)) w w' old new met = met.number
    number_kept (Err Memory) w w' old new met = ap (λ (p : PassKnows). p.number) met

    -- each place that is new is the next one then
    pub next_in_turn : (pays : List Pay) (answers : List Answer) (w : WriterKnows) (stage last : Stage) → Stands w stage → IsLegal o.accounts stage.history → All (FitsAccounts o.accounts) pays → stage.faults ≤ last.faults
        → AnswersInTurn o.accounts o.day most o.at_open stage pays answers last → AreNextInTurn w number pays o.day answers
    next_in_turn [] answers w stage last s legal fits le chain = tt
    next_in_turn (pay ∷ pays) [] w stage last s legal fits le chain = tt
    next_in_turn (pay ∷ pays) (answer ∷ answers) w stage last s legal fits le chain =
        let now = chain.0 in
        let fit = All-head (FitsAccounts o.accounts) pay pays fits in
        let later = now_later o.accounts o.day most o.at_open answer pay pays answers stage last now chain.1 chain.2 le in (
          next_then answer w stage pay now s legal fit chain.1 later.0,
          next_in_turn pays answers (then_writer w pay answer) (then_stage stage pay answer now) last (stands_then answer w stage pay now s legal fit chain.1 later.0)
              (legal_then answer w stage pay now s legal fit chain.1 later.0) (All-tail (FitsAccounts o.accounts) pay pays fits) later.1 chain.2,
        )

    -- after one more
    ends_with : (answer : Answer) (pay : Pay) (pays : List Pay) (answers : List Answer) (w last_writer : WriterKnows) (stage last : Stage) (now : ℕ) (old next new : PassKnows)
        → Told o pay old answer next → Stands (then_writer w pay answer) (then_stage stage pay answer now) → Says stage pay answer now → Together (answer ∷ answers)
        → AnswersInTurn o.accounts o.day most o.at_open (then_stage stage pay answer now) pays answers last
        → OneOf (stops answer) ((last_writer ≡ then_writer w pay answer) × (new ≡ next)) (MeetsInTurn (then_writer w pay answer) number pays o.day answers next last_writer new)
        → (MeetsInTurn (then_writer w pay answer) number pays o.day answers next last_writer new → Ends pays answers next last_writer last new)
        → Ends (pay ∷ pays) (answer ∷ answers) old last_writer last new
    ends_with answer pay pays answers w last_writer stage last now old next new told stands shows all chain met rest = by_stop (stops answer) refl met
      where
        by_stop : (b : Bool) → stops answer ≡ b → OneOf b ((last_writer ≡ then_writer w pay answer) × (new ≡ next)) (MeetsInTurn (then_writer w pay answer) number pays o.day answers next last_writer new)
            → Ends (pay ∷ pays) (answer ∷ answers) old last_writer last new
        by_stop true is ended =
            let marks : is_memory answer ≡ false → now ≤ new.mark = λ some.
            subst (λ (p : PassKnows). now ≤ p.mark) (sym ended.1) (marks_stop o most stage pay answer now old next told shows is some) in
            let nothing_more = stopped o.accounts o.day most o.at_open new.mark answer pay pays answers stage last now is marks shows all chain in
            let untried : AreUntried o new answer pays answers = record { each = nothing_more.each; many = nothing_more.many } in (
              (next, told, subst (λ (b : Bool). OneOf b ((new ≡ next) × AreUntried o new answer pays answers) (ToldAll o pays next answers new)) (sym is) (ended.1, untried)),
              subst (λ (x : WriterKnows × Stage). Stands x.0 x.1) (λ i. (sym ended.0 i, sym nothing_more.same i)) stands,
            )
        by_stop false is on =
            let behind = rest on in
            ((next, told, subst (λ (b : Bool). OneOf b ((new ≡ next) × AreUntried o new answer pays answers) (ToldAll o pays next answers new)) (sym is) behind.0), behind.1)

    pub told_in_turn : (pays : List Pay) (answers : List Answer) (w last_writer : WriterKnows) (stage last : Stage) (old new : PassKnows) → Stands w stage → IsLegal o.accounts stage.history
        → All (FitsAccounts o.accounts) pays → stage.faults ≤ last.faults → AnswersInTurn o.accounts o.day most o.at_open stage pays answers last → Together answers → old.number ≡ number
        → MeetsInTurn w number pays o.day answers old last_writer new → Ends pays answers old last_writer last new
    told_in_turn [] answers w last_writer stage last old new s legal fits le chain all num met = told_none number most answers w last_writer stage last old new s chain met
    told_in_turn (pay ∷ pays) [] w last_writer stage last old new s legal fits le chain all num met = absurd chain
    told_in_turn (pay ∷ pays) (answer ∷ answers) w last_writer stage last old new s legal fits le chain all num met =
        let now = chain.0 in
        let fit = All-head (FitsAccounts o.accounts) pay pays fits in
        let later = now_later o.accounts o.day most o.at_open answer pay pays answers stage last now chain.1 chain.2 le in
        let stands = stands_then answer w stage pay now s legal fit chain.1 later.0 in
        ends_with answer pay pays answers w last_writer stage last now old met.0 new
        (told_then answer w stage pay now s legal fit chain.1 later.0 old met.0 num met.1) stands chain.1 all chain.2 met.2
        (λ on. told_in_turn pays answers (then_writer w pay answer) last_writer (then_stage stage pay answer now) last met.0 new stands
        (legal_then answer w stage pay now s legal fit chain.1 later.0) (All-tail (FitsAccounts o.accounts) pay pays fits) later.1 chain.2
        (together_behind answer answers all) (number_kept answer w (then_writer w pay answer) old met.0 met.1 ∙ num) on)
