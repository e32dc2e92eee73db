-- What the answers of a commit tell.
use Rattle.std.proofs.Common.{◌≡◌, ℕ, ◌+◌, Bool, false, List, [], ◌∷◌, ◌++◌, Option, Some, None, refl, sym, ap, ◌∙◌, subst, arith, cond, inl}
use Rattle.std.specs.Prelude.{IsTrue, IsSome, is_some, OnOk, Ok, Err}
use Rattle.corr_disk.specs.Disk.{LeavesOnly}
use Rattle.corr_text.specs.Faults.{Rose}
use Rattle.corr_ids.specs.declared.day.Day.{Day}
use Rattle.day_model.specs.declared.pay.Pay.{Pay}
use Rattle.day_model.specs.declared.entry.Entry.{Entry}
use Rattle.day_model.specs.Chart.{Chart}
use Rattle.day_model.specs.Next.{entered_at, entry_of, next_history}
use Rattle.acct_locks.specs.Holdings.{Holding, held_with}
use Rattle.jrn_file.specs.File.{IsSettled, disk_of, end_of}
use Rattle.jrn_codec.specs.Header.{head_bytes}
use Rattle.jrn_book.specs.Answers.{Answer, IsAnswered, AnswerShows, calls_disk, failed_after, history_after, legs_entered}
use Rattle.jrn_book.specs.inner.Appending.{Repeats}
use Rattle.jrn_book.specs.Book.{Book, Counts, IsBook, StandsOnDisk}
use Rattle.jrn_book.specs.inner.Commits.{Commits}
use Rattle.jrn_book.specs.Journal.{IsBeforeOrNext, StandsForBook, item_records}
use Rattle.jrn_book.specs.declared.answer.Failed.{Failed}
use Rattle.jrn_book.specs.declared.answer.Committed.TheVariants.{New, Kept}
use Rattle.jrn_book.specs.declared.answer.CommitFault.TheVariants.{Conflict, Full, DiskFault, Broken, Memory}
use Rattle.jrn_book.proofs.Entering.{held_with-nil}

-- the next history of a pay that is entered
pub next_entered : (chart : Chart) (history : List Entry) (pay : Pay) (day : Day) (place : ℕ) → entered_at pay.mir history ≡ Some place → next_history chart history pay day ≡ history
next_entered chart history pay day place at =
    ap (λ (o : Option ℕ). cond (is_some o) history (history ++ entry_of chart history pay day ∷ [])) at

-- a count that rose since the opening
pub risen : (failed : Option Failed) (at_open now : ℕ) → IsSome failed → Counts failed at_open now → Rose at_open now
risen None at_open now some counts = absurd (cc)
risen (Some failure) at_open now some counts = counts

module _ {D : Type 0} (honest : D → Bool) (reads : D → List ℕ) (may_leave : D → List ℕ → Type 0) (moment : D → ℕ) (left_since : D → ℕ → List ℕ → Type 0)
    (faults : D → ℕ) (plan : D → ℕ → Option Bool) (only_now : (disk : D) (c : List ℕ) → left_since disk (moment disk) c → may_leave disk c) where
  abbrev Told : Book D → Book D → List Holding → List Holding → Pay → Day → Answer → Type 0
  Told old new held after pay day answer = Commits honest reads may_leave moment left_since faults plan old new held after pay day answer

  -- a whole book's file
  pub settled : (b : Book D) → IsBook honest reads may_leave faults b → b.failed ≡ None → IsSettled honest reads may_leave b.file (head_bytes b.accounts) (item_records b.accounts b.history)
  settled b is whole = subst (λ (f : Option Failed). StandsOnDisk honest reads may_leave f b.file b.accounts b.history) whole is.disk

  -- while nothing is called, a crash leaves the history
  rests : (b : Book D) (pay : Pay) (day : Day) → IsSettled honest reads may_leave b.file (head_bytes b.accounts) (item_records b.accounts b.history) → IsTrue (honest (disk_of b.file))
      → LeavesOnly moment left_since (disk_of b.file) (disk_of b.file) (IsBeforeOrNext b.accounts b.history pay day)
  rests b pay day file told = record {
    later = omega arith;
    each = λ c left.
        let is : c ≡ reads (disk_of b.file) = file.durable told c (only_now (disk_of b.file) c left) in
        inl (subst (λ (image : List ℕ). StandsForBook image b.accounts b.history) (sym is) (file.stands told));
    before = λ t c le left. inl left;
  }

  -- an answer that leaves the book as it was, but for its room
  module _ (old : Book D) (is : IsBook honest reads may_leave faults old) (held : List Holding) (pay : Pay) (day : Day) where
    rests_with : (answer : Answer) (room : Option Pay)
        → AnswerShows old.accounts old.history pay day (end_of old.file) old.failed old.at_open (faults (disk_of old.file)) (faults (disk_of old.file)) answer
        → old.history ≡ history_after old.accounts old.history pay day answer
        → legs_entered old.accounts old.history pay day answer ≡ []
        → old.failed ≡ failed_after 1 old.failed day answer
        → OnOk answer (IsSettled honest reads may_leave old.file (head_bytes old.accounts) (item_records old.accounts old.history))
        → calls_disk answer ≡ false
        → (old.room ≡ Some pay → IsAnswered answer)
        → Told old (record old { room = room }) held held pay day answer
    rests_with answer room shows entries legs fails durable calls answered = record {
      shows = shows;
      entries = entries;
      purses = sym (held_with-nil held) ∙ ap (λ l. held_with l held) (sym legs);
      same = refl;
      fails = fails;
      legal = is.journal.legal;
      any_moment = λ whole told. rests old pay day (settled old is whole) told;
      durable = durable;
      place = λ whole. (settled old is whole).place;
      untouched = λ _. refl;
      calls = λ yes. absurd (cc (calls, yes));
      no_more_calls = (0, omega arith, λ k. ap (plan (disk_of old.file)) (let e : k ≡ 0 + k = omega arith in e));
      told = refl;
      later = omega arith;
      no_memory = answered;
    }

    -- a commit failed before
    pub broken : (now : ℕ) → now ≡ faults (disk_of old.file) → IsSome old.failed → Told old old held held pay day (Err (Broken old.at_open now))
    broken now same failed =
        rests_with (Err (Broken old.at_open now)) old.room
        (failed, refl, same, subst (Rose old.at_open) (sym same) (risen old.failed old.at_open (faults (disk_of old.file)) failed is.counts), refl)
        refl refl refl tt refl (λ room. tt)

    -- out of memory
    pub wanting : (new : Book D) → old.failed ≡ None → new ≡ record old { room = new.room } → (old.room ≡ Some pay → ⊥) → Told old new held held pay day (Err Memory)
    wanting new whole same none =
        subst (λ (b : Book D). Told old b held held pay day (Err Memory)) (sym same)
        (rests_with (Err Memory) new.room (whole, refl) refl refl refl tt refl (λ room. absurd (none room)))

    -- a repeat
    pub repeats : (answer : Answer) (new : Book D) → old.failed ≡ None → new ≡ record old { room = new.room } → Repeats old.history pay answer → Told old new held held pay day answer
    repeats (Ok (New place outcome)) new whole same it = absurd it
    repeats (Ok (Kept place outcome)) new whole same it =
        subst (λ (b : Book D). Told old b held held pay day (Ok (Kept place outcome))) (sym same)
        (rests_with (Ok (Kept place outcome)) new.room (whole, it.0, it.1, refl) (sym (next_entered old.accounts old.history pay day place it.0.first)) refl refl (settled old is whole) refl (λ room. tt))
    repeats (Err (Conflict place)) new whole same it =
        subst (λ (b : Book D). Told old b held held pay day (Err (Conflict place))) (sym same)
        (rests_with (Err (Conflict place)) new.room (whole, it, refl) refl refl refl tt refl (λ room. tt))
    repeats (Err (Full entries end need)) new whole same it = absurd it
    repeats (Err (DiskFault before after)) new whole same it = absurd it
    repeats (Err (Broken from now)) new whole same it = absurd it
    repeats (Err Memory) new whole same it = absurd it

  -- a book that differs in its room alone
  pub other_room : (old b new : Book D) (held after : List Holding) (pay : Pay) (day : Day) (answer : Answer) → b ≡ record old { room = b.room } → IsAnswered answer → Told b new held after pay day answer → Told old new held after pay day answer
  other_room old b new held after pay day answer same answered it =
      let here = subst (λ (x : Book D). Told x new held after pay day answer) same it in
      record {
        shows = here.shows;
        entries = here.entries;
        purses = here.purses;
        same = here.same;
        fails = here.fails;
        legal = here.legal;
        any_moment = here.any_moment;
        durable = here.durable;
        place = here.place;
        untouched = here.untouched;
        calls = here.calls;
        no_more_calls = here.no_more_calls;
        told = here.told;
        later = here.later;
        no_memory = λ room. answered;
      }
