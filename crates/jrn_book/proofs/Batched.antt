-- What the answers to a batch tell: where nothing is entered, where all new entries come to the disk, and where the disk fails.
use Rattle.std.proofs.Common.{◌≡◌, ◌⊎◌, ℕ, ◌+◌, ◌≤◌, All, Bool, true, false, List, [], ◌∷◌, ◌++◌, length, replicate, Option, Some, None, Ok, Err, IsTrue, refl, sym, ap, ◌∙◌, subst, arith, inl, inr, append-nil, append_assoc}
use Rattle.std.specs.List.{list_all, list_any}
use Rattle.corr_disk.specs.Calls.{AtMostCalls, CallsMade}
use Rattle.corr_disk.specs.Disk.{LeavesOnly}
use Rattle.corr_text.specs.Faults.{Rose}
use Rattle.corr_ids.specs.declared.day.Day.{Day}
use Rattle.day_model.specs.declared.pay.Pay.{Pay}
use Rattle.day_model.specs.declared.entry.Entry.{Entry}
use Rattle.day_model.specs.Chart.{AreBy, Chart}
use Rattle.day_model.specs.Legal.{IsLegal}
use Rattle.day_model.specs.Next.{fold_of}
use Rattle.acct_locks.specs.Holdings.{Holding, held_with}
use Rattle.jrn_file.specs.declared.file.JFile.{JFile}
use Rattle.jrn_file.specs.File.{IsSettled, disk_of}
use Rattle.jrn_file.specs.Journal.{IsBeforeOrAll, StandsFor}
use Rattle.jrn_codec.specs.Header.{head_bytes}
use Rattle.jrn_codec.specs.Record.{IsEntry}
use Rattle.jrn_book.specs.declared.answer.Committed.TheVariants.{New}
use Rattle.jrn_book.specs.declared.answer.CommitFault.TheVariants.{Broken, DiskFault}
use Rattle.jrn_book.specs.Answers.{Answer}
use Rattle.jrn_book.specs.Batches.{AnswersInTurn, IsBeforeOrEntered, Stage, all_booked, entered_of, is_disk_fault, is_memory, is_new}
use Rattle.jrn_book.specs.inner.Batches.{is_tried, untouched}
use Rattle.jrn_book.specs.Book.{Book, IsBook, IsLeftBy}
use Rattle.jrn_book.specs.CommitsAll.{Adds, stage_of}
use Rattle.jrn_book.specs.inner.CommitsAll.{CommitsAll}
use Rattle.jrn_book.specs.inner.Drafting.{IsFirstNew, records_of}
use Rattle.jrn_book.specs.Journal.{StandsForBook, item_records}
use Rattle.jrn_book.specs.Resuming.{IsResumable, ResumesRun}
use Rattle.jrn_book.proofs.Chains.{all_tried_apart, any_here, any_same, chain_failing, front_tried, none_here}
use Rattle.jrn_book.proofs.Commits.{settled}
use Rattle.jrn_book.proofs.Entering.{held_with-nil, records_all}
use Rattle.jrn_book.proofs.Resuming.{resumes_here}
use Rattle.jrn_book.proofs.laws.Rooms.{chain_entered}
use Rattle.day_model.proofs.laws.Growth.{fold_of_append}

false_true : {P : Type 0} (b : Bool) → b ≡ false → b ≡ true → P
false_true b out holds = absurd (let e : false ≡ true = sym out ∙ holds in cc)

-- nothing added
no_entries : (history : List Entry) (held : List Holding) → Adds history history held held
no_entries history held = record { added = []; history_is = sym (append-nil history); held_is = sym (held_with-nil held) }

module _ {D : Type 0} (honest : D → Bool) (reads : D → List ℕ) (may_leave : D → List ℕ → Type 0) (moment : D → ℕ) (left_since : D → ℕ → List ℕ → Type 0)
    (faults : D → ℕ) (plan : D → ℕ → Option Bool) (only_now : (disk : D) (c : List ℕ) → left_since disk (moment disk) c → may_leave disk c) where
  abbrev Tells : Book D → Book D → List Holding → List Holding → List Pay → Day → List Answer → Type 0
  Tells old new held after pays day answers = CommitsAll moment left_since honest faults plan old new held after pays day answers

  -- while nothing is called, a crash leaves the history
  rests : (b : Book D) (pays : List Pay) (day : Day) → IsSettled honest reads may_leave b.file (head_bytes b.accounts) (item_records b.accounts b.history) → IsTrue (honest (disk_of b.file))
      → LeavesOnly moment left_since (disk_of b.file) (disk_of b.file) (IsBeforeOrEntered b.accounts b.history pays day)
  rests b pays day file told = record {
    later = omega arith;
    each = λ c left.
        let is : c ≡ reads (disk_of b.file) = file.durable told c (only_now (disk_of b.file) c left) in
        inl (subst (λ (image : List ℕ). StandsForBook image b.accounts b.history) (sym is) (file.stands told));
    before = λ t c le left. inl left;
  }

  module _ (old : Book D) (is : IsBook honest reads may_leave faults old) (held : List Holding) (pays : List Pay) (day : Day) where
    whole_file : old.failed ≡ None → IsSettled honest reads may_leave old.file (head_bytes old.accounts) (item_records old.accounts old.history)
    whole_file whole = settled honest reads may_leave moment left_since faults plan only_now old is whole

    -- nothing was entered, and the disk wasn't called
    pub stays : (answers : List Answer) (room : Option Pay)
        → AnswersInTurn old.accounts day (length pays) old.at_open (stage_of old (faults (disk_of old.file))) pays answers (stage_of old (faults (disk_of old.file)))
        → list_any is_new answers ≡ false → (list_any is_memory answers ≡ true → list_all is_memory answers ≡ true)
        → Tells old (record old { room = room }) held held pays day answers
    stays answers room chain none memory = record {
      each = chain;
      adds = no_entries old.history held;
      same = refl;
      together = λ some. refl;
      memory = λ some. record { all = memory some; history = refl; file = refl; purses = refl };
      any_moment = λ whole told. rests old pays day (whole_file whole) told;
      place = λ whole. (whole_file whole).place;
      untouched = λ a b. refl;
      calls = λ some. false_true (list_any is_new answers) none some;
      no_more_calls = (0, omega arith, λ k. ap (plan (disk_of old.file)) (let e : k ≡ 0 + k = omega arith in e));
      told = refl;
      later = omega arith;
    }

    -- what a crash leaves of an append of these entries' records, where the history with them is what the pays make
    left_all : (file : JFile D) (entries : List Entry) → AreBy (length old.history) old.accounts → old.history ++ entries ≡ entered_of old.accounts old.history pays day
        → LeavesOnly moment left_since (disk_of old.file) (disk_of file) (IsBeforeOrAll (head_bytes old.accounts) (item_records old.accounts old.history) (records_of entries))
        → LeavesOnly moment left_since (disk_of old.file) (disk_of file) (IsBeforeOrEntered old.accounts old.history pays day)
    left_all file entries by makes leaves =
        let records : item_records old.accounts old.history ++ records_of entries ≡ item_records old.accounts (entered_of old.accounts old.history pays day) =
        sym (records_all old.accounts old.history entries by) ∙ ap (item_records old.accounts) makes in
        subst (λ (rs : List (List ℕ)). LeavesOnly moment left_since (disk_of old.file) (disk_of file)
        (λ image. StandsFor image (head_bytes old.accounts) (item_records old.accounts old.history) ⊎ StandsFor image (head_bytes old.accounts) rs)) records leaves

    -- entries were drafted
    module _ (whole : old.failed ≡ None) (answers : List Answer) (entries : List Entry)
        (chain : (most at_open now : ℕ) → AnswersInTurn old.accounts day most at_open (untouched old.history now) pays answers (untouched (old.history ++ entries) now))
        (tried : list_all is_tried answers ≡ true) (file : JFile D) (room : Option Pay)
        (told : honest (disk_of file) ≡ honest (disk_of old.file))
        (leaves : IsTrue (honest (disk_of old.file)) → LeavesOnly moment left_since (disk_of old.file) (disk_of file) (IsBeforeOrAll (head_bytes old.accounts) (item_records old.accounts old.history) (records_of entries)))
        (most : AtMostCalls 4 (plan (disk_of old.file)) (plan (disk_of file))) (later : faults (disk_of old.file) ≤ faults (disk_of file)) where
      by : AreBy (length old.history) old.accounts
      by = is.journal.legal.changes.by_now

      makes : old.history ++ entries ≡ entered_of old.accounts old.history pays day
      makes = chain_entered old.accounts day 0 0 (untouched old.history 0) (untouched (old.history ++ entries) 0) pays answers by (chain 0 0 0) tried

      -- they came to the disk
      pub enters : (after : List Holding) → list_any is_new answers ≡ true → after ≡ held_with (all_booked entries) held → faults (disk_of file) ≡ faults (disk_of old.file) → CallsMade 4 (plan (disk_of old.file)) (plan (disk_of file))
          → Tells old (record old { history = old.history ++ entries; file = file; room = room }) held after pays day answers
      enters after some purses kept calls =
          let apart = all_tried_apart answers tried in
          let n : ℕ = faults (disk_of old.file) in
          let first : untouched old.history n ≡ stage_of old n = λ i. record { history = old.history; failed = sym whole i; faults = n } in
          let last : untouched (old.history ++ entries) n ≡ record { history = old.history ++ entries; failed = old.failed; faults = faults (disk_of file) } =
          λ i. record { history = old.history ++ entries; failed = sym whole i; faults = sym kept i } in
          record {
            each = subst (λ (x : Stage × Stage). AnswersInTurn old.accounts day (length pays) old.at_open x.0 pays answers x.1) (λ i. (first i, last i)) (chain (length pays) old.at_open n);
            adds = record { added = entries; history_is = refl; held_is = purses };
            same = refl;
            together = λ some. false_true (list_any is_disk_fault answers) apart.0 some;
            memory = λ some. false_true (list_any is_memory answers) apart.1 some;
            any_moment = λ whole honest_is. left_all file entries by makes (leaves honest_is);
            place = λ whole. (whole_file whole).place;
            untouched = λ none others. false_true (list_any is_new answers) none some;
            calls = λ some. calls;
            no_more_calls = most;
            told = told;
            later = later;
          }

      -- the disk failed
      pub fails : (before after : ℕ) (front rest : List Answer) → IsFirstNew answers front rest → before ≡ faults (disk_of old.file) → after ≡ faults (disk_of file) → faults (disk_of old.file) ≡ old.at_open → Rose before after
          → Tells old (record old { file = file; failed = Some record { day = day; most = length pays }; room = room }) held held pays day
          (front ++ Err (DiskFault before after) ∷ replicate (length rest) (Err (Broken old.at_open after)))
      fails before after front rest new before_is after_is opened rose =
          let n : ℕ = faults (disk_of old.file) in
          let answered : List Answer = front ++ Err (DiskFault before after) ∷ replicate (length rest) (Err (Broken old.at_open after)) in
          let none_of : (t : Answer → Bool) → list_any t front ≡ false → t (Err (DiskFault before after)) ≡ false → t (Err (Broken old.at_open after)) ≡ false → list_any t answered ≡ false =
          λ t a b c. none_here t front (replicate (length rest) (Err (Broken old.at_open after))) (Err (DiskFault before after)) a b (any_same t (length rest) (Err (Broken old.at_open after)) c) in
          let apart = all_tried_apart front (front_tried front (Ok (New new.place new.outcome) ∷ rest) (subst (λ (l : List Answer). list_all is_tried l ≡ true) new.is tried)) in
          let no_new = none_of is_new new.none refl refl in
          let no_memory = none_of is_memory apart.1 refl refl in
          let chained = chain_failing old.accounts day (length pays) old.at_open before after (untouched old.history n) (untouched (old.history ++ entries) n) pays answers front rest (chain (length pays) old.at_open n) tried new refl before_is opened rose in
          let first : untouched old.history n ≡ stage_of old n = λ i. record { history = old.history; failed = sym whole i; faults = n } in
          record {
            each = subst (λ (x : Stage × ℕ). AnswersInTurn old.accounts day (length pays) old.at_open x.0 pays answered (record { history = old.history; failed = Some record { day = day; most = length pays }; faults = x.1 }))
                (λ i. (first i, after_is i)) chained;
            adds = no_entries old.history held;
            same = refl;
            together = λ some. refl;
            memory = λ some. false_true (list_any is_memory answered) no_memory some;
            any_moment = λ whole honest_is. left_all file entries by makes (leaves honest_is);
            place = λ whole. (whole_file whole).place;
            untouched = λ none others. false_true (list_any is_disk_fault answered) others
                (any_here is_disk_fault front (replicate (length rest) (Err (Broken old.at_open after))) (Err (DiskFault before after)) refl);
            calls = λ some. false_true (list_any is_new answered) no_new some;
            no_more_calls = most;
            told = told;
            later = later;
          }

-- runs that stop in a batch and are given again
pub batch_resumable : {D : Type 0} (moment : D → ℕ) (left_since : D → ℕ → List ℕ → Type 0) (old new : D) (chart : Chart) (start history : List Entry) (done pays more : List Pay) (day : Day)
    → history ≡ fold_of chart start done day → entered_of chart history pays day ≡ fold_of chart history pays day
    → LeavesOnly moment left_since old new (IsBeforeOrEntered chart history pays day)
    → LeavesOnly moment left_since old new (IsResumable chart start (done ++ (pays ++ more)) day)
batch_resumable moment left_since old new chart start history done pays more day is all leaves = record {
  later = leaves.later;
  each = λ c left. resumable c (leaves.each c left);
  before = λ t c le left. elim (leaves.before t c le left) [
    | inl earlier ↦ inl earlier
    | inr here ↦ inr (resumable c here)
  ];
}
  where
    after : List Entry
    after = entered_of chart history pays day

    so_far : after ≡ fold_of chart start (done ++ pays) day
    so_far = all ∙ ap (λ (h : List Entry). fold_of chart h pays day) is ∙ sym (fold_of_append chart start done pays day)

    resumable : (image : List ℕ) → IsBeforeOrEntered chart history pays day image → IsResumable chart start (done ++ (pays ++ more)) day image
    resumable image it =
        elim it [
          | inl before ↦ record { history = history; stands = before; again = resumes_here chart start history done (pays ++ more) day is }
          | inr next ↦ record {
            history = after;
            stands = next;
            again = subst (λ (ps : List Pay). ResumesRun chart start ps day after) (append_assoc done pays more) (resumes_here chart start after (done ++ pays) more day so_far);
          }
        ]

-- ---- what holds of the book after a batch

-- after a failure: each image stands for the history, or for it and all that was being written
pub left_by_all : {D : Type 0} (honest : D → Bool) (may_leave : D → List ℕ → Type 0) (moment : D → ℕ) (left_since : D → ℕ → List ℕ → Type 0)
    (counts_now : (disk : D) (t : ℕ) (c : List ℕ) → t ≤ moment disk → may_leave disk c → left_since disk t c)
    (chart : Chart) (history entries : List Entry) (day : Day) (most : ℕ) (old new : JFile D) → AreBy (length history) chart → length entries ≤ most → All (λ e. e.day ≡ day) entries → All IsEntry entries → IsLegal chart (history ++ entries)
    → honest (disk_of new) ≡ honest (disk_of old)
    → (IsTrue (honest (disk_of old)) → LeavesOnly moment left_since (disk_of old) (disk_of new) (IsBeforeOrAll (head_bytes chart) (item_records chart history) (records_of entries)))
    → IsLeftBy (honest (disk_of new)) (may_leave (disk_of new)) chart history (record { day = day; most = most })
left_by_all honest may_leave moment left_since counts_now chart history entries day most old new by few days written legal same leaves = record {
  entries = entries;
  few = few;
  days_are = days;
  written = written;
  legal = legal;
  images = λ told image left.
      let all = leaves (subst IsTrue same told) in
      subst (λ (rs : List (List ℕ)). StandsFor image (head_bytes chart) (item_records chart history) ⊎ StandsFor image (head_bytes chart) rs) (sym (records_all chart history entries by))
      (all.each image (counts_now (disk_of new) (moment (disk_of old)) image all.later left));
}
