-- One pay more of a batch that is drafted.
use Rattle.std.proofs.Common.{◌≡◌, ◌≤ℤ◌, ℕ, zero, suc, ◌+◌, ◌-◌, ◌<◌, ◌≤◌, All, slice_get, reverse, true, Ok, Err, List, [], ◌∷◌, ◌++◌, length, get_or, None, Some, refl, sym, ap, ◌∙◌, subst, arith, inl, inr, ⊎_elim, append_assoc, append-nil, length-append}
use Rattle.std.proofs.lemmas.List.{reverse-append, reverse-reverse}
use Rattle.std.specs.List.{list_all}
use Rattle.std.proofs.lemmas.Bool.{and_from, and_parts}
use Rattle.std.proofs.lemmas.List.Sums.{sum_by-append, sum_by-cons}
use Rattle.std.proofs.lemmas.Option.{none-some, same_Some, slice_get-get_or, slice_get_within}
use Rattle.std.proofs.lemmas.List.Elements.{All-head, All-nil, All-push, All-tail}
use Rattle.corr_text.specs.Filled.{Filled}
use Rattle.corr_disk.specs.Disk.{most_disk_bytes}
use Rattle.corr_ids.specs.declared.day.Day.{Day}
use Rattle.day_model.specs.declared.pay.Pay.{Pay}
use Rattle.day_model.specs.declared.entry.Entry.{Entry}
use Rattle.day_model.specs.Chart.{AreBy, Chart, accounts_of}
use Rattle.day_model.specs.Fit.{FitsAccounts}
use Rattle.day_model.specs.Laws.{IsLatest}
use Rattle.day_model.specs.Legal.{IsLegal}
use Rattle.day_model.specs.Next.{entered_at, entry_of}
use Rattle.day_model.specs.Pairs.{pairs_with}
use Rattle.day_model.specs.Totals.{HasTotals, Pair, booked_legs}
use Rattle.day_model.proofs.laws.Histories.{has_entry}
use Rattle.day_model.proofs.laws.Slices.{front_get, in_pushed}
use Rattle.jrn_file.specs.Reading.{with_length}
use Rattle.jrn_codec.specs.Record.{IsEntry, entry_bytes}
use Rattle.jrn_book.specs.Answers.{Answer, AnswerShows, history_after}
use Rattle.jrn_book.specs.inner.Appending.{Repeats}
use Rattle.jrn_book.specs.declared.answer.Committed.TheVariants.{New, Kept}
use Rattle.jrn_book.specs.declared.answer.CommitFault.TheVariants.{Conflict, Full, DiskFault, Broken, Memory}
use Rattle.jrn_book.specs.Batches.{AnswersInTurn, Stage, gate_of, stage_after}
use Rattle.jrn_book.specs.inner.Batches.{is_tried, untouched}
use Rattle.jrn_book.specs.inner.Drafting.{AddsOnly, AreFrom, IsDrafted, gated_records, room_for, rooms_for}
use Rattle.jrn_book.specs.Index.{References, references_of}
use Rattle.jrn_book.specs.Journal.{file_of}
use Rattle.jrn_book.proofs.Chains.{chain_snoc}
use Rattle.jrn_book.proofs.Commits.{next_entered}
use Rattle.jrn_book.proofs.Entering.{next_legal, references_more}
use Rattle.jrn_book.proofs.Gated.{file_all, gated_more}

-- a day that no entry of a history is later than, with entries of that day
pub latest_all : (history entries : List Entry) (day : Day) → IsLatest history day → All (λ e. e.day ≡ day) entries → (day.0 ≤ℤ day.0) → IsLatest (history ++ entries) day
latest_all history [] day latest days same = subst (λ (l : List Entry). IsLatest l day) (sym (append-nil history)) latest
latest_all history (e ∷ entries) day latest days same =
    let here : e.day ≡ day = All-head (λ (x : Entry). x.day ≡ day) e entries days in
    let next : IsLatest (history ++ e ∷ []) day = λ i x at.
    ⊎_elim (λ (old : slice_get history i ≡ Some x). latest i x old)
    (λ (new : (i ≡ length history) × (e ≡ x)). subst (λ (d : Day). d.0 ≤ℤ day.0) (sym here ∙ ap (λ (y : Entry). y.day) new.1) same)
    (in_pushed history e i x at) in
    subst (λ (l : List Entry). IsLatest l day) (append_assoc history (e ∷ []) entries)
    (latest_all (history ++ e ∷ []) entries day next (All-tail (λ (x : Entry). x.day ≡ day) e entries days) same)

-- the entry that a pay of a new reference becomes, behind those that are drafted
module _ (chart : Chart) (history : List Entry) (day : Day) (entries : List Entry) (frames : List ℕ) (references : List (List ℕ)) (pairs : List Pair) (pay : Pay) (e : Entry)
    (drafted : IsDrafted chart history day entries frames references pairs) (is : e ≡ entry_of chart (history ++ entries) pay day) where
  whole : history ++ (entries ++ e ∷ []) ≡ (history ++ entries) ++ e ∷ []
  whole = sym (append_assoc history entries (e ∷ []))

  -- it may stand next
  pub draft_legal : FitsAccounts chart pay → IsLatest (history ++ entries) day → length (history ++ entries) < 100000 → entered_at pay.mir (history ++ entries) ≡ None → IsLegal chart ((history ++ entries) ++ e ∷ [])
  draft_legal fits latest few new =
      subst (λ (x : Entry). IsLegal chart ((history ++ entries) ++ x ∷ [])) (sym is) (next_legal chart (history ++ entries) pay day drafted.legal fits latest few new)

  pub draft_more : IsLegal chart ((history ++ entries) ++ e ∷ []) → IsEntry e → length (file_of chart ((history ++ entries) ++ e ∷ [])) ≤ most_disk_bytes
      → IsDrafted chart history day (entries ++ e ∷ []) (frames ++ 1 ∷ with_length (entry_bytes e)) (references ++ e.pay.mir.0 ∷ []) (pairs_with (booked_legs e) pairs)
  draft_more legal written fits = record {
    legal = subst (IsLegal chart) (sym whole) legal;
    days = All-push (λ (x : Entry). x.day ≡ day) entries e drafted.days (ap (λ (x : Entry). x.day) is);
    written = All-push IsEntry entries e drafted.written written;
    frames_are = ap (λ (l : List ℕ). l ++ 1 ∷ with_length (entry_bytes e)) drafted.frames_are ∙ sym (gated_more entries e);
    references_are = ap (λ (l : List (List ℕ)). l ++ e.pay.mir.0 ∷ []) drafted.references_are ∙ sym (references_more (history ++ entries) e) ∙ ap references_of (sym whole);
    totals = subst (HasTotals (pairs_with (booked_legs e) pairs) (length (accounts_of chart))) (sym whole) (has_entry (history ++ entries) e (length (accounts_of chart)) pairs drafted.totals);
    fits = inr (subst (λ (l : List Entry). length (file_of chart l) ≤ most_disk_bytes) (sym whole) fits);
  }

-- the pays of drafted entries, with one more
from_last : (entries : List Entry) (pays : List Pay) (pay : Pay) → AreFrom entries pays → AreFrom entries (pays ++ pay ∷ [])
from_last entries pays pay from k e at = let there = from k e at in (there.0, front_get pays (pay ∷ []) there.0 e.pay there.1)

last_at : {A : Type 0} (xs : List A) (x : A) → slice_get (xs ++ x ∷ []) (length xs) ≡ Some x
last_at [] x = refl
last_at (y ∷ xs) x = last_at xs x

pub from_more : (old new : List Entry) (pays : List Pay) (pay : Pay) → AreFrom old pays → AddsOnly old pay new → AreFrom new (pays ++ pay ∷ [])
from_more old new pays pay from (inl same) = subst (λ (l : List Entry). AreFrom l (pays ++ pay ∷ [])) (sym same) (from_last old pays pay from)
from_more old new pays pay from (inr added) = subst (λ (l : List Entry). AreFrom l (pays ++ pay ∷ [])) (sym added.1) more
  where
    more : AreFrom (old ++ added.0 ∷ []) (pays ++ pay ∷ [])
    more k e at =
        ⊎_elim (λ (before : slice_get old k ≡ Some e). from_last old pays pay from k e before)
        (λ (here : (k ≡ length old) × (added.0 ≡ e)). (length pays, last_at pays pay ∙ ap (λ (p : Pay). Some p) (sym added.2 ∙ ap (λ (x : Entry). x.pay) here.1)))
        (in_pushed old added.0 k e at)

pub count_more : (old new : List Entry) (pay : Pay) → AddsOnly old pay new → length new ≤ length old + 1
count_more old new pay (inl same) = omega (arith, ap length same)
count_more old new pay (inr added) = omega (arith, ap length added.1, length-append old (added.0 ∷ []))

-- what a property of all pays tells of the entries' pays
pub from_all : (P : Pay → Type 0) (entries : List Entry) (pays : List Pay) → AreFrom entries pays → All P pays → All (λ e. P e.pay) entries
from_all P entries pays from all k d lt =
    let at : slice_get entries k ≡ Some (get_or entries k d) = slice_get-get_or entries k d lt in
    let there = from k (get_or entries k d) at in
    let within = slice_get_within pays there.0 (get_or entries k d).pay there.1 in
    subst P (same_Some _ _ (sym (slice_get-get_or pays there.0 (get_or entries k d).pay within) ∙ there.1))
    (all there.0 (get_or entries k d).pay within)

-- ---- a list that is taken from its end, after it was turned round

-- what is left after the first `done`
pub record IsLeft {A : Type 0} (all done rest : List A) : Type 0 where
  pub is : all ≡ done ++ reverse rest

pub left_first : {A : Type 0} (all rest : List A) → rest ≡ reverse all → IsLeft all [] rest
left_first all rest is = record { is = sym (reverse-reverse all) ∙ ap reverse (sym is) }

-- with the next one
pub left_next : {A : Type 0} (all done old new : List A) (x : A) → IsLeft all done old → old ≡ new ++ x ∷ [] → all ≡ done ++ x ∷ reverse new
left_next all done old new x left is = left.is ∙ ap (λ l. done ++ reverse l) is ∙ ap (λ l. done ++ l) (reverse-append new (x ∷ []))

pub left_after : {A : Type 0} (all done old new : List A) (x : A) → IsLeft all done old → old ≡ new ++ x ∷ [] → IsLeft all (done ++ x ∷ []) new
left_after all done old new x left is = record { is = left_next all done old new x left is ∙ sym (append_assoc done (x ∷ []) (reverse new)) }

-- at the end
pub left_none : {A : Type 0} (all done rest : List A) → IsLeft all done rest → rest ≡ [] → all ≡ done
left_none all done rest left none = left.is ∙ ap (λ l. done ++ reverse l) none ∙ append-nil done

-- an element of a list has what all of it have
pub at_seam : {A : Type 0} (P : A → Type 0) (front : List A) (x : A) (more : List A) → All P (front ++ x ∷ more) → P x
at_seam P [] x more all = All-head P x more all
at_seam P (y ∷ front) x more all = at_seam P front x more (All-tail P y (front ++ x ∷ more) all)

-- ---- all pays of a batch

-- What holds while the pays of a batch are drafted; `turned` are all of them, the last one first, and `rest` those that are left.
pub record IsDrafting (chart : Chart) (history : List Entry) (day : Day) (turned : List Pay) (spare : ℕ) (rest : List Pay) (entries : List Entry) (frames : Filled) (index : References) (pairs : List Pair)
    (answers : List Answer) (capacity : ℕ) : Type 0 where
  pub done : List Pay
  pub left : IsLeft (reverse turned) done rest
  pub drafted : IsDrafted chart history day entries frames.bytes index.references pairs
  pub each : (most at_open now : ℕ) → AnswersInTurn chart day most at_open (untouched history now) done answers (untouched (history ++ entries) now)
  pub tried : list_all is_tried answers ≡ true
  pub from : AreFrom entries done
  pub count : length entries ≤ length done
  pub many : length answers ≡ length done
  pub seats : length rest ≤ index.spare
  pub room : length entries + length rest ≤ capacity
  pub bytes : spare ≤ frames.spare + rooms_for done
  pub enough : rooms_for (reverse turned) ≤ spare

-- at first
pub drafts_begin : (chart : Chart) (history : List Entry) (day : Day) (turned : List Pay) (frames : Filled) (index : References) (pairs : List Pair) (entries : List Entry) (answers : List Answer) (capacity : ℕ)
    → IsDrafted chart history day [] frames.bytes index.references pairs → entries ≡ [] → answers ≡ [] → length turned ≤ index.spare → length turned ≤ capacity → rooms_for (reverse turned) ≤ frames.spare
    → IsDrafting chart history day turned frames.spare turned entries frames index pairs answers capacity
drafts_begin chart history day turned frames index pairs entries answers capacity drafted none unanswered seats room enough = record {
  done = [];
  left = record { is = refl };
  drafted = subst (λ (es : List Entry). IsDrafted chart history day es frames.bytes index.references pairs) (sym none) drafted;
  each = λ most at_open now. subst (λ (x : List Answer × List Entry). AnswersInTurn chart day most at_open (untouched history now) [] x.0 (untouched x.1 now))
      (λ i. (sym unanswered i, (sym (append-nil history) ∙ ap (λ (es : List Entry). history ++ es) (sym none)) i)) refl;
  tried = ap (list_all is_tried) unanswered;
  from = λ k e at. absurd (none-some e (sym (ap (λ (es : List Entry). slice_get es k) none) ∙ at));
  count = omega (arith, ap length none);
  many = ap length unanswered;
  seats = seats;
  room = omega (arith, ap length none, room);
  bytes = omega arith;
  enough = enough;
}

-- the rooms of pays, with one more
pub rooms_more : (pays : List Pay) (pay : Pay) → rooms_for (pays ++ pay ∷ []) ≡ rooms_for pays + room_for pay
rooms_more pays pay = let sums = sum_by-append room_for pays (pay ∷ []) in let one = sum_by-cons room_for pay [] in omega (arith, sums, one)

-- those of pays in front of others
pub rooms_within : (front more : List Pay) (pay : Pay) → rooms_for front + room_for pay ≤ rooms_for (front ++ pay ∷ more)
rooms_within front more pay =
    let sums = sum_by-append room_for front (pay ∷ more) in
    let one = sum_by-cons room_for pay more in
    omega (arith, sums, one)

-- after one more
pub drafts_next : (chart : Chart) (history : List Entry) (day : Day) (turned : List Pay) (spare : ℕ) (rest new_rest : List Pay) (pay : Pay) (entries new_entries : List Entry) (frames new_frames : Filled) (index new_index : References)
    (pairs new_pairs : List Pair) (answers : List Answer) (answer : Answer) (capacity : ℕ)
    → IsDrafting chart history day turned spare rest entries frames index pairs answers capacity → rest ≡ new_rest ++ pay ∷ []
    → IsDrafted chart history day new_entries new_frames.bytes new_index.references new_pairs
    → history ++ new_entries ≡ history_after chart (history ++ entries) pay day answer
    → ((at_open now : ℕ) → AnswerShows chart (history ++ entries) pay day (gate_of chart (history ++ entries)) None at_open now now answer)
    → is_tried answer ≡ true → AddsOnly entries pay new_entries → index.spare ≤ new_index.spare + 1 → frames.spare ≤ new_frames.spare + room_for pay
    → IsDrafting chart history day turned spare new_rest new_entries new_frames new_index new_pairs (answers ++ answer ∷ []) capacity
drafts_next chart history day turned spare rest new_rest pay entries new_entries frames new_frames index new_index pairs new_pairs answers answer capacity old is drafted grown shows tried adds seats bytes =
    let size : length rest ≡ length new_rest + 1 = ap length is ∙ length-append new_rest (pay ∷ []) in
    let fewer = count_more entries new_entries pay adds in
    let longer : length (old.done ++ pay ∷ []) ≡ length old.done + 1 = length-append old.done (pay ∷ []) in
    record {
      done = old.done ++ pay ∷ [];
      left = left_after (reverse turned) old.done rest new_rest pay old.left is;
      drafted = drafted;
      each = λ most at_open now.
          let one = chain_snoc chart day most at_open now (untouched history now) (untouched (history ++ entries) now) old.done answers pay answer (old.each most at_open now) (shows at_open now) in
          subst (λ (s : Stage). AnswersInTurn chart day most at_open (untouched history now) (old.done ++ pay ∷ []) (answers ++ answer ∷ []) s) (stage_tried chart most (history ++ entries) (history ++ new_entries) pay day now answer tried grown) one;
      tried = all_tried answers answer old.tried tried;
      from = from_more entries new_entries old.done pay old.from adds;
      count = let count = old.count in omega (arith, count, fewer, longer);
      many = let many = old.many in omega (arith, many, longer, length-append answers (answer ∷ []));
      seats = let s = old.seats in omega (arith, s, size, seats);
      room = let r = old.room in omega (arith, r, size, fewer);
      bytes = let b = old.bytes in omega (arith, b, bytes, rooms_more old.done pay);
      enough = old.enough;
    }
  where
    all_tried : (xs : List Answer) (x : Answer) → list_all is_tried xs ≡ true → is_tried x ≡ true → list_all is_tried (xs ++ x ∷ []) ≡ true
    all_tried [] x all one = and_from (is_tried x) true one refl
    all_tried (y ∷ xs) x all one = let parts = and_parts (is_tried y) (list_all is_tried xs) all in and_from (is_tried y) (list_all is_tried (xs ++ x ∷ [])) parts.0 (all_tried xs x parts.1 one)

    stage_tried : (chart : Chart) (most : ℕ) (h next : List Entry) (pay : Pay) (day : Day) (now : ℕ) (answer : Answer) → is_tried answer ≡ true → next ≡ history_after chart h pay day answer
        → stage_after chart day most (untouched h now) pay answer now ≡ untouched next now
    stage_tried chart most h next pay day now (Ok committed) tried grown = ap (λ (x : List Entry). untouched x now) (sym grown)
    stage_tried chart most h next pay day now (Err (Conflict place)) tried grown = ap (λ (x : List Entry). untouched x now) (sym grown)
    stage_tried chart most h next pay day now (Err (Full entries end need)) tried grown = ap (λ (x : List Entry). untouched x now) (sym grown)
    stage_tried chart most h next pay day now (Err (DiskFault before after)) tried grown = absurd (cc (tried))
    stage_tried chart most h next pay day now (Err (Broken from to)) tried grown = absurd (cc (tried))
    stage_tried chart most h next pay day now (Err Memory) tried grown = absurd (cc (tried))

-- before any entry is drafted
pub drafted_none : (chart : Chart) (history : List Entry) (day : Day) (frames : List ℕ) (references : List (List ℕ)) (pairs : List Pair) → IsLegal chart history → frames ≡ [] → references ≡ references_of history
    → HasTotals pairs (length (accounts_of chart)) history → IsDrafted chart history day [] frames references pairs
drafted_none chart history day frames references pairs legal empty references_are totals = record {
  legal = subst (IsLegal chart) (sym (append-nil history)) legal;
  days = All-nil (λ (e : Entry). e.day ≡ day);
  written = All-nil IsEntry;
  frames_are = empty;
  references_are = references_are ∙ ap references_of (sym (append-nil history));
  totals = subst (HasTotals pairs (length (accounts_of chart))) (sym (append-nil history)) totals;
  fits = inl refl;
}

-- drafted entries, at least one
pub some_first : (entries : List Entry) → (length entries ≡ 0 → ⊥) → (first : Entry) × (more : List Entry) × (entries ≡ first ∷ more)
some_first [] some = absurd (some refl)
some_first (e ∷ entries) some = (e, entries, refl)

-- with which the history is another
pub grown : (history entries : List Entry) → (length entries ≡ 0 → ⊥) → history ++ entries ≡ history → ⊥
grown history entries some same = some (let size = length-append history entries in omega (arith, size, ap length same))

-- an element behind a front
pub get_behind : {A : Type 0} (xs ys : List A) (k : ℕ) → length xs ≤ k → slice_get (xs ++ ys) k ≡ slice_get ys (k - length xs)
get_behind [] ys k le = ap (slice_get ys) (omega arith)
get_behind (x ∷ xs) ys zero le = absurd (omega (arith, le))
get_behind (x ∷ xs) ys (suc k) le =
    let n : k - length xs ≡ suc k - suc (length xs) = omega arith in
    get_behind xs ys k (omega (arith, le)) ∙ ap (slice_get ys) n

-- ---- a pay whose reference is entered or drafted

module _ (chart : Chart) (history : List Entry) (pay : Pay) (day : Day) where
  pub repeat_shows : (end at_open now : ℕ) (answer : Answer) → Repeats history pay answer → AnswerShows chart history pay day end None at_open now now answer
  repeat_shows end at_open now (Ok (New place outcome)) it = absurd it
  repeat_shows end at_open now (Ok (Kept place outcome)) it = (refl, it.0, it.1, refl)
  repeat_shows end at_open now (Err (Conflict place)) it = (refl, it, refl)
  repeat_shows end at_open now (Err (Full entries at need)) it = absurd it
  repeat_shows end at_open now (Err (DiskFault before after)) it = absurd it
  repeat_shows end at_open now (Err (Broken from to)) it = absurd it
  repeat_shows end at_open now (Err Memory) it = absurd it

  pub repeat_leaves : (answer : Answer) → Repeats history pay answer → (history ≡ history_after chart history pay day answer) × (is_tried answer ≡ true)
  repeat_leaves (Ok (New place outcome)) it = absurd it
  repeat_leaves (Ok (Kept place outcome)) it = (sym (next_entered chart history pay day place it.0.first), refl)
  repeat_leaves (Err (Conflict place)) it = (refl, refl)
  repeat_leaves (Err (Full entries at need)) it = absurd it
  repeat_leaves (Err (DiskFault before after)) it = absurd it
  repeat_leaves (Err (Broken from to)) it = absurd it
  repeat_leaves (Err Memory) it = absurd it

-- the place of the closed gate behind drafted entries
pub end_is : (chart : Chart) (history : List Entry) (day : Day) (entries : List Entry) (frames : List ℕ) (references : List (List ℕ)) (pairs : List Pair) (start : ℕ) → AreBy (length history) chart
    → IsDrafted chart history day entries frames references pairs → start + 1 ≡ length (file_of chart history) → (start + length frames) + 1 ≡ length (file_of chart (history ++ entries))
end_is chart history day entries frames references pairs start by drafted place = omega (arith, place, file_all chart history entries by, ap length drafted.frames_are)

-- it is small where the file was
pub end_small : (chart : Chart) (history : List Entry) (day : Day) (entries : List Entry) (frames : List ℕ) (references : List (List ℕ)) (pairs : List Pair) (start : ℕ) → AreBy (length history) chart
    → IsDrafted chart history day entries frames references pairs → start + 1 ≡ length (file_of chart history) → start < 18446744073709551616 → start + length frames < 18446744073709551616
end_small chart history day entries frames references pairs start by drafted place small =
    let end = end_is chart history day entries frames references pairs start by drafted place in
    ⊎_elim
    (λ (none : entries ≡ []). omega (arith, small, ap length (drafted.frames_are ∙ ap gated_records none)))
    (λ (few : length (file_of chart (history ++ entries)) ≤ most_disk_bytes). omega (arith, end, few))
    drafted.fits
