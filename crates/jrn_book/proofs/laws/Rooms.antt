-- Which pays of a batch have room, and the history that they make.
use Rattle.std.proofs.Common.{◌≡◌, ℕ, ◌+◌, ◌<◌, ◌≤◌, ◌^◌, Bool, true, false, cond, List, [], ◌∷◌, ◌++◌, length, Option, Some, refl, sym, ap, ◌∙◌, subst, arith, inl, inr, length-append}
use Rattle.std.specs.Prelude.{nat_le, is_some, Ok, Err}
use Rattle.std.specs.List.{list_all}
use Rattle.std.proofs.lemmas.Bool.{le-leb, lt-leb, or_from, or_left, or_right}
use Rattle.corr_ids.specs.declared.day.Day.{Day}
use Rattle.day_model.specs.declared.entry.Entry.{Entry}
use Rattle.day_model.specs.declared.pay.Pay.{Pay}
use Rattle.day_model.specs.Chart.{AreBy, Chart}
use Rattle.day_model.specs.Log.{most_entries}
use Rattle.day_model.specs.Next.{entered_at, entry_of, next_history}
use Rattle.jrn_codec.specs.Record.{entry_bytes}
use Rattle.jrn_book.specs.Answers.{Answer, AnswerShows, HasRoomFor, IsFull, history_after, need_of}
use Rattle.jrn_book.specs.declared.answer.Committed.TheVariants.{New, Kept}
use Rattle.jrn_book.specs.declared.answer.CommitFault.TheVariants.{Conflict, Full, DiskFault, Broken, Memory}
use Rattle.jrn_book.specs.Batches.{AnswersInTurn, Stage, entered_of, gate_of, history_with, lacks_room, stage_after}
use Rattle.jrn_book.specs.inner.Batches.{is_tried}
use Rattle.jrn_book.specs.Journal.{file_of}
use Rattle.jrn_book.proofs.Chains.{both}
use Rattle.jrn_book.proofs.laws.Items.{by_later}
use Rattle.jrn_book.proofs.laws.Sizes.{file_more, gate_place}

-- the bytes of a file with an entry more, by the place of its closed gate
past_file : (file own end need most next : ℕ) → next ≡ file + (5 + own) → end + 1 ≡ file → need ≡ own + 6 → most < end + need → most + 1 ≤ next
past_file file own end need most next is place needs full = omega arith

within_file : (file own end need most next : ℕ) → next ≡ file + (5 + own) → end + 1 ≡ file → need ≡ own + 6 → end + need ≤ most → next < most + 1
within_file file own end need most next is place needs room = omega arith

module _ (chart : Chart) (h : List Entry) (pay : Pay) (day : Day) (by : AreBy (length h) chart) where
  abbrev e : Entry
  e = entry_of chart h pay day

  -- a pay without room
  pub no_room : (end : ℕ) → end + 1 ≡ length (file_of chart h) → IsFull h end (need_of chart h pay day) → lacks_room chart h pay day ≡ true
  no_room end place (inl full) =
      or_left (nat_le most_entries (length h)) (nat_le (2 ^ 30 + 1) (length (file_of chart (h ++ e ∷ [])))) (le-leb most_entries (length h) (omega (arith, full)))
  no_room end place (inr full) =
      or_right (nat_le most_entries (length h)) (nat_le (2 ^ 30 + 1) (length (file_of chart (h ++ e ∷ []))))
      (le-leb (2 ^ 30 + 1) (length (file_of chart (h ++ e ∷ [])))
      (past_file (length (file_of chart h)) (length (entry_bytes e)) end (need_of chart h pay day) (2 ^ 30) (length (file_of chart (h ++ e ∷ []))) (file_more chart h e by) place refl full))

  -- and one with room
  pub some_room : (end : ℕ) → end + 1 ≡ length (file_of chart h) → HasRoomFor h end (need_of chart h pay day) → lacks_room chart h pay day ≡ false
  some_room end place room =
      or_from (nat_le most_entries (length h)) (nat_le (2 ^ 30 + 1) (length (file_of chart (h ++ e ∷ [])))) (lt-leb most_entries (length h) room.entries)
      (lt-leb (2 ^ 30 + 1) (length (file_of chart (h ++ e ∷ [])))
      (within_file (length (file_of chart h)) (length (entry_bytes e)) end (need_of chart h pay day) (2 ^ 30) (length (file_of chart (h ++ e ∷ []))) (file_more chart h e by) place refl room.bytes))

same_both : {A : Type 0} (b : Bool) (x y : A) → y ≡ x → cond b x y ≡ x
same_both true x y is = refl
same_both false x y is = is

-- a reference that is entered adds nothing, with room or without
pub with_known : (chart : Chart) (h : List Entry) (pay : Pay) (day : Day) (place : ℕ) → entered_at pay.mir h ≡ Some place → history_with chart h pay day ≡ h
with_known chart h pay day place is =
    same_both (lacks_room chart h pay day) h (next_history chart h pay day) (ap (λ (o : Option ℕ). cond (is_some o) h (h ++ entry_of chart h pay day ∷ [])) is)

-- what a tried answer leaves is what the pay makes where there is room
pub tried_makes : (chart : Chart) (stage : Stage) (pay : Pay) (day : Day) (at_open now : ℕ) (answer : Answer) → AreBy (length stage.history) chart
    → AnswerShows chart stage.history pay day (gate_of chart stage.history) stage.failed at_open stage.faults now answer → is_tried answer ≡ true
    → history_after chart stage.history pay day answer ≡ history_with chart stage.history pay day
tried_makes chart stage pay day at_open now (Ok (New place outcome)) by shows tried =
    sym (ap (λ (b : Bool). cond b stage.history (next_history chart stage.history pay day))
    (some_room chart stage.history pay day by (gate_of chart stage.history) (gate_place chart stage.history) shows.2))
tried_makes chart stage pay day at_open now (Ok (Kept place outcome)) by shows tried =
    ap (λ (o : Option ℕ). cond (is_some o) stage.history (stage.history ++ entry_of chart stage.history pay day ∷ [])) shows.1.first
    ∙ sym (with_known chart stage.history pay day place shows.1.first)
tried_makes chart stage pay day at_open now (Err (Conflict place)) by shows tried = sym (with_known chart stage.history pay day place shows.1.first)
tried_makes chart stage pay day at_open now (Err (Full entries end need)) by shows tried =
    sym (ap (λ (b : Bool). cond b stage.history (next_history chart stage.history pay day))
    (no_room chart stage.history pay day by (gate_of chart stage.history) (gate_place chart stage.history)
    (subst (λ (x : ℕ × ℕ). IsFull stage.history x.0 x.1) (λ i. (shows.3 i, shows.4 i)) shows.5)))
tried_makes chart stage pay day at_open now (Err (DiskFault before after)) by shows tried = absurd (cc)
tried_makes chart stage pay day at_open now (Err (Broken from to)) by shows tried = absurd (cc)
tried_makes chart stage pay day at_open now (Err Memory) by shows tried = absurd (cc)

-- a history is no shorter after an answer
no_shorter : (chart : Chart) (h : List Entry) (pay : Pay) (day : Day) (answer : Answer) → length h ≤ length (history_after chart h pay day answer)
no_shorter chart h pay day (Ok committed) = by (is_some (entered_at pay.mir h))
  where
    by : (b : Bool) → length h ≤ length (cond b h (h ++ entry_of chart h pay day ∷ []))
    by true = omega arith
    by false = omega (arith, length-append h (entry_of chart h pay day ∷ []))
no_shorter chart h pay day (Err fault) = omega arith

-- after tried answers the history is what the pays make
pub chain_entered : (chart : Chart) (day : Day) (most at_open : ℕ) (first last : Stage) (pays : List Pay) (answers : List Answer) → AreBy (length first.history) chart
    → AnswersInTurn chart day most at_open first pays answers last → list_all is_tried answers ≡ true → last.history ≡ entered_of chart first.history pays day
chain_entered chart day most at_open first last [] [] by chain tried = ap (λ (s : Stage). s.history) chain
chain_entered chart day most at_open first last [] (a ∷ answers) by chain tried = absurd chain
chain_entered chart day most at_open first last (p ∷ pays) [] by chain tried = absurd chain
chain_entered chart day most at_open first last (p ∷ pays) (a ∷ answers) by chain tried =
    let next = stage_after chart day most first p a chain.0 in
    let parts = both (is_tried a) (list_all is_tried answers) tried in
    let later = by_later chart (length first.history) (length next.history) (no_shorter chart first.history p day a) by in
    chain_entered chart day most at_open next last pays answers later chain.2 parts.1
    ∙ ap (λ (h : List Entry). entered_of chart h pays day) (tried_makes chart first p day at_open chain.0 a by chain.1 parts.0)
