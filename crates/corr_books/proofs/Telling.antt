-- How a pass is told the answers to a batch, one after another.
use Rattle.std.proofs.Common.{◌≡◌, ℕ, ◌+◌, ◌<◌, ◌≤◌, Bool, true, false, List, [], ◌∷◌, length, drop, get_or, Ok, Err, refl, sym, ap, ◌∙◌, subst, arith}
use Rattle.std.proofs.lemmas.List.{drop_all, drop_more}
use Rattle.corr_ids.specs.declared.day.Day.{Day}
use Rattle.day_model.specs.declared.pay.Pay.{Pay}
use Rattle.front_word.specs.inner.Blank.{blank_pay}
use Rattle.front_word.specs.Known.{PassKnows, WriterKnows}
use Rattle.front_word.specs.Rule.{IsNumber}
use Rattle.jrn_book.specs.Answers.{Answer}
use Rattle.jrn_book.specs.declared.answer.Committed.TheVariants.{New, Kept}
use Rattle.jrn_book.specs.declared.answer.CommitFault.TheVariants.{Conflict, Full, DiskFault, Broken, Memory}
use Rattle.corr_books.specs.inner.Meeting.{IsNext, MeetsAfter, writer_after}
use Rattle.corr_books.specs.Opening.{Opening}
use Rattle.corr_books.specs.Passes.{Belongs}
use Rattle.corr_books.specs.TellingAll.{OneOf, stops}
use Rattle.corr_books.specs.inner.TellingAll.{AreNextInTurn, MeetsInTurn}

-- what an answer leaves of a writer
pub record KeepsWriter (w w' : WriterKnows) : Type 0 where
  pub owed : w'.owed ≡ w.owed
  pub table : w'.table ≡ w.table
  pub made : w'.made ≡ w.made
  pub base : w'.base ≡ w.base

keeps_writer : (w : WriterKnows) (number : ℕ) (pay : Pay) (day : Day) (answer : Answer) → KeepsWriter w (writer_after w number pay day answer)
keeps_writer w number pay day (Ok (New place outcome)) = record { owed = refl; table = refl; made = refl; base = refl }
keeps_writer w number pay day (Ok (Kept place outcome)) = record { owed = refl; table = refl; made = refl; base = refl }
keeps_writer w number pay day (Err (Conflict place)) = record { owed = refl; table = refl; made = refl; base = refl }
keeps_writer w number pay day (Err (Full entries end need)) = record { owed = refl; table = refl; made = refl; base = refl }
keeps_writer w number pay day (Err (DiskFault before after)) = record { owed = refl; table = refl; made = refl; base = refl }
keeps_writer w number pay day (Err (Broken from now)) = record { owed = refl; table = refl; made = refl; base = refl }
keeps_writer w number pay day (Err Memory) = record { owed = refl; table = refl; made = refl; base = refl }

-- and of a pass
pub record KeepsPass (old new : PassKnows) : Type 0 where
  pub table : new.table ≡ old.table
  pub number : new.number ≡ old.number
  pub base : new.base ≡ old.base

keeps_pass : (w w' : WriterKnows) (answer : Answer) (old new : PassKnows) → MeetsAfter w w' answer old new → KeepsPass old new
keeps_pass w w' (Ok committed) old new met = record { table = met.table; number = met.number; base = met.base }
keeps_pass w w' (Err (Conflict place)) old new met = record { table = met.table; number = met.number; base = met.base }
keeps_pass w w' (Err (Full entries end need)) old new met = record { table = met.table; number = met.number; base = met.base }
keeps_pass w w' (Err (DiskFault before after)) old new met = record { table = met.table; number = met.number; base = met.base }
keeps_pass w w' (Err (Broken from now)) old new met = record { table = met.table; number = met.number; base = met.base }
keeps_pass w w' (Err Memory) old new met =
    record { table = ap (λ (p : PassKnows). p.table) met; number = ap (λ (p : PassKnows). p.number) met; base = ap (λ (p : PassKnows). p.base) met }

keeps_none : (old new : PassKnows) → new ≡ old → KeepsPass old new
keeps_none old new same =
    record { table = ap (λ (p : PassKnows). p.table) same; number = ap (λ (p : PassKnows). p.number) same; base = ap (λ (p : PassKnows). p.base) same }

keeps_on : (old next new : PassKnows) → KeepsPass old next → KeepsPass next new → KeepsPass old new
keeps_on old next new first then = record { table = then.table ∙ first.table; number = then.number ∙ first.number; base = then.base ∙ first.base }

-- where a batch ends, or goes on
pub either_way : {A B P : Type 0} (b : Bool) → (A → P) → (B → P) → OneOf b A B → P
either_way true ended on it = ended it
either_way false ended on it = on it

-- so do the answers to a batch
keeps_in_turn : (number : ℕ) (day : Day) (pays : List Pay) (answers : List Answer) (w last : WriterKnows) (old new : PassKnows) → MeetsInTurn w number pays day answers old last new → KeepsPass old new
keeps_in_turn number day [] answers w last old new met = keeps_none old new met.1
keeps_in_turn number day (pay ∷ pays) [] w last old new met = keeps_none old new met.1
keeps_in_turn number day (pay ∷ pays) (answer ∷ answers) w last old new met =
    let after : WriterKnows = writer_after w number pay day answer in
    keeps_on old met.0 new (keeps_pass w after answer old met.0 met.1)
    (either_way (stops answer)
    (λ (ended : (last ≡ after) × (new ≡ met.0)). keeps_none met.0 new ended.1)
    (λ (on : MeetsInTurn after number pays day answers met.0 last new). keeps_in_turn number day pays answers after last met.0 new on)
    met.2)

-- a pass stays one of the books'
pub belongs_on : (o : Opening) (number : ℕ) (day : Day) (pays : List Pay) (answers : List Answer) (w last : WriterKnows) (old new : PassKnows) → MeetsInTurn w number pays day answers old last new → Belongs o old
    → Belongs o new
belongs_on o number day pays answers w last old new met it =
    let kept = keeps_in_turn number day pays answers w last old new met in
    record { table = kept.table ∙ it.table; base = kept.base ∙ it.base; number = subst (IsNumber o.made) (sym kept.number) it.number }

module _ (day : Day) (first : WriterKnows) (start : PassKnows) (pays : List Pay) (answers : List Answer) where
  -- So many answers were told: what the rest makes of the writer and the pass so far is what all of them make of them at first.
  pub record HasTold (k : ℕ) (w : WriterKnows) (pass : PassKnows) : Type 0 where
    pub so_far : (last : WriterKnows) (new : PassKnows) → MeetsInTurn w start.number (drop k pays) day (drop k answers) pass last new → MeetsInTurn first start.number pays day answers start last new
    pub next : AreNextInTurn w start.number (drop k pays) day (drop k answers)
    pub writer : KeepsWriter first w
    pub pass_same : KeepsPass start pass
    pub room : length answers ≤ pass.spare + k

  pub none_told : AreNextInTurn first start.number pays day answers → length pays ≡ length answers → length pays ≤ start.spare → HasTold 0 first start
  none_told next many room = record {
    so_far = λ last new rest. rest;
    next = next;
    writer = record { owed = refl; table = refl; made = refl; base = refl };
    pass_same = record { table = refl; number = refl; base = refl };
    room = omega (arith, many, room);
  }

  -- there is room for a place
  pub some_room : (k : ℕ) (w : WriterKnows) (pass : PassKnows) → k < length answers → HasTold k w pass → 0 < pass.spare
  some_room k w pass lt t = let room = t.room in omega (arith, room, lt)

  -- nothing is left
  pub all_told : (k : ℕ) (w : WriterKnows) (pass : PassKnows) → length pays ≡ length answers → length answers ≤ k → HasTold k w pass → MeetsInTurn first start.number pays day answers start w pass
  all_told k w pass many le t =
      t.so_far w pass
      (subst (λ (ps : List Pay). MeetsInTurn w start.number ps day (drop k answers) pass w pass) (sym (drop_all k pays (omega (arith, many, le))))
      (subst (λ (rest : List Answer). MeetsInTurn w start.number [] day rest pass w pass) (sym (drop_all k answers le)) (refl, refl)))

  module _ (k : ℕ) (w : WriterKnows) (pass : PassKnows) (d : Answer) (many : length pays ≡ length answers) (lt : k < length answers) (t : HasTold k w pass) where
    -- the answer
    abbrev pub answer : Answer
    answer = get_or answers k d

    -- the pay that is answered
    abbrev pub paid : Pay
    paid = get_or pays k blank_pay

    abbrev After : WriterKnows
    After = writer_after w start.number paid day answer

    left_pays : drop k pays ≡ paid ∷ drop (k + 1) pays
    left_pays = drop_more pays k blank_pay (omega (arith, many, lt))

    left_answers : drop k answers ≡ answer ∷ drop (k + 1) answers
    left_answers = drop_more answers k d lt

    -- what is left, one after another
    next_left : IsNext w.base w.acts answer × AreNextInTurn After start.number (drop (k + 1) pays) day (drop (k + 1) answers)
    next_left = subst (λ (x : List Pay × List Answer). AreNextInTurn w start.number x.0 day x.1) (λ i. (left_pays i, left_answers i)) t.next

    pub is_next : IsNext w.base w.acts answer
    is_next = next_left.0

    module _ (w' : WriterKnows) (next : PassKnows) (after : w' ≡ writer_after w pass.number paid day answer) (met : MeetsAfter w w' answer pass next) where
      is_after : w' ≡ After
      is_after = after ∙ ap (λ n. writer_after w n paid day answer) t.pass_same.number

      met_after : MeetsAfter w After answer pass next
      met_after = subst (λ (x : WriterKnows). MeetsAfter w x answer pass next) is_after met

      -- what is told from here on
      behind : (last : WriterKnows) (new : PassKnows)
          → OneOf (stops answer) ((last ≡ After) × (new ≡ next)) (MeetsInTurn After start.number (drop (k + 1) pays) day (drop (k + 1) answers) next last new)
          → MeetsInTurn first start.number pays day answers start last new
      behind last new rest =
          t.so_far last new
          (subst (λ (x : List Pay × List Answer). MeetsInTurn w start.number x.0 day x.1 pass last new) (λ i. (sym left_pays i, sym left_answers i)) (next, met_after, rest))

      -- the batch ends here
      pub ends_here : stops answer ≡ true → MeetsInTurn first start.number pays day answers start w' next
      ends_here stop =
          behind w' next
          (subst (λ (b : Bool). OneOf b ((w' ≡ After) × (next ≡ next)) (MeetsInTurn After start.number (drop (k + 1) pays) day (drop (k + 1) answers) next w' next)) (sym stop) (is_after, refl))

      -- it goes on
      pub one_told : stops answer ≡ false → pass.spare ≤ next.spare + 1 → HasTold (k + 1) w' next
      one_told on left =
          let kept : KeepsWriter w w' = subst (KeepsWriter w) (sym is_after) (keeps_writer w start.number paid day answer) in
          let same : KeepsPass pass next = keeps_pass w w' answer pass next met in
          record {
            so_far = λ last new rest. behind last new
                (subst (λ (b : Bool). OneOf b ((last ≡ After) × (new ≡ next)) (MeetsInTurn After start.number (drop (k + 1) pays) day (drop (k + 1) answers) next last new)) (sym on)
                (subst (λ (x : WriterKnows). MeetsInTurn x start.number (drop (k + 1) pays) day (drop (k + 1) answers) next last new) is_after rest));
            next = subst (λ (x : WriterKnows). AreNextInTurn x start.number (drop (k + 1) pays) day (drop (k + 1) answers)) (sym is_after) next_left.1;
            writer = record { owed = kept.owed ∙ t.writer.owed; table = kept.table ∙ t.writer.table; made = kept.made ∙ t.writer.made; base = kept.base ∙ t.writer.base };
            pass_same = record { table = same.table ∙ t.pass_same.table; number = same.number ∙ t.pass_same.number; base = same.base ∙ t.pass_same.base };
            room = let room = t.room in omega (arith, room, left);
          }
