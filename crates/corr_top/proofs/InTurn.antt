-- One worker, all of whose entries are its own: it enters the pay of a message as one thread does.
use Rattle.std.proofs.Common.{◌≡◌, inl, inr, ℕ, zero, suc, ◌+◌, ◌≤◌, List, [], ◌∷◌, ◌++◌, length, take, Option, Some, None, Result, Ok, Err, cond, refl, sym, ap, ◌∙◌, subst, arith, append-nil, append_assoc, length-append, true, false}
use Rattle.std.specs.Prelude.{is_some, slice_get}
use Rattle.std.proofs.lemmas.Bool.{cond-false, cond-true}
use Rattle.std.proofs.lemmas.Option.{same_Some, none-some}
use mathlib.Core.List.{IsPrefix}
use Rattle.day_model.specs.declared.entry.Entry.{Entry}
use Rattle.day_model.specs.Chart.{AreBy}
use Rattle.day_model.specs.declared.entry.Outcome.{Outcome}
use Rattle.day_model.specs.declared.pay.Pay.{Pay}
use Rattle.day_model.specs.declared.reply.Reply.{Reply}
use Rattle.day_model.specs.Balance.{outcome_of}
use Rattle.day_model.specs.Legal.{IsLegal}
use Rattle.day_model.specs.Next.{entered_at, entry_of, fold_of, next_history}
use Rattle.front_word.specs.declared.view.Act.{Act}
use Rattle.front_word.specs.Known.{PassKnows}
use Rattle.front_word.proofs.laws.Prefixes.{get_below}
use Rattle.jrn_book.specs.Answers.{Answer}
use Rattle.jrn_book.specs.declared.answer.Committed.TheVariants.{New, Kept}
use Rattle.jrn_book.specs.declared.answer.CommitFault.TheVariants as fault
use Rattle.work_pool.specs.Served.{AreRising}
use Rattle.corr_books.specs.Opening.{Opening}
use Rattle.corr_books.specs.Stand.{history_of}
use Rattle.jrn_book.specs.Answers.{IsFull}
use Rattle.corr_books.specs.Telling.{NothingAdded, ShowsFull, ShowsRoom, Told, entry_on, known_to}
use Rattle.corr_books.proofs.laws.Histories.{length-history_of, history_of-push, take_front}
use Rattle.corr_top.specs.declared.desk.Halt.{Halt}
use Rattle.corr_top.specs.declared.desk.Halt.TheVariants as halt
use Rattle.corr_top.specs.declared.desk.Served.{Served}
use Rattle.corr_top.specs.declared.desk.Served.TheVariants as served
use Rattle.corr_top.specs.declared.message.NoPay.{NoPay}
use Rattle.corr_top.specs.Message.{pays_in}
use Rattle.jrn_book.specs.Batches.{entered_of, history_with, lacks_room}
use Rattle.corr_top.specs.inner.Serving.{AnswersMessage, IsTried, served_of}
use Rattle.jrn_book.proofs.laws.Items.{by_later}
use Rattle.jrn_book.proofs.laws.Rooms.{no_room, some_room, with_known}
use Rattle.day_model.proofs.laws.Folds.{get_at, new_before}

-- ---- numbers

-- a rising list of all numbers from one to another begins with the first
pub first_is : (low high : ℕ) (numbers : List ℕ) → AreRising numbers → ((i n : ℕ) → slice_get numbers i ≡ Some n → low ≤ n) → (i : ℕ) → slice_get numbers i ≡ Some low → slice_get numbers 0 ≡ Some low
first_is low high numbers rising least zero at = at
first_is low high [] rising least (suc i) at = absurd (none-some low at)
first_is low high (m ∷ numbers) rising least (suc i) at =
    let less = rising 0 (suc i) m low (omega arith) refl at in
    let more = least 0 m refl in absurd (omega (arith, less, more))

-- ---- what one pass adds, where all entries are its own

-- past what was known there is nothing, or one act
record IsOneMore (old new : List Act) (a : Act) : Type 0 where
  is : new ≡ old ++ a ∷ []

none_more : (old more new : List Act) (number : ℕ) → old ++ more ≡ new → ((i : ℕ) (a : Act) → slice_get new i ≡ Some a → a.by ≡ number)
    → ((i : ℕ) (a : Act) → slice_get new i ≡ Some a → length old ≤ i → a.by ≡ number → ⊥) → new ≡ old
none_more old [] new number is tags nothing = sym is ∙ append-nil old
none_more old (x ∷ more) new number is tags nothing =
    let at : slice_get new (length old) ≡ Some x = subst (λ (l : List Act). slice_get l (length old) ≡ Some x) is (get_at old x more) in
    absurd (nothing (length old) x at (omega arith) (tags (length old) x at))

one_more : (old more new : List Act) (number at : ℕ) (act : Act) → old ++ more ≡ new → ((i : ℕ) (a : Act) → slice_get new i ≡ Some a → a.by ≡ number)
    → length old ≤ at → slice_get new at ≡ Some act → ((i : ℕ) (a : Act) → slice_get new i ≡ Some a → length old ≤ i → a.by ≡ number → i ≡ at) → IsOneMore old new act
one_more old [] new number at act is tags past there alone =
    let b = get_below new at act there in
    let e : length new ≡ length old = ap length (sym is ∙ append-nil old) in absurd (omega (arith, b, e, past))
one_more old (x ∷ []) new number at act is tags past there alone =
    let here : slice_get new (length old) ≡ Some x = subst (λ (l : List Act). slice_get l (length old) ≡ Some x) is (get_at old x []) in
    let place : length old ≡ at = alone (length old) x here (omega arith) (tags (length old) x here) in
    let same : x ≡ act = same_Some x act (sym here ∙ ap (slice_get new) place ∙ there) in
    record { is = sym is ∙ ap (λ (a : Act). old ++ a ∷ []) same }
one_more old (x ∷ y ∷ more) new number at act is tags past there alone =
    let here : slice_get new (length old) ≡ Some x = subst (λ (l : List Act). slice_get l (length old) ≡ Some x) is (get_at old x (y ∷ more)) in
    let whole : (old ++ x ∷ []) ++ y ∷ more ≡ new = append_assoc old (x ∷ []) (y ∷ more) ∙ is in
    let next : slice_get new (length (old ++ x ∷ [])) ≡ Some y = subst (λ (l : List Act). slice_get l (length (old ++ x ∷ [])) ≡ Some y) whole (get_at (old ++ x ∷ []) y more) in
    let longer : length (old ++ x ∷ []) ≡ length old + 1 = length-append old (x ∷ []) in
    let one : length old ≡ at = alone (length old) x here (omega arith) (tags (length old) x here) in
    let two : length (old ++ x ∷ []) ≡ at = alone (length (old ++ x ∷ [])) y next (omega (arith, longer)) (tags (length (old ++ x ∷ [])) y next) in absurd (omega (arith, one, two, longer))

module _ (o : Opening) where
  -- the history as the pass knows it goes on by a pay
  abbrev pub GoesOn : Pay → PassKnows → PassKnows → Type 0
  GoesOn pay old new = known_to o new ≡ next_history o.accounts (known_to o old) pay o.day

  abbrev pub AllTagged : PassKnows → ℕ → Type 0
  AllTagged p number = (i : ℕ) (a : Act) → slice_get p.known i ≡ Some a → a.by ≡ number

  entered_next : (history : List Entry) (pay : Pay) (place : ℕ) → entered_at pay.mir history ≡ Some place → next_history o.accounts history pay o.day ≡ history
  entered_next history pay place at = ap (λ (found : Option ℕ). cond (is_some found) history (history ++ entry_of o.accounts history pay o.day ∷ [])) at

  new_next : (history : List Entry) (pay : Pay) → entered_at pay.mir history ≡ None → next_history o.accounts history pay o.day ≡ history ++ entry_of o.accounts history pay o.day ∷ []
  new_next history pay none = ap (λ (found : Option ℕ). cond (is_some found) history (history ++ entry_of o.accounts history pay o.day ∷ [])) none

  -- New adds one entry at the end
  new_known : (pay : Pay) (old new : PassKnows) (place : ℕ) (outcome : Outcome) → Told o pay old (Ok (New place outcome)) new → AllTagged new old.number
      → new.known ≡ old.known ++ record { by = old.number; entry = entry_on o pay outcome } ∷ []
  new_known pay old new place outcome t tags =
      let added = t.says in
      let g = t.grows tt in
      (one_more old.known g.known.0 new.known old.number added.at (record { by = old.number; entry = entry_on o pay outcome }) g.known.1 tags added.past added.there added.alone).is

  -- ahead of which stands what the pass knew
  new_front : (pay : Pay) (old new : PassKnows) (place : ℕ) (outcome : Outcome) → (t : Told o pay old (Ok (New place outcome)) new) → AllTagged new old.number → take t.says.at new.known ≡ old.known
  new_front pay old new place outcome t tags =
      let added = t.says in
      let act : Act = record { by = old.number; entry = entry_on o pay outcome } in
      let one = new_known pay old new place outcome t tags in
      let there : added.at ≡ length old.known =
      (let below = get_below new.known added.at act added.there in
      let longer : length new.known ≡ length old.known + 1 = ap length one ∙ length-append old.known (act ∷ []) in
      let past = added.past in omega (arith, below, longer, past)) in
      ap (λ (n : ℕ). take n new.known) there ∙ ap (take (length old.known)) one ∙ take_front old.known act

  goes_new : (pay : Pay) (old new : PassKnows) (place : ℕ) (outcome : Outcome) → Told o pay old (Ok (New place outcome)) new → AllTagged new old.number → GoesOn pay old new
  goes_new pay old new place outcome t tags =
      let added = t.says in
      let e = entry_on o pay outcome in
      let act : Act = record { by = old.number; entry = e } in
      let history : known_to o new ≡ known_to o old ++ e ∷ [] = ap (history_of o.base) (new_known pay old new place outcome t tags) ∙ history_of-push o.base old.known act in
      let decided : outcome ≡ outcome_of o.accounts (known_to o old) pay =
      added.decided ∙ ap (λ (l : List Act). outcome_of o.accounts (history_of o.base l) pay) (new_front pay old new place outcome t tags) in
      let is : e ≡ entry_of o.accounts (known_to o old) pay o.day = ap (entry_on o pay) decided in
      let none = new_before o.accounts (known_to o old) e [] (subst (λ (h : List Entry). IsLegal o.accounts h) history (t.grows tt).legal).rules in
      history ∙ ap (λ (x : Entry). known_to o old ++ x ∷ []) is ∙ sym (new_next (known_to o old) pay none)

  -- an answer that adds nothing
  pub same_known : (old new : PassKnows) → IsPrefix old.known new.known → NothingAdded old new → AllTagged new old.number → known_to o new ≡ known_to o old
  same_known old new g nothing tags = ap (history_of o.base) (none_more old.known g.0 new.known old.number g.1 tags nothing)

  -- a pay that is entered there already
  stays_known : (pay : Pay) (old new : PassKnows) (place : ℕ) → entered_at pay.mir (known_to o new) ≡ Some place → known_to o new ≡ known_to o old → entered_at pay.mir (known_to o old) ≡ Some place
  stays_known pay old new place at same = subst (λ (h : List Entry). entered_at pay.mir h ≡ Some place) same at

  -- a message that has a reply goes on as one thread does
  pub goes_on : (reading : Result Pay NoPay) (old new : PassKnows) (reply : Reply) → AnswersMessage o reading old new (served.Reply reply) → AllTagged new old.number
      → known_to o new ≡ fold_of o.accounts (known_to o old) (pays_in (reading ∷ [])) o.day
  goes_on (Ok pay) old new reply (inl none) tags = absurd (cc (none.1))
  goes_on (Ok pay) old new reply (inr s) tags = cases s.0 s.1 s.3
    where
      cases : (answer : Answer) → Told o pay old answer new → served.Reply reply ≡ served_of pay.mir answer → GoesOn pay old new
      cases (Ok (New place outcome)) t is = goes_new pay old new place outcome t tags
      cases (Ok (Kept place outcome)) t is =
          let same = same_known old new (t.grows tt).known t.says.1 tags in
          same ∙ sym (entered_next (known_to o old) pay place (stays_known pay old new place t.says.0.0.first same))
      cases (Err (fault.Conflict place)) t is =
          let same = same_known old new (t.grows tt).known t.says.1 tags in
          same ∙ sym (entered_next (known_to o old) pay place (stays_known pay old new place t.says.0.first same))
      cases (Err (fault.Full entries end need)) t is = absurd (cc (is))
      cases (Err (fault.DiskFault before after)) t is = absurd (cc (is))
      cases (Err (fault.Broken at_open now)) t is = absurd (cc (is))
      cases (Err fault.Memory) t is = absurd (cc (is))
  goes_on (Err why) old new reply s tags = ap (λ (p : PassKnows). known_to o p) s.0

  -- one that has a reply or finds no room goes on as one thread does that passes over pays without room
  pub tries_on : AreBy (length o.base) o.accounts → (reading : Result Pay NoPay) (old new : PassKnows) (made : Served) → IsTried made → AnswersMessage o reading old new made → AllTagged new old.number
      → known_to o new ≡ entered_of o.accounts (known_to o old) (pays_in (reading ∷ [])) o.day
  tries_on by (Ok pay) old new made tried (inl none) tags = absurd (subst IsTried none.1 tried)
  tries_on by (Ok pay) old new made tried (inr s) tags = cases s.0 s.1 (subst IsTried s.3 tried)
    where
      since : AreBy (length (known_to o old)) o.accounts
      since = by_later o.accounts (length o.base) (length (known_to o old)) (let l = length-history_of o.base old.known in omega (arith, l)) by

      room_with : (h : List Entry) → lacks_room o.accounts h pay o.day ≡ false → history_with o.accounts h pay o.day ≡ next_history o.accounts h pay o.day
      room_with h has = cond-false (lacks_room o.accounts h pay o.day) h (next_history o.accounts h pay o.day) has

      none_with : (h : List Entry) → lacks_room o.accounts h pay o.day ≡ true → history_with o.accounts h pay o.day ≡ h
      none_with h lacks = cond-true (lacks_room o.accounts h pay o.day) h (next_history o.accounts h pay o.day) lacks

      cases : (answer : Answer) → Told o pay old answer new → IsTried (served_of pay.mir answer) → known_to o new ≡ history_with o.accounts (known_to o old) pay o.day
      cases (Ok (New place outcome)) t is =
          let room = subst (λ (l : List Act). ShowsRoom o pay (history_of o.base l)) (new_front pay old new place outcome t tags) t.says.room in
          goes_new pay old new place outcome t tags ∙ sym (room_with (known_to o old) (some_room o.accounts (known_to o old) pay o.day since room.end room.end_is room.room))
      cases (Ok (Kept place outcome)) t is =
          let same = same_known old new (t.grows tt).known t.says.1 tags in
          same ∙ sym (with_known o.accounts (known_to o old) pay o.day place (stays_known pay old new place t.says.0.0.first same))
      cases (Err (fault.Conflict place)) t is =
          let same = same_known old new (t.grows tt).known t.says.1 tags in
          same ∙ sym (with_known o.accounts (known_to o old) pay o.day place (stays_known pay old new place t.says.0.first same))
      cases (Err (fault.Full entries end need)) t is =
          let same = same_known old new (t.grows tt).known t.says.1 tags in
          let shows = subst (λ (h : List Entry). ShowsFull o pay h entries end need) same t.says.0 in
          let lacks = no_room o.accounts (known_to o old) pay o.day since end shows.end_is (subst (IsFull (known_to o old) end) shows.need_is shows.full) in
          same ∙ sym (none_with (known_to o old) lacks)
      cases (Err (fault.DiskFault before after)) t is = absurd is
      cases (Err (fault.Broken at_open now)) t is = absurd is
      cases (Err fault.Memory) t is = absurd is
  tries_on by (Err why) old new made tried s tags = ap (λ (p : PassKnows). known_to o p) s.0

  -- one that stops its worker adds nothing
  pub stops_here : (reading : Result Pay NoPay) (old new : PassKnows) (why : Halt) → AnswersMessage o reading old new (served.Stopped why) → AllTagged new old.number → known_to o new ≡ known_to o old
  stops_here (Ok pay) old new why (inl none) tags = ap (λ (p : PassKnows). known_to o p) none.0
  stops_here (Ok pay) old new why (inr s) tags = cases s.0 s.1 s.3
    where
      cases : (answer : Answer) → Told o pay old answer new → served.Stopped why ≡ served_of pay.mir answer → known_to o new ≡ known_to o old
      cases (Ok (New place outcome)) t is = absurd (cc (is))
      cases (Ok (Kept place outcome)) t is = absurd (cc (is))
      cases (Err (fault.Conflict place)) t is = absurd (cc (is))
      cases (Err (fault.Full entries end need)) t is = absurd (cc (is))
      cases (Err (fault.DiskFault before after)) t is = same_known old new (t.grows tt).known t.says.4 tags
      cases (Err (fault.Broken at_open now)) t is = same_known old new (t.grows tt).known t.says.3 tags
      cases (Err fault.Memory) t is = ap (λ (p : PassKnows). known_to o p) (t.memory refl)
  stops_here (Err why) old new halted s tags = ap (λ (p : PassKnows). known_to o p) s.0

  -- one over whose pay the disk failed asks for a pay that is not entered
  pub fails_new : (reading : Result Pay NoPay) (old new : PassKnows) (before after : ℕ) → AnswersMessage o reading old new (served.Stopped (halt.Disk before after))
      → (pay : Pay) × (reading ≡ Ok pay) × (entered_at pay.mir (known_to o new) ≡ None)
  fails_new (Ok pay) old new before after (inl none) = absurd (cc (none.1))
  fails_new (Ok pay) old new before after (inr s) = (pay, refl, cases s.0 s.1 s.3)
    where
      cases : (answer : Answer) → Told o pay old answer new → served.Stopped (halt.Disk before after) ≡ served_of pay.mir answer → entered_at pay.mir (known_to o new) ≡ None
      cases (Ok (New place outcome)) t is = absurd (cc (is))
      cases (Ok (Kept place outcome)) t is = absurd (cc (is))
      cases (Err (fault.Conflict place)) t is = absurd (cc (is))
      cases (Err (fault.Full entries end need)) t is = absurd (cc (is))
      cases (Err (fault.DiskFault from to)) t is = t.says.3
      cases (Err (fault.Broken at_open now)) t is = absurd (cc (is))
      cases (Err fault.Memory) t is = absurd (cc (is))
  fails_new (Err why) old new before after (same, inl none) = absurd (cc (none))
  fails_new (Err why) old new before after (same, inr told) = absurd (cc (told))

  -- one that finds no room shows it of what the pass knew
  pub full_shows : (reading : Result Pay NoPay) (old new : PassKnows) (entries end need : ℕ) → AnswersMessage o reading old new (served.Full entries end need) → AllTagged new old.number
      → (pay : Pay) × (reading ≡ Ok pay) × ShowsFull o pay (known_to o old) entries end need
  full_shows (Ok pay) old new entries end need (inl none) tags = absurd (cc (none.1))
  full_shows (Ok pay) old new entries end need (inr s) tags = (pay, refl, cases s.0 s.1 s.3)
    where
      cases : (answer : Answer) → Told o pay old answer new → served.Full entries end need ≡ served_of pay.mir answer → ShowsFull o pay (known_to o old) entries end need
      cases (Ok (New place outcome)) t is = absurd (cc (is))
      cases (Ok (Kept place outcome)) t is = absurd (cc (is))
      cases (Err (fault.Conflict place)) t is = absurd (cc (is))
      cases (Err (fault.Full n e x)) t is =
          let a : n ≡ entries = cc (is) in
          let b : e ≡ end = cc (is) in
          let c : x ≡ need = cc (is) in
          let same = same_known old new (t.grows tt).known t.says.1 tags in
          subst (λ (h : List Entry). ShowsFull o pay h entries end need) same (subst (λ (v : ℕ × (ℕ × ℕ)). ShowsFull o pay (known_to o new) v.0 v.1.0 v.1.1) (λ i. (a i, (b i, c i))) t.says.0)
      cases (Err (fault.DiskFault before after)) t is = absurd (cc (is))
      cases (Err (fault.Broken at_open now)) t is = absurd (cc (is))
      cases (Err fault.Memory) t is = absurd (cc (is))
  full_shows (Err why) old new entries end need (same, inl none) tags = absurd (cc (none))
  full_shows (Err why) old new entries end need (same, inr told) tags = absurd (cc (told))
