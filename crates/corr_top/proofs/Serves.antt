-- One serve: what it does to a pass, and what of it stands when the books are closed.
use Rattle.std.proofs.Common.{◌≡◌, inl, inr, ℕ, zero, suc, ◌+◌, ◌≤◌, Bool, true, false, cond, List, [], ◌∷◌, ◌++◌, length, Some, None, Result, Ok, Err, refl, sym, ap, ◌∙◌, subst, arith, append_assoc}
use Rattle.std.specs.Prelude.{is_some, slice_get}
use Rattle.std.proofs.lemmas.Option.{same_Some, none-some}
use Rattle.std.proofs.lemmas.Slice.Eq.{bytes_eq-Decides}
use mathlib.Core.List.{IsPrefix}
use Rattle.corr_ids.specs.declared.mir.Mir.{Mir}
use Rattle.day_model.specs.declared.entry.Entry.{Entry}
use Rattle.day_model.proofs.laws.Folds.{new_before}
use Rattle.day_model.specs.declared.entry.Outcome.{Outcome}
use Rattle.day_model.specs.declared.pay.Pay.{Pay}
use Rattle.day_model.specs.declared.reply.Reply.TheVariants as reply
use Rattle.day_model.specs.Legal.{IsLegal}
use Rattle.day_model.specs.Next.{entered_at, has_mir}
use Rattle.day_model.specs.Same.{reply_to}
use Rattle.day_model.specs.Shape.{HasShape}
use Rattle.day_model.proofs.laws.Growth.{none_passes}
use Rattle.day_model.proofs.laws.Lookups.{reply_new}
use Rattle.front_word.specs.declared.view.Act.{Act}
use Rattle.front_word.specs.Known.{PassKnows}
use Rattle.front_word.proofs.laws.Prefixes.{get_below, prefix_self}
use Rattle.jrn_book.specs.Answers.{Answer, StandsAt}
use Rattle.jrn_book.specs.declared.answer.Committed.TheVariants.{New, Kept}
use Rattle.jrn_book.specs.declared.answer.CommitFault.TheVariants as fault
use Rattle.corr_books.specs.Opening.{Opening}
use Rattle.corr_books.specs.Stand.{entries_of, history_of}
use Rattle.corr_books.specs.Telling.{Grows, IsAdded, Told, entry_on, known_to}
use Rattle.corr_books.proofs.laws.Histories.{entries_of-append, history_prefix, length-history_of}
use Rattle.corr_top.specs.declared.desk.Halt.{Halt}
use Rattle.corr_top.specs.declared.desk.Served.{Served}
use Rattle.corr_top.specs.declared.desk.Served.TheVariants as served
use Rattle.corr_top.specs.inner.Workers.{Worker}
use Rattle.corr_top.specs.declared.message.NoPay.{NoPay}
use Rattle.corr_top.specs.inner.Serving.{AnswersMessage, IsTold, Serves, TellsHalt, halt_of, served_of}
use Rattle.corr_top.proofs.Replying.{reply_here, reply_stays}

-- ---- lists

-- a list, cut before the element at a place
pub record Split {A : Type 0} (xs : List A) (k : ℕ) (x : A) : Type 0 where
  pub front : List A
  pub rest : List A
  pub is : xs ≡ front ++ x ∷ rest
  pub len : length front ≡ k

pub split : {A : Type 0} (xs : List A) (k : ℕ) (x : A) → slice_get xs k ≡ Some x → Split xs k x
split [] k x at = absurd (none-some x at)
split (y ∷ xs) zero x at = record { front = []; rest = xs; is = ap (λ z. z ∷ xs) (same_Some y x at); len = refl }
split (y ∷ xs) (suc k) x at = let s = split xs k x at in record { front = y ∷ s.front; rest = s.rest; is = ap (λ l. y ∷ l) s.is; len = ap suc s.len }

-- a reference that an entry has is entered
pub entered_mir : (entries : List Entry) (mir : Mir) (i : ℕ) (e : Entry) → slice_get entries i ≡ Some e → e.pay.mir ≡ mir → entered_at mir entries ≡ None → ⊥
entered_mir entries mir i e at same none =
    let fails : has_mir mir e ≡ false = none_passes (has_mir mir) 1 i entries e (ap is_some none) at in
    let passes : has_mir mir e ≡ true = (bytes_eq-Decides e.pay.mir.0 mir.0).1 (ap (λ (m : Mir). m.0) same) in absurd (cc (sym fails ∙ passes))

module _ (o : Opening) where
  -- ---- what it does to the pass

  -- an entry is that of a pay which the message asks for
  abbrev pub IsFrom : Result Pay NoPay → Entry → Type 0
  IsFrom reading e = (pay : Pay) × (reading ≡ Ok pay) × HasShape pay × (outcome : Outcome) × (e ≡ entry_on o pay outcome)

  -- the pass knows no less, and its own entries past what it knew are of the message's pay
  pub record Goes (reading : Result Pay NoPay) (old new : PassKnows) : Type 0 where
    pub number : new.number ≡ old.number
    pub known : IsPrefix old.known new.known
    pub own : (i : ℕ) (a : Act) → slice_get new.known i ≡ Some a → length old.known ≤ i → a.by ≡ old.number → IsFrom reading a.entry

  goes_here : (reading : Result Pay NoPay) (old : PassKnows) → Goes reading old old
  goes_here reading old = record { number = refl; known = prefix_self old.known; own = λ i a at past tag. let b = get_below old.known i a at in absurd (omega (arith, b, past)) }

  goes_same : (reading : Result Pay NoPay) (old new : PassKnows) → new ≡ old → Goes reading old new
  goes_same reading old new same = subst (Goes reading old) (sym same) (goes_here reading old)

  goes_spare : (reading : Result Pay NoPay) (old new : PassKnows) → new ≡ record old { spare = new.spare } → Goes reading old new
  goes_spare reading old new same =
      let here : Goes reading old (record old { spare = new.spare }) = (let h = goes_here reading old in record { number = h.number; known = h.known; own = h.own }) in
      subst (Goes reading old) (sym same) here

  grown : (reading : Result Pay NoPay) (old new : PassKnows) → Grows o old new
      → ((i : ℕ) (a : Act) → slice_get new.known i ≡ Some a → length old.known ≤ i → a.by ≡ old.number → IsFrom reading a.entry) → Goes reading old new
  grown reading old new g own = record { number = g.number; known = g.known; own = own }

  goes_told : (reading : Result Pay NoPay) (pay : Pay) → reading ≡ Ok pay → HasShape pay → (old new : PassKnows) (answer : Answer) → Told o pay old answer new → Goes reading old new
  goes_told reading pay asks shape old new (Ok (New place outcome)) t =
      let added = t.says in
      let act : Act = record { by = old.number; entry = entry_on o pay outcome } in
      grown reading old new (t.grows tt) (λ i a at past tag.
      let here : slice_get new.known added.at ≡ Some a = subst (λ (n : ℕ). slice_get new.known n ≡ Some a) (added.alone i a at past tag) at in
      let same : a ≡ act = same_Some a act (sym here ∙ added.there) in
      (pay, asks, shape, outcome, ap (λ (x : Act). x.entry) same))
  goes_told reading pay asks shape old new (Ok (Kept place outcome)) t = grown reading old new (t.grows tt) (λ i a at past tag. absurd (t.says.1 i a at past tag))
  goes_told reading pay asks shape old new (Err (fault.Conflict place)) t = grown reading old new (t.grows tt) (λ i a at past tag. absurd (t.says.1 i a at past tag))
  goes_told reading pay asks shape old new (Err (fault.Full entries end need)) t = grown reading old new (t.grows tt) (λ i a at past tag. absurd (t.says.1 i a at past tag))
  goes_told reading pay asks shape old new (Err (fault.DiskFault before after)) t = grown reading old new (t.grows tt) (λ i a at past tag. absurd (t.says.4 i a at past tag))
  goes_told reading pay asks shape old new (Err (fault.Broken at_open now)) t = grown reading old new (t.grows tt) (λ i a at past tag. absurd (t.says.3 i a at past tag))
  goes_told reading pay asks shape old new (Err fault.Memory) t = goes_spare reading old new (t.memory refl)

  goes_answered : (reading : Result Pay NoPay) (old new : PassKnows) (made : Served) → AnswersMessage o reading old new made → Goes reading old new
  goes_answered (Ok pay) old new made (inl none) = goes_same (Ok pay) old new none.0
  goes_answered (Ok pay) old new made (inr s) = goes_told (Ok pay) pay refl s.2 old new s.0 s.1
  goes_answered (Err why) old new made s = goes_same (Err why) old new s.0

  pub goes : (reading : Result Pay NoPay) (old new : Worker) (made : Served) → Serves o reading old new made → Goes reading old.pass new.pass
  goes reading old new made (inl s) = goes_answered reading old.pass new.pass made s.1
  goes reading old new made (inr s) = goes_same reading old.pass new.pass (ap (λ (w : Worker). w.pass) s.2)

  -- ---- what stands of it at the end

  -- why the worker stopped, if it did, is what its last message tells
  abbrev pub HasTold : Worker → Type 0
  HasTold w = (why : Halt) → w.halted ≡ Some why → TellsHalt o why

  -- a pay that was added, in what the pass knows: the history ahead of it, and that after it
  pub added_in : (pay : Pay) (old new : PassKnows) (place : ℕ) (outcome : Outcome) → (added : IsAdded o pay old new place outcome)
      → (front : List Act) × (rest : List Act) × (known_to o new ≡ history_of o.base front ++ entry_on o pay outcome ∷ entries_of rest) × (length front ≡ added.at)
  added_in pay old new place outcome added =
      let act : Act = record { by = old.number; entry = entry_on o pay outcome } in
      let s = split new.known added.at act added.there in (
        s.front,
        s.rest,
        ap (history_of o.base) s.is ∙ ap (λ (l : List Entry). o.base ++ l) (entries_of-append s.front (act ∷ s.rest)) ∙ sym (append_assoc o.base (entries_of s.front) (entry_on o pay outcome ∷ entries_of s.rest)),
        s.len,
      )

  module _ (log : List Act) (history : List Entry) (is : history ≡ history_of o.base log) (legal : IsLegal o.accounts history) where
    -- what a pass knows begins the history
    pub begins : (known : List Act) → IsPrefix known log → IsPrefix (history_of o.base known) history
    begins known p = let q = history_prefix o.base known log p in (q.0, q.1 ∙ sym is)

    stands_new : (pay : Pay) (old new : PassKnows) (place : ℕ) (outcome : Outcome) → IsAdded o pay old new place outcome → IsPrefix new.known log → reply_to pay history ≡ Some (reply.Entered pay.mir place)
    stands_new pay old new place outcome added p =
        let e = entry_on o pay outcome in
        let a = added_in pay old new place outcome added in
        let front = history_of o.base a.0 in
        let q = begins new.known p in
        let more = entries_of a.1 ++ q.0 in
        let whole : history ≡ front ++ e ∷ more = sym q.1 ∙ ap (λ (h : List Entry). h ++ q.0) a.2 ∙ append_assoc front (e ∷ entries_of a.1) q.0 in
        let none = new_before o.accounts front e more (subst (λ (h : List Entry). IsLegal o.accounts h) whole legal).rules in
        let one : reply_to pay (front ++ e ∷ []) ≡ Some (reply.Entered pay.mir (length front + 1)) = reply_new front e none in
        let at : length front + 1 ≡ place = omega (arith, length-history_of o.base a.0, a.3, added.place_is) in
        ap (reply_to pay) (whole ∙ sym (append_assoc front (e ∷ []) more)) ∙ reply_stays pay (front ++ e ∷ []) more (reply.Entered pay.mir (length front + 1)) one
        ∙ ap (λ (n : ℕ). Some (reply.Entered pay.mir n)) at

    stands_there : (pay : Pay) (new : PassKnows) (place : ℕ) (same : Bool) → StandsAt (known_to o new) pay place same → IsPrefix new.known log → reply_to pay history ≡ Some (cond same (reply.Entered pay.mir place) (reply.Conflict pay.mir place))
    stands_there pay new place same stands p =
        let q = begins new.known p in
        let r = cond same (reply.Entered pay.mir place) (reply.Conflict pay.mir place) in
        subst (λ (h : List Entry). reply_to pay h ≡ Some r) q.1 (reply_stays pay (known_to o new) q.0 r (reply_here (known_to o new) pay place same stands))

    stands_told : (pay : Pay) (old new : PassKnows) (answer : Answer) → Told o pay old answer new → IsPrefix new.known log → IsTold o history (Ok pay) (served_of pay.mir answer)
    stands_told pay old new (Ok (New place outcome)) t p = stands_new pay old new place outcome t.says p
    stands_told pay old new (Ok (Kept place outcome)) t p = stands_there pay new place true t.says.0.0 p
    stands_told pay old new (Err (fault.Conflict place)) t p = stands_there pay new place false t.says.0 p
    stands_told pay old new (Err (fault.Full entries end need)) t p =
        let b = begins new.known p in
        (pay, refl, record { front = entries_of new.known; later = b.0; left_is = sym b.1; finds = t.says.0 })
    stands_told pay old new (Err (fault.DiskFault before after)) t p = (t.says.0, t.says.1)
    stands_told pay old new (Err (fault.Broken at_open now)) t p = tt
    stands_told pay old new (Err fault.Memory) t p = tt

    stands_answered : (reading : Result Pay NoPay) (old new : PassKnows) (made : Served) → AnswersMessage o reading old new made → IsPrefix new.known log → IsTold o history reading made
    stands_answered (Ok pay) old new made (inl none) p = subst (IsTold o history (Ok pay)) (sym none.1) tt
    stands_answered (Ok pay) old new made (inr s) p = subst (IsTold o history (Ok pay)) (sym s.3) (stands_told pay old new s.0 s.1 p)
    stands_answered (Err why) old new made (same, inl none) p = subst (IsTold o history (Err why)) (sym none) tt
    stands_answered (Err why) old new made (same, inr told) p = subst (IsTold o history (Err why)) (sym told) refl

    pub stands : (reading : Result Pay NoPay) (old new : Worker) (made : Served) → HasTold old → Serves o reading old new made → IsPrefix new.pass.known log → IsTold o history reading made
    stands reading old new made told (inl s) p = stands_answered reading old.pass new.pass made s.1 p
    stands reading old new made told (inr s) p = subst (IsTold o history reading) (sym s.3) (told s.0 s.1)

    -- a worker that this stops tells why by it
    told_of : (reading : Result Pay NoPay) (made : Served) → IsTold o history reading made → (why : Halt) → halt_of made ≡ Some why → TellsHalt o why
    told_of reading (served.Reply told) is why halts = absurd (none-some why halts)
    told_of reading (served.Full entries end need) is why halts = absurd (none-some why halts)
    told_of reading (served.Stopped other) is why halts = subst (TellsHalt o) (same_Some other why halts) is

    pub told_next : (reading : Result Pay NoPay) (old new : Worker) (made : Served) → HasTold old → Serves o reading old new made → IsTold o history reading made → HasTold new
    told_next reading old new made told (inl s) is why off = told_of reading made is why (sym s.2 ∙ off)
    told_next reading old new made told (inr s) is why off = subst HasTold (sym s.2) told why off
