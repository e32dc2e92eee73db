-- Batches that a feed gave, and that workers served: which of their messages each worker served, and that all were, where there is a reply
-- for each.
use Rattle.std.proofs.Common.{◌≡◌, ℕ, zero, suc, ◌+◌, ◌-◌, ◌≤◌, Bool, List, [], ◌∷◌, ◌++◌, drop, length, map, Option, None, Some, Result, Ok, refl, sym, ap, ◌∙◌, subst, arith, append_assoc}
use Rattle.std.specs.Prelude.{option_and_then, slice_get}
use Rattle.std.specs.Global.{Vec}
use Rattle.std.proofs.lemmas.List.{length-map}
use Rattle.std.proofs.lemmas.Option.{none-some, same_Some}
use Rattle.day_model.specs.declared.pay.Pay.{Pay}
use Rattle.corr_books.specs.Opening.{Opening}
use Rattle.work_pool.specs.Fed.{AreFed, FedWith, answer_in}
use Rattle.work_pool.specs.Served.{ServedWith}
use Rattle.work_pool.specs.declared.server.Answer.{Answer}
use Rattle.corr_top.specs.declared.batching.Made.{Made}
use Rattle.corr_top.specs.declared.desk.Served.{Served}
use Rattle.corr_top.specs.declared.message.NoPay.{NoPay}
use Rattle.corr_top.specs.inner.Batching.{ServesInTurn, made_in, messages_in}
use Rattle.corr_top.specs.inner.Serving.{Serves}
use Rattle.corr_top.specs.inner.Workers.{Worker}
use Rattle.corr_top.proofs.Batches.{HaveServed, InTurn, get_beyond, get_front, get_mapped, numbers_from, part_chain, unmapped}
use Rattle.corr_top.proofs.Batched.{in_turn_of}

-- ---- a reply for each job

module _ {Pass Job Reply : Type 0} (serves : Pass → Job → Pass → Reply → Type 0) where
  -- the numbers of the jobs that a pass served
  abbrev pub numbers_of : List (Answer Reply) → List ℕ
  numbers_of list = map (λ (a : Answer Reply). a.number) list

  with_replies : (jobs : List Job) (replies : List Reply) (list : List (Answer Reply)) → ((i : ℕ) (a : Answer Reply) → slice_get list i ≡ Some a → slice_get replies (a.number - 1) ≡ Some a.reply)
      → (old new : Pass) → FedWith serves jobs list old new → ServedWith serves jobs replies (numbers_of list) old new
  with_replies jobs replies [] placed old new c = c
  with_replies jobs replies (a ∷ list) placed old new c =
      (c.0, a.reply, c.1, c.2, placed 0 a refl, c.3, with_replies jobs replies list (λ i b at. placed (suc i) b at) c.1 new c.4)

  -- an answer by the list that it stands in
  pub there : (lists : List (List (Answer Reply))) (k i : ℕ) (list : List (Answer Reply)) (a : Answer Reply) → slice_get lists k ≡ Some list → slice_get list i ≡ Some a → answer_in lists k i ≡ Some a
  there lists k i list a at here = ap (λ (o : Option (List (Answer Reply))). option_and_then (λ (l : List (Answer Reply)). slice_get l i) o) at ∙ here

  in_list : (found : Option (List (Answer Reply))) (i : ℕ) (a : Answer Reply) → option_and_then (λ (l : List (Answer Reply)). slice_get l i) found ≡ Some a
      → (list : List (Answer Reply)) × (found ≡ Some list) × (slice_get list i ≡ Some a)
  in_list None i a at = absurd (none-some a at)
  in_list (Some list) i a at = (list, refl, at)

  pub all_fed : {E : Type 0} (before : List Pass) (jobs : List Job) (ended : Bool) (after : List Pass) (replies : Vec Reply) → AreFed {E = E} serves before jobs ended after (Ok replies) → HaveServed serves before jobs after replies.items
  all_fed before jobs ended after replies fed = record {
    lists = map numbers_of fed.lists;
    one_each = length-map fed.lists numbers_of ∙ fed.one_each;
    rising = λ one k numbers at i j m n less first second.
        let u = unmapped numbers_of fed.lists k numbers at in
        let a = unmapped (λ (x : Answer Reply). x.number) u.0 i m (subst (λ (l : List ℕ). slice_get l i ≡ Some m) (sym u.2) first) in
        let b = unmapped (λ (x : Answer Reply). x.number) u.0 j n (subst (λ (l : List ℕ). slice_get l j ≡ Some n) (sym u.2) second) in
        let first_is : m ≡ i + 1 = sym a.2 ∙ fed.in_turn one k i a.0 (there fed.lists k i u.0 a.0 u.1 a.1) in
        let second_is : n ≡ j + 1 = sym b.2 ∙ fed.in_turn one k j b.0 (there fed.lists k j u.0 b.0 u.1 b.1) in
        omega (arith, less, first_is, second_is);
    jobs_only = λ k n stands.
        let u = unmapped numbers_of fed.lists k stands.0 stands.1 in
        let a = unmapped (λ (x : Answer Reply). x.number) u.0 stands.2 n (subst (λ (l : List ℕ). slice_get l stands.2 ≡ Some n) (sym u.2) stands.3) in
        subst (λ (x : ℕ). (1 ≤ x) × (x ≤ length jobs)) a.2 (fed.jobs_only k stands.2 a.0 (there fed.lists k stands.2 u.0 a.0 u.1 a.1));
    every_job = λ n low high.
        let w = fed.told.every_job n low high in
        let l = in_list (slice_get fed.lists w.0) w.1 w.2 w.3 in
        (w.0, (numbers_of l.0, get_mapped numbers_of fed.lists w.0 l.0 l.1, w.1, get_mapped (λ (x : Answer Reply). x.number) l.0 w.1 w.2 l.2 ∙ ap (λ (x : ℕ). Some x) w.4));
    passes = fed.passes;
    replies_count = fed.told.replies_count;
    served = λ k numbers pass next at from to.
        let u = unmapped numbers_of fed.lists k numbers at in
        subst (λ (l : List ℕ). ServedWith serves jobs replies.items l pass next) u.2
        (with_replies jobs replies.items u.0 (λ i a here. fed.told.replied k i a (there fed.lists k i u.0 a u.1 here)) pass next (fed.served k u.0 pass next u.1 from to));
  }

-- ---- the messages that one worker served, whatever the answer

in_turn_append : {Pass Job Reply : Type 0} (serves : Pass → Job → Pass → Reply → Type 0) (front rest : List Job) (made more : List Reply) (old mid new : Pass) → InTurn serves front old mid made → InTurn serves rest mid new more
    → InTurn serves (front ++ rest) old new (made ++ more)
in_turn_append serves [] rest [] more old mid new first second = subst (λ p. InTurn serves rest p new more) first second
in_turn_append serves [] rest (r ∷ made) more old mid new first second = absurd first
in_turn_append serves (j ∷ front) rest [] more old mid new first second = absurd first
in_turn_append serves (j ∷ front) rest (r ∷ made) more old mid new first second = (first.0, first.1, in_turn_append serves front rest made more first.0 mid new first.2 second)

module _ (o : Opening) (reading : List ℕ → Result Pay NoPay) (batches : List (List (List ℕ))) where
  abbrev pub ServesBatch : Worker → List (List ℕ) → Worker → Made → Type 0
  ServesBatch old batch next made = ServesInTurn o (map reading batch) old next (made_in made)

  abbrev pub ServesOne : Worker → List ℕ → Worker → Served → Type 0
  ServesOne old message next one = Serves o (reading message) old next one

  -- each of these messages is one of those of the batches
  abbrev pub AreOf : List (List ℕ) → Type 0
  AreOf part = (i : ℕ) (message : List ℕ) → slice_get part i ≡ Some message → (n : ℕ) × (slice_get (messages_in batches) n ≡ Some message)

  -- the messages that a worker served one after another, and what it made of each
  pub record Part (old new : Worker) : Type 0 where
    pub messages : List (List ℕ)
    pub made : List Served
    pub turn : InTurn ServesOne messages old new made
    pub are_of : AreOf messages

  of_batch : (batches : List (List (List ℕ))) (n i : ℕ) (batch : List (List ℕ)) (message : List ℕ) → slice_get batches n ≡ Some batch → slice_get batch i ≡ Some message → (m : ℕ) × (slice_get (messages_in batches) m ≡ Some message)
  of_batch [] n i batch message at here = absurd (none-some batch at)
  of_batch (b ∷ batches) zero i batch message at here =
      (i, get_front b (messages_in batches) i message (ap (λ (l : List (List ℕ)). slice_get l i) (same_Some b batch at) ∙ here))
  of_batch (b ∷ batches) (suc n) i batch message at here =
      let r = of_batch batches n i batch message at here in (length b + r.0, get_beyond b (messages_in batches) r.0 message r.1)

  joined_of : (front rest : List (List ℕ)) → AreOf front → AreOf rest → AreOf (front ++ rest)
  joined_of [] rest first second i message at = second i message at
  joined_of (m ∷ front) rest first second zero message at = first 0 message at
  joined_of (m ∷ front) rest first second (suc i) message at = joined_of front rest (λ j x here. first (suc j) x here) second i message at

  pub part_of : (list : List (Answer Made)) (old new : Worker) → FedWith ServesBatch batches list old new → Part old new
  part_of [] old new c = record { messages = []; made = []; turn = c; are_of = λ i message at. absurd (none-some message at) }
  part_of (a ∷ list) old new c =
      let rest = part_of list c.1 new c.4 in
      record {
        messages = c.0 ++ rest.messages;
        made = made_in a.reply ++ rest.made;
        turn = in_turn_append ServesOne c.0 rest.messages (made_in a.reply) rest.made old c.1 new (in_turn_of o reading c.0 old c.1 (made_in a.reply) c.3) rest.turn;
        are_of = joined_of c.0 rest.messages (λ i message at. of_batch batches (a.number - 1) i c.0 message c.2 at) rest.are_of;
      }

  -- as serves that have their numbers among these messages alone
  pub part_served : (old new : Worker) (p : Part old new) → ServedWith ServesOne p.messages p.made (numbers_from 1 (length p.messages)) old new
  part_served old new p =
      part_chain ServesOne p.messages p.made p.messages p.made 0 old new p.turn
      (λ i j at. let e : i ≡ 0 + i = omega arith in subst (λ (n : ℕ). slice_get p.messages n ≡ Some j) e at)
      (λ i r at. let e : i ≡ 0 + i = omega arith in subst (λ (n : ℕ). slice_get p.made n ≡ Some r) e at)

  -- ---- one worker alone serves the first batches

  -- a list of the numbers after so many
  abbrev pub CountsFrom : ℕ → List (Answer Made) → Type 0
  CountsFrom s list = (i : ℕ) (a : Answer Made) → slice_get list i ≡ Some a → a.number ≡ s + i + 1

  got : (batches : List (List (List ℕ))) (s : ℕ) (batch : List (List ℕ)) → slice_get batches s ≡ Some batch → drop s batches ≡ batch ∷ drop (suc s) batches
  got [] s batch at = absurd (none-some batch at)
  got (b ∷ batches) zero batch at = ap (λ (x : List (List ℕ)). x ∷ batches) (same_Some b batch at)
  got (b ∷ batches) (suc s) batch at = got batches s batch at

  front_is : (list : List (Answer Made)) (s : ℕ) (old new : Worker) (c : FedWith ServesBatch batches list old new) → CountsFrom s list
      → (part_of list old new c).messages ++ messages_in (drop (s + length list) batches) ≡ messages_in (drop s batches)
  unfolding part_of
  front_is [] s old new c counts = ap (λ (n : ℕ). messages_in (drop n batches)) (let e : s + 0 ≡ s = omega arith in e)
  front_is (a ∷ list) s old new c counts =
      let number : a.number - 1 ≡ s = let e = counts 0 a refl in omega (arith, e) in
      let here : slice_get batches s ≡ Some c.0 = subst (λ (n : ℕ). slice_get batches n ≡ Some c.0) number c.2 in
      let later = front_is list (suc s) c.1 new c.4 (λ i b at. let e = counts (suc i) b at in omega (arith, e)) in
      let step : s + suc (length list) ≡ suc s + length list = omega arith in
      append_assoc c.0 (part_of list c.1 new c.4).messages (messages_in (drop (s + suc (length list)) batches))
      ∙ ap (λ (n : ℕ). c.0 ++ ((part_of list c.1 new c.4).messages ++ messages_in (drop n batches))) step
      ∙ ap (λ (l : List (List ℕ)). c.0 ++ l) later
      ∙ ap messages_in (sym (got batches s c.0 here))

  -- so what it served is a front part of all messages
  pub begins_all : (list : List (Answer Made)) (old new : Worker) (c : FedWith ServesBatch batches list old new) → CountsFrom 0 list
      → (rest : List (List ℕ)) × ((part_of list old new c).messages ++ rest ≡ messages_in batches)
  begins_all list old new c counts = (messages_in (drop (0 + length list) batches), front_is list 0 old new c counts)
