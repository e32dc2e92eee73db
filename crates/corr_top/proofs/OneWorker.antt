-- All jobs of one worker, in their order: what it enters up to the first one that stops it, and after it.
use Rattle.std.proofs.Common.{◌≡◌, ◌⊎◌, inl, inr, ℕ, zero, suc, ◌+◌, ◌-◌, ◌<◌, ◌≤◌, All, List, [], ◌∷◌, ◌++◌, drop, length, map, take, Some, None, Result, Ok, Err, refl, sym, ap, ◌∙◌, subst, arith, append-nil}
use Rattle.std.specs.Prelude.{slice_get}
use Rattle.std.proofs.lemmas.List.{map-append}
use Rattle.std.proofs.lemmas.Option.{same_Some, none-some}
use mathlib.Core.List.{IsPrefix}
use mathlib.Core.Logic.{dite}
use native.Mathlib.Decide.{dec_lt}
use Rattle.corr_report.proofs.laws.Rests.{drop_at}
use Rattle.day_model.specs.declared.entry.Entry.{Entry}
use Rattle.day_model.specs.Chart.{AreBy}
use Rattle.day_model.specs.declared.pay.Pay.{Pay}
use Rattle.day_model.specs.declared.reply.Reply.{Reply}
use Rattle.day_model.specs.Next.{entered_at, fold_of}
use Rattle.front_word.specs.declared.view.Act.{Act}
use Rattle.front_word.proofs.laws.Prefixes.{get_below, prefix_get, prefix_trans}
use Rattle.work_pool.specs.Served.{AreRising}
use Rattle.corr_books.specs.Opening.{Opening}
use Rattle.corr_books.specs.Stand.{history_of}
use Rattle.corr_books.specs.Telling.{ShowsFull, known_to}
use Rattle.front_word.specs.Known.{PassKnows}
use Rattle.corr_top.specs.declared.desk.Halt.{Halt}
use Rattle.corr_top.specs.declared.desk.Halt.TheVariants as halt
use Rattle.corr_top.specs.declared.desk.Served.{Served}
use Rattle.corr_top.specs.declared.desk.Served.TheVariants as served
use Rattle.corr_top.specs.inner.Workers.{Worker}
use Rattle.corr_top.specs.declared.message.NoPay.{NoPay}
use Rattle.corr_top.specs.Booking.{BeginsNew, EntersFront, LacksRoom}
use Rattle.jrn_book.specs.Batches.{entered_of}
use Rattle.corr_top.specs.Message.{pays_in}
use Rattle.corr_top.specs.inner.Serving.{AnswersMessage, AreEntered, AreServedInOrder, IsFirstFull, IsTried, SaysFailed, Serves, are_replies, halt_of}
use Rattle.corr_top.proofs.Chains.{Chain, grew}
use Rattle.corr_top.proofs.FrontPart.{front_on}
use Rattle.corr_top.proofs.InTurn.{AllTagged, fails_new, first_is, full_shows, goes_on, stops_here, tries_on}
use Rattle.corr_top.proofs.Replying.{get_all}
use Rattle.corr_top.proofs.Serves.{goes}

-- ---- numbers

-- a rising list of all numbers from one up to another has them in their order
pub record AreInOrder (low high : ℕ) (numbers : List ℕ) : Type 0 where
  pub count : low + length numbers ≡ high
  pub at : (i n : ℕ) → slice_get numbers i ≡ Some n → n ≡ low + i

pub in_order : (low high : ℕ) (numbers : List ℕ) → low ≤ high → AreRising numbers → ((i n : ℕ) → slice_get numbers i ≡ Some n → (low ≤ n) × (n < high)) → ((n : ℕ) → low ≤ n → n < high → (i : ℕ) × (slice_get numbers i ≡ Some n))
    → AreInOrder low high numbers
in_order low high [] le rising within every =
    dite (dec_lt low high)
    (λ less. let e = every low (omega arith) less in absurd (none-some low e.1))
    (λ ge. record { count = omega (arith, ge, le); at = λ i n at. absurd (none-some n at) })
in_order low high (m ∷ numbers) le rising within every =
    let range = within 0 m refl in
    let here = every low (omega arith) (omega (arith, range.0, range.1)) in
    let first : m ≡ low = same_Some m low (first_is low high (m ∷ numbers) rising (λ i n at. (within i n at).0) here.0 here.1) in
    let rest = in_order (low + 1) high numbers (omega (arith, range.0, range.1)) (λ i j a b less at also. rising (suc i) (suc j) a b (omega arith) at also)
    (λ i n at. let more = rising 0 (suc i) m n (omega arith) refl at in (omega (arith, more, first), (within (suc i) n at).1))
    (λ n more less. beyond n more (every n (omega arith) less)) in
    record {
      count = let c = rest.count in omega (arith, c);
      at = places (λ i n at. rest.at i n at) first;
    }
  where
    beyond : (n : ℕ) → low + 1 ≤ n → (i : ℕ) × (slice_get (m ∷ numbers) i ≡ Some n) → (i : ℕ) × (slice_get numbers i ≡ Some n)
    beyond n more (zero, at) =
        let range = within 0 m refl in
        let here = every low (omega arith) (omega (arith, range.0, range.1)) in
        let first : m ≡ low = same_Some m low (first_is low high (m ∷ numbers) rising (λ i k there. (within i k there).0) here.0 here.1) in
        let is : m ≡ n = same_Some m n at in absurd (omega (arith, first, is, more))
    beyond n more (suc i, at) = (i, at)

    places : ((i n : ℕ) → slice_get numbers i ≡ Some n → n ≡ low + 1 + i) → m ≡ low → (i n : ℕ) → slice_get (m ∷ numbers) i ≡ Some n → n ≡ low + i
    places rest first zero n at = let is : m ≡ n = same_Some m n at in omega (arith, first, is)
    places rest first (suc i) n at = let is = rest i n at in omega (arith, is)

-- ---- pays

pub pays_in-append : (xs ys : List (Result Pay NoPay)) → pays_in (xs ++ ys) ≡ pays_in xs ++ pays_in ys
pays_in-append [] ys = refl
pays_in-append (Ok pay ∷ xs) ys = ap (λ (l : List Pay). pay ∷ l) (pays_in-append xs ys)
pays_in-append (Err why ∷ xs) ys = pays_in-append xs ys

take_whole : {A : Type 0} (xs : List A) (n : ℕ) → length xs ≤ n → take n xs ≡ xs
take_whole [] zero le = refl
take_whole [] (suc n) le = refl
take_whole (x ∷ xs) zero le = absurd (omega arith)
take_whole (x ∷ xs) (suc n) le = ap (λ l. x ∷ l) (take_whole xs n (omega arith))

split_at : {A : Type 0} (xs : List A) (k : ℕ) (x : A) → slice_get xs k ≡ Some x → xs ≡ take k xs ++ x ∷ drop (suc k) xs
split_at [] k x at = absurd (none-some x at)
split_at (y ∷ xs) zero x at = ap (λ z. z ∷ xs) (same_Some y x at)
split_at (y ∷ xs) (suc k) x at = ap (λ l. y ∷ l) (split_at xs k x at)

-- ---- what was made of messages

-- a message has a reply
abbrev IsReplied : Served → Type 0
IsReplied made = (reply : Reply) × (made ≡ served.Reply reply)

-- so many of the first are such
abbrev pub AreFirst : (Served → Type 0) → List Served → ℕ → Type 0
AreFirst P made at = (k : ℕ) → k < at → (one : Served) × (slice_get made k ≡ Some one) × P one

first_replies : (made : List Served) (at : ℕ) (replies : List Reply) → at ≤ length made → take at made ≡ are_replies replies → AreFirst IsReplied made at
first_replies made zero replies most ahead k less = absurd (omega arith)
first_replies [] (suc at) replies most ahead k less = absurd (omega arith)
first_replies (x ∷ made) (suc at) [] most ahead k less = absurd (cc (ahead))
first_replies (x ∷ made) (suc at) (r ∷ replies) most ahead zero less = (x, refl, (r, cc (ahead)))
first_replies (x ∷ made) (suc at) (r ∷ replies) most ahead (suc k) less = first_replies made at replies (omega arith) (cc (ahead)) k (omega arith)

-- the first that stops the worker, or none does
record IsFirstStop (made : List Served) : Type 0 where
  at : ℕ
  tried : AreFirst IsTried made at
  stops : (at ≡ length made) ⊎ ((why : Halt) × (slice_get made at ≡ Some (served.Stopped why)))

tried_more : (x : Served) (made : List Served) → IsTried x → IsFirstStop made → IsFirstStop (x ∷ made)
tried_more x made is f = record { at = suc f.at; tried = more; stops = stop f.stops }
  where
    more : AreFirst IsTried (x ∷ made) (suc f.at)
    more zero less = (x, refl, is)
    more (suc k) less = f.tried k (omega arith)

    stop : (f.at ≡ length made) ⊎ ((why : Halt) × (slice_get made f.at ≡ Some (served.Stopped why))) → (suc f.at ≡ length (x ∷ made)) ⊎ ((why : Halt) × (slice_get (x ∷ made) (suc f.at) ≡ Some (served.Stopped why)))
    stop (inl all) = inl (omega (arith, all))
    stop (inr s) = inr s

first_stop : (made : List Served) → IsFirstStop made
first_stop [] = record { at = 0; tried = λ k less. absurd (omega arith); stops = inl refl }
first_stop (served.Reply told ∷ made) = tried_more (served.Reply told) made tt (first_stop made)
first_stop (served.Full entries end need ∷ made) = tried_more (served.Full entries end need) made tt (first_stop made)
first_stop (served.Stopped why ∷ made) = record { at = 0; tried = λ k less. absurd (omega arith); stops = inr (why, refl) }

-- one that was tried stops nobody
goes_tried : (made : Served) → IsTried made → halt_of made ≡ None
goes_tried (served.Reply told) tried = refl
goes_tried (served.Full entries end need) tried = refl
goes_tried (served.Stopped why) tried = absurd tried

module _ {Job : Type 0} (o : Opening) (reading : Job → Result Pay NoPay) (jobs : List Job) (made : List Served) where
  -- what the messages ask for
  abbrev pub asked : List Job → List Pay
  asked some = pays_in (map reading some)

  tags_front : (known whole : List Act) (number : ℕ) → IsPrefix known whole → ((i : ℕ) (a : Act) → slice_get whole i ≡ Some a → a.by ≡ number) → (i : ℕ) (a : Act) → slice_get known i ≡ Some a → a.by ≡ number
  tags_front known whole number p tags i a at = tags i a (prefix_get known whole i a p at)

  -- a worker that goes on answers the message
  answered : (job : Job) (old new : Worker) (one : Served) → old.halted ≡ None → Serves o (reading job) old new one → AnswersMessage o (reading job) old.pass new.pass one × (new.halted ≡ halt_of one)
  answered job old new one on (inl s) = (s.1, s.2)
  answered job old new one on (inr s) = absurd (none-some s.0 (sym on ∙ s.1))

  -- one that has stopped serves nothing more
  stays : (numbers : List ℕ) (before after : Worker) (why : Halt) → before.halted ≡ Some why → Chain o reading jobs made numbers before after → after ≡ before
  stays [] before after why off c = c
  stays (n ∷ numbers) before after why off c = next c.5 (λ still. stays numbers c.2 after why still c.6)
    where
      next : Serves o (reading c.0) before c.2 c.1 → (c.2.halted ≡ Some why → after ≡ c.2) → after ≡ before
      next (inl s) beyond = absurd (none-some why (sym s.0 ∙ off))
      next (inr s) beyond = beyond (ap (λ (w : Worker). w.halted) s.2 ∙ off) ∙ s.2

  -- and says of each message why
  says : (numbers : List ℕ) (before after : Worker) (why : Halt) → before.halted ≡ Some why → Chain o reading jobs made numbers before after → (i n : ℕ) → slice_get numbers i ≡ Some n → slice_get made (n - 1) ≡ Some (served.Stopped why)
  says [] before after why off c i n at = absurd (none-some n at)
  says (m ∷ numbers) before after why off c i n at = next c.5 i at (λ still j there. says numbers c.2 after why still c.6 j n there)
    where
      next : Serves o (reading c.0) before c.2 c.1 → (i : ℕ) → slice_get (m ∷ numbers) i ≡ Some n → (c.2.halted ≡ Some why → (j : ℕ) → slice_get numbers j ≡ Some n → slice_get made (n - 1) ≡ Some (served.Stopped why))
          → slice_get made (n - 1) ≡ Some (served.Stopped why)
      next (inl s) i at beyond = absurd (none-some why (sym s.0 ∙ off))
      next (inr s) zero at beyond =
          let same : s.0 ≡ why = same_Some s.0 why (sym s.1 ∙ off) in
          let number : m ≡ n = same_Some m n at in
          subst (λ (k : ℕ). slice_get made (k - 1) ≡ Some (served.Stopped why)) number (c.4 ∙ ap (λ (x : Served). Some x) (s.3 ∙ ap (λ (h : Halt). served.Stopped h) same))
      next (inr s) (suc i) at beyond = beyond (ap (λ (w : Worker). w.halted) s.2 ∙ off) i at

  -- pays are entered one after another, each by what was made of its message
  record IsStep (P : Served → Type 0) (F : List Entry → List Pay → List Entry) : Type 0 where
    none : (h : List Entry) → F h [] ≡ h
    more : (h : List Entry) (pay : Pay) (pays : List Pay) → F h (pay ∷ pays) ≡ F (F h (pay ∷ [])) pays
    step : (reading : Result Pay NoPay) (old new : PassKnows) (one : Served) → P one → AnswersMessage o reading old new one → AllTagged o new old.number → known_to o new ≡ F (known_to o old) (pays_in (reading ∷ []))
    on : (one : Served) → P one → halt_of one ≡ None

  replied_step : IsStep IsReplied (λ h pays. fold_of o.accounts h pays o.day)
  replied_step = record {
    none = λ h. refl;
    more = λ h pay pays. refl;
    step = λ r old new one is a tags. goes_on o r old new is.0 (subst (AnswersMessage o r old new) is.1 a) tags;
    on = λ one is. ap halt_of is.1;
  }

  tried_step : AreBy (length o.base) o.accounts → IsStep IsTried (λ h pays. entered_of o.accounts h pays o.day)
  tried_step by = record {
    none = λ h. refl;
    more = λ h pay pays. refl;
    step = λ r old new one is a tags. tries_on o by r old new one is a tags;
    on = goes_tried;
  }

  module _ (P : Served → Type 0) (F : List Entry → List Pay → List Entry) (by : IsStep P F) where
    then : (h : List Entry) (r : Result Pay NoPay) (readings : List (Result Pay NoPay)) → F h (pays_in (r ∷ readings)) ≡ F (F h (pays_in (r ∷ []))) (pays_in readings)
    then h (Ok pay) readings = by.more h pay (pays_in readings)
    then h (Err why) readings = ap (λ (x : List Entry). F x (pays_in readings)) (sym (by.none h))

    -- the serves of so many jobs after the first m, each of which is such, and of those after them
    record Until (m at : ℕ) (before after : Worker) (count : ℕ) : Type 0 where
      mid : Worker
      on : mid.halted ≡ None
      number : mid.pass.number ≡ before.pass.number
      known : known_to o mid.pass ≡ F (known_to o before.pass) (asked (take at (drop m jobs)))
      rest : List ℕ
      chain : Chain o reading jobs made rest mid after
      order : (i n : ℕ) → slice_get rest i ≡ Some n → n ≡ m + at + i + 1
      length_is : length rest + at ≡ count

    until : (numbers : List ℕ) (m at : ℕ) (before after : Worker) → before.halted ≡ None → Chain o reading jobs made numbers before after → ((i n : ℕ) → slice_get numbers i ≡ Some n → n ≡ m + i + 1) → at ≤ length numbers
        → AllTagged o after.pass before.pass.number → ((k : ℕ) → k < at → (one : Served) × (slice_get made (m + k) ≡ Some one) × P one) → Until m at before after (length numbers)
    until numbers m zero before after going c order within tags such = record {
      mid = before;
      on = going;
      number = refl;
      known = sym (by.none (known_to o before.pass));
      rest = numbers;
      chain = c;
      order = λ i n at. let e = order i n at in omega (arith, e);
      length_is = omega arith;
    }
    until [] m (suc at) before after going c order within tags such = absurd (omega arith)
    until (n ∷ numbers) m (suc at) before after going c order within tags such =
        let job = c.0 in
        let next = c.2 in
        let g = goes o (reading job) before next c.1 c.5 in
        let later = grew o reading jobs made numbers next after c.6 in
        let place : n - 1 ≡ m = (let e = order 0 n refl in omega (arith, e)) in
        let here = such 0 (omega arith) in
        let one : here.0 ≡ c.1 = same_Some here.0 c.1 (sym here.1 ∙ (let z : m + 0 ≡ m = omega arith in ap (slice_get made) z) ∙ subst (λ (k : ℕ). slice_get made k ≡ Some c.1) place c.4) in
        let is = subst P one here.2 in
        let a = answered job before next c.1 going c.5 in
        let first = by.step (reading job) before.pass next.pass c.1 is a.0 (tags_front next.pass.known after.pass.known before.pass.number later.known tags) in
        let rest = until numbers (m + 1) at next after (a.1 ∙ by.on c.1 is) c.6 (λ i k there. let e = order (suc i) k there in omega (arith, e)) (omega arith)
        (λ i a there. tags i a there ∙ sym g.number) (λ k less. let r = such (suc k) (omega arith) in let z : m + 1 + k ≡ m + suc k = omega arith in (r.0, ap (slice_get made) z ∙ r.1, r.2)) in
        let is_here : drop m jobs ≡ job ∷ drop (m + 1) jobs = drop_at jobs m job (subst (λ (k : ℕ). slice_get jobs k ≡ Some job) place c.3) in
        record {
          mid = rest.mid;
          on = rest.on;
          number = rest.number ∙ g.number;
          known = rest.known ∙ ap (λ (h : List Entry). F h (asked (take at (drop (m + 1) jobs)))) first
              ∙ sym (then (known_to o before.pass) (reading job) (map reading (take at (drop (m + 1) jobs)))) ∙ ap (λ (l : List Job). F (known_to o before.pass) (asked (take (suc at) l))) (sym is_here);
          rest = rest.rest;
          chain = rest.chain;
          order = λ i k there. let e = rest.order i k there in omega (arith, e);
          length_is = let l = rest.length_is in omega (arith, l);
        }

  -- the serves of all jobs in their order, by one worker that has not served yet and knows nothing past the opening
  pub record IsAlone (numbers : List ℕ) (before after : Worker) (history : List Entry) : Type 0 where
    pub chain : Chain o reading jobs made numbers before after
    pub on : before.halted ≡ None
    pub opened : AreBy (length o.base) o.accounts
    pub order : AreInOrder 1 (length jobs + 1) numbers
    pub none : before.pass.known ≡ []
    pub tags : AllTagged o after.pass before.pass.number
    pub begins : (known : List Act) → IsPrefix known after.pass.known → IsPrefix (history_of o.base known) history
    pub whole : history ≡ known_to o after.pass
    pub replies : length made ≡ length jobs

  module _ (numbers : List ℕ) (before after : Worker) (history : List Entry) (a : IsAlone numbers before after history) where
    from_start : known_to o before.pass ≡ o.base
    from_start = ap (history_of o.base) a.none ∙ append-nil o.base

    until_here : (P : Served → Type 0) (F : List Entry → List Pay → List Entry) (by : IsStep P F) (at : ℕ) → at ≤ length jobs → AreFirst P made at → Until P F by 0 at before after (length numbers)
    until_here P F by at within such =
        let count = a.order.count in
        until P F by numbers 0 at before after a.on a.chain (λ i n there. let e = a.order.at i n there in omega (arith, e)) (omega (arith, count)) a.tags
        (λ k less. let r = such k less in let z : 0 + k ≡ k = omega arith in (r.0, ap (slice_get made) z ∙ r.1, r.2))

    done : (rest : List ℕ) (mid : Worker) → length rest ≡ 0 → Chain o reading jobs made rest mid after → after ≡ mid
    done [] mid none c = c
    done (n ∷ rest) mid none c = absurd (omega (arith, none))

    -- where each of them is such, all pays were entered so
    all_by : (P : Served → Type 0) (F : List Entry → List Pay → List Entry) (by : IsStep P F) → AreFirst P made (length jobs) → history ≡ F o.base (asked jobs)
    all_by P F by such =
        let u = until_here P F by (length jobs) (omega arith) such in
        let rest : length u.rest ≡ 0 = (let l = u.length_is in let c = a.order.count in omega (arith, l, c)) in
        let last : after ≡ u.mid = done u.rest u.mid rest u.chain in
        a.whole ∙ ap (λ (w : Worker). known_to o w.pass) last ∙ u.known ∙ ap (λ (l : List Job). F (known_to o before.pass) (asked l)) (take_whole jobs (length jobs) (omega arith))
        ∙ ap (λ (h : List Entry). F h (asked jobs)) from_start

    -- the pays, cut at a message that asks for one
    cut_at : (at : ℕ) (job : Job) (pay : Pay) → slice_get jobs at ≡ Some job → reading job ≡ Ok pay → asked jobs ≡ asked (take at jobs) ++ pay ∷ asked (drop (suc at) jobs)
    cut_at at job pay there asks =
        ap asked (split_at jobs at job there) ∙ ap (λ (l : List (Result Pay NoPay)). pays_in l) (map-append reading (take at jobs) (job ∷ drop (suc at) jobs))
        ∙ pays_in-append (map reading (take at jobs)) (reading job ∷ map reading (drop (suc at) jobs))
        ∙ ap (λ (r : Result Pay NoPay). asked (take at jobs) ++ pays_in (r ∷ map reading (drop (suc at) jobs))) asks

    -- the serve of the first job after such ones
    record IsNext (at : ℕ) (one : Served) (mid : Worker) : Type 0 where
      job : Job
      next : Worker
      rest : List ℕ
      there : slice_get jobs at ≡ Some job
      serves : Serves o (reading job) mid next one
      chain : Chain o reading jobs made rest next after
      order : (i n : ℕ) → slice_get rest i ≡ Some n → n ≡ at + i + 2
      count : length rest + at + 1 ≡ length jobs

    next_of : (at : ℕ) (one : Served) (mid : Worker) (rest : List ℕ) → slice_get made at ≡ Some one → length rest + at ≡ length numbers → Chain o reading jobs made rest mid after
        → ((i n : ℕ) → slice_get rest i ≡ Some n → n ≡ 0 + at + i + 1) → IsNext at one mid
    next_of at one mid [] here count c order =
        let below = get_below made at one here in let all = a.order.count in let e = a.replies in absurd (omega (arith, below, count, all, e))
    next_of at one mid (n ∷ rest) here count c order =
        let place : n - 1 ≡ at = (let e = order 0 n refl in omega (arith, e)) in
        let same : c.1 ≡ one = same_Some c.1 one (sym (subst (λ (k : ℕ). slice_get made k ≡ Some c.1) place c.4) ∙ here) in
        record {
          job = c.0;
          next = c.2;
          rest = rest;
          there = subst (λ (k : ℕ). slice_get jobs k ≡ Some c.0) place c.3;
          serves = subst (Serves o (reading c.0) mid c.2) same c.5;
          chain = c.6;
          order = λ i m there. let e = order (suc i) m there in omega (arith, e);
          count = let all = a.order.count in omega (arith, all, count);
        }

    -- all entries that the worker knows at the next are its own
    tags_next : (at : ℕ) (one : Served) (mid : Worker) → mid.pass.number ≡ before.pass.number → (n : IsNext at one mid) → AllTagged o n.next.pass mid.pass.number
    tags_next at one mid number n =
        let later = grew o reading jobs made n.rest n.next after n.chain in
        tags_front n.next.pass.known after.pass.known mid.pass.number later.known (λ i x there. a.tags i x there ∙ sym number)

    -- the first that found no room
    short_in_turn : (entries end need : ℕ) → IsFirstFull made entries end need → LacksRoom o.accounts o.base (asked jobs) o.day history entries end need
    short_in_turn entries end need first =
        let below = get_below made first.at (served.Full entries end need) first.there in
        let u = until_here IsReplied (λ h pays. fold_of o.accounts h pays o.day) replied_step first.at (let e = a.replies in omega (arith, below, e)) (first_replies made first.at first.replies (omega (arith, below)) first.ahead) in
        let n = next_of first.at (served.Full entries end need) u.mid u.rest first.there u.length_is u.chain u.order in
        let s = full_shows o (reading n.job) u.mid.pass n.next.pass entries end need (answered n.job u.mid n.next (served.Full entries end need) u.on n.serves).0 (tags_next first.at (served.Full entries end need) u.mid u.number n) in
        let front = asked (take first.at jobs) in
        let fold = fold_of o.accounts o.base front o.day in
        let knows : known_to o u.mid.pass ≡ fold = u.known ∙ ap (λ (h : List Entry). fold_of o.accounts h front o.day) from_start in
        let shows = subst (λ (h : List Entry). ShowsFull o s.0 h entries end need) knows s.2 in
        let g = goes o (reading n.job) u.mid n.next (served.Full entries end need) n.serves in
        let later = grew o reading jobs made n.rest n.next after n.chain in
        let b = a.begins u.mid.pass.known (prefix_trans u.mid.pass.known n.next.pass.known after.pass.known g.known later.known) in
        record {
          front = front;
          pay = s.0;
          rest = asked (drop (suc first.at) jobs);
          pays_are = cut_at first.at n.job s.0 n.there s.1;
          later = b.0;
          left_is = sym b.1 ∙ ap (λ (h : List Entry). h ++ b.0) knows;
          finds = shows;
        }

    -- each of the first was tried, and so none of them says that the disk failed
    tried_not : (at k : ℕ) (why : Halt) → AreFirst IsTried made at → k < at → slice_get made k ≡ Some (served.Stopped why) → ⊥
    tried_not at k why tried less here = let t = tried k less in subst IsTried (same_Some t.0 (served.Stopped why) (sym t.1 ∙ here)) t.2

    -- no message stopped the worker
    none_stopped : AreFirst IsTried made (length jobs) → AreEntered o history (asked jobs) made
    none_stopped tried = record {
      entered = record {
        front = asked jobs;
        rest = [];
        pays_are = sym (append-nil (asked jobs));
        left_is = all_by IsTried (λ h pays. entered_of o.accounts h pays o.day) (tried_step a.opened) tried;
        next = inl refl;
      };
      all = λ _. refl;
      failed = λ says.
          let disk = halt.Disk says.1 says.2 in
          let below = get_below made says.0 (served.Stopped disk) says.3 in
          absurd (tried_not (length jobs) says.0 disk tried (let e = a.replies in omega (arith, below, e)) says.3);
    }

    -- a message stopped it
    module _ (at : ℕ) (tried : AreFirst IsTried made at) (why : Halt) (here : slice_get made at ≡ Some (served.Stopped why)) where
      stop_until : Until IsTried (λ h pays. entered_of o.accounts h pays o.day) (tried_step a.opened) 0 at before after (length numbers)
      stop_until = until_here IsTried (λ h pays. entered_of o.accounts h pays o.day) (tried_step a.opened) at (let below = get_below made at (served.Stopped why) here in let e = a.replies in omega (arith, below, e)) tried

      stop_next : IsNext at (served.Stopped why) stop_until.mid
      stop_next = next_of at (served.Stopped why) stop_until.mid stop_until.rest here stop_until.length_is stop_until.chain stop_until.order

      stop_answer : AnswersMessage o (reading stop_next.job) stop_until.mid.pass stop_next.next.pass (served.Stopped why) × (stop_next.next.halted ≡ Some why)
      stop_answer = answered stop_next.job stop_until.mid stop_next.next (served.Stopped why) stop_until.on stop_next.serves

      stop_last : after ≡ stop_next.next
      stop_last = stays stop_next.rest stop_next.next after why stop_answer.1 stop_next.chain

      stop_whole : history ≡ known_to o stop_next.next.pass
      stop_whole = a.whole ∙ ap (λ (w : Worker). known_to o w.pass) stop_last

      stop_left : history ≡ entered_of o.accounts o.base (asked (take at jobs)) o.day
      stop_left =
          stop_whole ∙ stops_here o (reading stop_next.job) stop_until.mid.pass stop_next.next.pass why stop_answer.0 (tags_next at (served.Stopped why) stop_until.mid stop_until.number stop_next)
          ∙ stop_until.known ∙ ap (λ (h : List Entry). entered_of o.accounts h (asked (take at jobs)) o.day) from_start

      -- what was made of all after it is the same
      stop_rest : (k : ℕ) → k < length made → at < k → slice_get made k ≡ Some (served.Stopped why)
      stop_rest k within beyond =
          let n = stop_next in
          let i = k - at - 1 in
          let there = get_some n.rest i (let c = n.count in let e = a.replies in omega (arith, c, e, within, beyond)) in
          let place : there.0 - 1 ≡ k = (let e = n.order i there.0 there.1 in omega (arith, e, beyond)) in
          subst (λ (m : ℕ). slice_get made m ≡ Some (served.Stopped why)) place (says n.rest n.next after why stop_answer.1 n.chain i there.0 there.1)
        where
          get_some : (xs : List ℕ) (k : ℕ) → k < length xs → (x : ℕ) × (slice_get xs k ≡ Some x)
          get_some [] k within = absurd (omega arith)
          get_some (x ∷ xs) zero within = (x, refl)
          get_some (x ∷ xs) (suc k) within = get_some xs k (omega arith)

      -- so where one says that the disk failed, it did so at this one
      stop_says : SaysFailed made → (from : ℕ) × (to : ℕ) × (halt.Disk from to ≡ why)
      stop_says (k, from, to, says_so) = (
        from,
        to,
        dite (dec_lt k at)
            (λ less. absurd (tried_not at k (halt.Disk from to) tried less says_so))
            (λ more. dite (dec_lt at k)
            (λ beyond. same_halt (stop_rest k (get_below made k (served.Stopped (halt.Disk from to)) says_so) beyond))
            (λ no_more. same_halt (let e : at ≡ k = omega (arith, more, no_more) in ap (slice_get made) (sym e) ∙ here))),
      )
        where
          same_halt : slice_get made k ≡ Some (served.Stopped why) → halt.Disk from to ≡ why
          same_halt is =
              let s : served.Stopped (halt.Disk from to) ≡ served.Stopped why = same_Some (served.Stopped (halt.Disk from to)) (served.Stopped why) (sym says_so ∙ is) in cc (s)

      stop_cut : asked jobs ≡ asked (take at jobs) ++ asked (drop at jobs)
      stop_cut =
          ap asked (sym (take_drop at jobs)) ∙ ap (λ (l : List (Result Pay NoPay)). pays_in l) (map-append reading (take at jobs) (drop at jobs)) ∙ pays_in-append (map reading (take at jobs)) (map reading (drop at jobs))
        where
          take_drop : (n : ℕ) (xs : List Job) → take n xs ++ drop n xs ≡ xs
          take_drop zero xs = refl
          take_drop (suc n) [] = refl
          take_drop (suc n) (x ∷ xs) = ap (λ (l : List Job). x ∷ l) (take_drop n xs)

      not_all : All IsTried made → ⊥
      not_all all = get_all IsTried made at (served.Stopped why) all here

      -- not for the disk
      stopped_else : ((from to : ℕ) → halt.Disk from to ≡ why → ⊥) → AreEntered o history (asked jobs) made
      stopped_else other = record {
        entered = subst (λ (pays : List Pay). EntersFront o.accounts o.base pays o.day history) (sym stop_cut) (front_on o.accounts o.base (asked (take at jobs)) (asked (drop at jobs)) o.day history stop_left);
        all = λ all. absurd (not_all all);
        failed = λ says_so. let says = stop_says says_so in absurd (other says.0 says.1 says.2);
      }

      -- for the disk: its pay is new
      stopped_disk : (from to : ℕ) → halt.Disk from to ≡ why → AreEntered o history (asked jobs) made
      stopped_disk from to disk =
          let n = stop_next in
          let f = fails_new o (reading n.job) stop_until.mid.pass n.next.pass from to (subst (λ (h : Halt). AnswersMessage o (reading n.job) stop_until.mid.pass n.next.pass (served.Stopped h)) (sym disk) stop_answer.0) in
          let begins : BeginsNew history (f.0 ∷ asked (drop (suc at) jobs)) =
          record { pay = f.0; more = asked (drop (suc at) jobs); pays_are = refl; new = subst (λ (h : List Entry). entered_at f.0.mir h ≡ None) (sym stop_whole) f.2 } in
          record {
            entered = record {
              front = asked (take at jobs);
              rest = f.0 ∷ asked (drop (suc at) jobs);
              pays_are = cut_at at n.job f.0 n.there f.1;
              left_is = stop_left;
              next = inr begins;
            };
            all = λ all. absurd (not_all all);
            failed = λ _. begins;
          }

    stopped_by : (at : ℕ) → AreFirst IsTried made at → (why : Halt) → slice_get made at ≡ Some (served.Stopped why) → AreEntered o history (asked jobs) made
    stopped_by at tried (halt.Disk from to) here = stopped_disk at tried (halt.Disk from to) here from to refl
    stopped_by at tried halt.Broken here = stopped_else at tried halt.Broken here (λ from to e. cc (e))
    stopped_by at tried halt.Memory here = stopped_else at tried halt.Memory here (λ from to e. cc (e))

    entered_in_turn : AreEntered o history (asked jobs) made
    entered_in_turn = cases (first_stop made)
      where
        cases : IsFirstStop made → AreEntered o history (asked jobs) made
        cases f = ends f.at f.tried f.stops
          where
            ends : (at : ℕ) → AreFirst IsTried made at → (at ≡ length made) ⊎ ((why : Halt) × (slice_get made at ≡ Some (served.Stopped why))) → AreEntered o history (asked jobs) made
            ends at tried (inl all) = none_stopped (subst (AreFirst IsTried made) (all ∙ a.replies) tried)
            ends at tried (inr s) = stopped_by at tried s.0 s.1

    pub in_turn : AreServedInOrder o history (map reading jobs) made
    in_turn = record {
      all = λ replies is. all_by IsReplied (λ h pays. fold_of o.accounts h pays o.day) replied_step (first_replies made (length jobs) replies (let e = a.replies in omega (arith, e)) (take_whole made (length jobs) (let e = a.replies in omega (arith, e)) ∙ is));
      short = short_in_turn;
      entered = entered_in_turn;
    }
