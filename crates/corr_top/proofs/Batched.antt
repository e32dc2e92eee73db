-- A batch of messages that a worker answered: what it made of them is what it makes of them one after another.
use Rattle.std.proofs.Common.{◌≡◌, inl, inr, ℕ, zero, suc, ◌+◌, ◌-◌, ◌<◌, ◌≤◌, All, List, [], ◌∷◌, ◌++◌, drop, get_or, length, length-append, map, take, Option, Some, None, Result, Ok, Err, refl, sym, ap, ◌∙◌, subst, arith, append-nil, append_assoc}
use Rattle.std.specs.Prelude.{IfErr, IfOk}
use mathlib.Core.List.{IsPrefix}
use Rattle.std.proofs.lemmas.List.{drop-drop, drop_all, length-drop, length-map, map-append, map_more, take-append-drop}
use Rattle.std.proofs.lemmas.List.Elements.{All-append, All-head, All-nil, All-tail}
use Rattle.corr_books.specs.Opening.{Opening}
use Rattle.corr_books.specs.Telling.{Told}
use Rattle.corr_books.specs.TellingAll.{ToldAll}
use Rattle.day_model.specs.declared.pay.Pay.{Pay}
use Rattle.day_model.specs.Chart.{Chart}
use Rattle.day_model.specs.Fit.{FitsAccounts}
use Rattle.day_model.specs.Shape.{HasShape}
use Rattle.front_word.specs.Known.{PassKnows}
use Rattle.jrn_book.specs.Answers.{Answer}
use Rattle.jrn_book.specs.declared.answer.Committed.TheVariants.{New, Kept}
use Rattle.jrn_book.specs.declared.answer.CommitFault.TheVariants as fault
use Rattle.work_pool.specs.Served.{AreServed}
use Rattle.corr_top.specs.declared.batching.Made.{Made}
use Rattle.corr_top.specs.declared.desk.Halt.{Halt}
use Rattle.corr_top.specs.declared.desk.Halt.TheVariants as halt
use Rattle.corr_top.specs.declared.desk.Served.{Served}
use Rattle.corr_top.specs.declared.desk.Served.TheVariants as served
use Rattle.corr_top.specs.declared.message.NoPay.{NoPay}
use Rattle.corr_top.specs.inner.Batching.{IsSoundReading, ServesInTurn, all_made, ask_of, halt_after, halted_by, made_by, made_in, messages_in, stopped_so, why_of}
use Rattle.corr_top.specs.Message.{pays_in}
use Rattle.corr_top.specs.inner.Serving.{Serves, halt_of, served_of}
use Rattle.corr_top.specs.inner.Workers.{Worker}
use Rattle.corr_top.proofs.Replying.{all_one}
use Rattle.corr_top.proofs.Batches.{HaveServed, InTurn, ServesBatch, all_counted, each_served, have_served, joined, weaker_served}

-- ---- sound readings

pub all_fit : (chart : Chart) (readings : List (Result Pay NoPay)) → All (IsSoundReading chart) readings → All (FitsAccounts chart) (pays_in readings) × All HasShape (pays_in readings)
all_fit chart [] all = (All-nil (FitsAccounts chart), All-nil HasShape)
all_fit chart (Ok pay ∷ readings) all =
    let rest = all_fit chart readings (All-tail (IsSoundReading chart) (Ok pay) readings all) in
    let here = All-head (IsSoundReading chart) (Ok pay) readings all in
    (All-append (FitsAccounts chart) (pay ∷ []) (pays_in readings) (all_one (FitsAccounts chart) pay here.0) rest.0, All-append HasShape (pay ∷ []) (pays_in readings) (all_one HasShape pay here.1) rest.1)
all_fit chart (Err why ∷ readings) all = all_fit chart readings (All-tail (IsSoundReading chart) (Err why) readings all)

-- messages that were read so far are a front part of all
pub read_front : (reading : List ℕ → Result Pay NoPay) (messages : List (List ℕ)) (at : ℕ) (readings : List (Result Pay NoPay)) → readings ≡ map reading (take at messages) → IsPrefix readings (map reading messages)
read_front reading messages at readings so_far =
    let rest = map reading (drop at messages) in
    (rest, ap (λ (l : List (Result Pay NoPay)). l ++ rest) so_far ∙ sym (map-append reading (take at messages) (drop at messages)) ∙ ap (λ (l : List (List ℕ)). map reading l) (take-append-drop at messages))

-- and one more of them
pub read_more : (reading : List ℕ → Result Pay NoPay) (messages : List (List ℕ)) (at : ℕ) (message : List ℕ) (readings : List (Result Pay NoPay)) (one : Result Pay NoPay) → at < length messages
    → message ≡ get_or messages at [] → one ≡ reading message → readings ≡ map reading (take at messages) → readings ++ one ∷ [] ≡ map reading (take (at + 1) messages)
read_more reading messages at message readings one within here is so_far =
    (λ i. so_far i ++ (is ∙ ap reading here) i ∷ []) ∙ sym (map_more reading messages at [] within)

-- no more pays than readings
pub pays_few : (readings : List (Result Pay NoPay)) → length (pays_in readings) ≤ length readings
pays_few [] = omega arith
pays_few (Ok pay ∷ readings) = let r = pays_few readings in omega (arith, r)
pays_few (Err why ∷ readings) = let r = pays_few readings in omega (arith, r)

-- and no more of those that begin a list than it has
pub front_few : (readings all : List (Result Pay NoPay)) → IsPrefix readings all → length readings ≤ length all
front_few readings all front = let whole = ap length front.1 in let parts = length-append readings front.0 in omega (arith, whole, parts)

-- a batch more
pub messages_end : (batches : List (List (List ℕ))) (batch : List (List ℕ)) → messages_in (batches ++ batch ∷ []) ≡ messages_in batches ++ batch
messages_end [] batch = append-nil batch
messages_end (b ∷ batches) batch = ap (λ (l : List (List ℕ)). b ++ l) (messages_end batches batch) ∙ sym (append_assoc b (messages_in batches) batch)

-- a batch more of messages of which so many were dealt
pub dealt : (batches : List (List (List ℕ))) (front messages : List (List ℕ)) (at count : ℕ) → messages_in batches ++ drop at messages ≡ messages → front ≡ take count (drop at messages)
    → messages_in (batches ++ front ∷ []) ++ drop (at + count) messages ≡ messages
dealt batches front messages at count so_far is =
    let rest : front ++ drop (at + count) messages ≡ drop at messages = (λ i. is i ++ sym (drop-drop count at messages) i) ∙ take-append-drop count (drop at messages) in
    ap (λ (l : List (List ℕ)). l ++ drop (at + count) messages) (messages_end batches front) ∙ append_assoc (messages_in batches) front (drop (at + count) messages)
    ∙ ap (λ (l : List (List ℕ)). messages_in batches ++ l) rest ∙ so_far

-- and all of them were
pub all_dealt : (batches : List (List (List ℕ))) (messages : List (List ℕ)) (at : ℕ) → messages_in batches ++ drop at messages ≡ messages → length messages ≤ at → messages_in batches ≡ messages
all_dealt batches messages at so_far whole =
    sym (append-nil (messages_in batches)) ∙ ap (λ (l : List (List ℕ)). messages_in batches ++ l) (sym (drop_all at messages whole)) ∙ so_far

-- ---- a worker that stopped

module _ (o : Opening) where
  -- it makes the same of all that is left
  pub stopped : (readings : List (Result Pay NoPay)) (w : Worker) (why : Halt) → w.halted ≡ Some why → ServesInTurn o readings w w (stopped_so (length readings) why)
  stopped [] w why is = refl
  stopped (reading ∷ readings) w why is = (w, inr (why, is, refl, refl), stopped readings w why is)

  -- memory ran out at a message: a message that asks for anything says so, and the pass is as it was
  runs_out : (reading : Result Pay NoPay) (pass : PassKnows) → Serves o reading (record { pass = pass; halted = None }) (record { pass = pass; halted = Some halt.Memory }) (served.Stopped halt.Memory)
  runs_out (Ok pay) pass = inl (refl, inl (refl, refl), refl)
  runs_out (Err why) pass = inl (refl, (refl, inl refl), refl)

  pub none_left : (reading : Result Pay NoPay) (readings : List (Result Pay NoPay)) (pass : PassKnows)
      → ServesInTurn o (reading ∷ readings) (record { pass = pass; halted = None }) (record { pass = pass; halted = Some halt.Memory }) (stopped_so (length (reading ∷ readings)) halt.Memory)
  none_left reading readings pass =
      let after : Worker = record { pass = pass; halted = Some halt.Memory } in
      (after, runs_out reading pass, stopped readings after halt.Memory refl)

  -- so it is of all messages of a batch, where there was no memory for its lists
  pub no_lists : (readings : List (Result Pay NoPay)) (pass : PassKnows) → 1 ≤ length readings
      → ServesInTurn o readings (record { pass = pass; halted = None }) (record { pass = pass; halted = Some halt.Memory }) (stopped_so (length readings) halt.Memory)
  no_lists [] pass some = absurd (omega (arith, some))
  no_lists (reading ∷ readings) pass some = none_left reading readings pass

  -- what is left of a batch, after so much of it
  pub left_over : (rest : List (Result Pay NoPay)) (pass : PassKnows) (halted : Option Halt)
      → ServesInTurn o rest (record { pass = pass; halted = halted }) (record { pass = pass; halted = halt_after (length rest) halted }) (stopped_so (length rest) (why_of halted))
  left_over [] pass halted = refl
  left_over (reading ∷ rest) pass None = none_left reading rest pass
  left_over (reading ∷ rest) pass (Some why) = stopped (reading ∷ rest) (record { pass = pass; halted = Some why }) why refl

  -- ---- messages that were answered one after another

  -- a message more
  pub served_more : (readings : List (Result Pay NoPay)) (reading : Result Pay NoPay) (old mid new : Worker) (made : List Served) (one : Served) → ServesInTurn o readings old mid made → Serves o reading mid new one
      → ServesInTurn o (readings ++ reading ∷ []) old new (made ++ one ∷ [])
  served_more [] reading old mid new [] one so_far is = (new, subst (λ (w : Worker). Serves o reading w new one) so_far is, refl)
  served_more [] reading old mid new (m ∷ made) one so_far is = absurd so_far
  served_more (r ∷ readings) reading old mid new [] one so_far is = absurd so_far
  served_more (r ∷ readings) reading old mid new (m ∷ made) one so_far is = (so_far.0, so_far.1, served_more readings reading so_far.0 mid new made one so_far.2 is)

  -- the messages up to the next one
  pub served_next : (reading : List ℕ → Result Pay NoPay) (messages : List (List ℕ)) (at : ℕ) (message : List ℕ) (old mid new : Worker) (made now : List Served) (one : Served) → at < length messages
      → message ≡ get_or messages at [] → ServesInTurn o (map reading (take at messages)) old mid made → Serves o (reading message) mid new one → now ≡ made ++ one ∷ []
      → ServesInTurn o (map reading (take (at + 1) messages)) old new now
  served_next reading messages at message old mid new made now one within here so_far is put =
      let more = read_more reading messages at message (map reading (take at messages)) (reading message) within here refl refl in
      subst (λ (x : List (Result Pay NoPay) × List Served). ServesInTurn o x.0 old new x.1) (λ i. (more i, sym put i)) (served_more (map reading (take at messages)) (reading message) old mid new made one so_far is)

  -- messages, and those after them
  served_both : (front rest : List (Result Pay NoPay)) (old mid new : Worker) (made more : List Served) → ServesInTurn o front old mid made → ServesInTurn o rest mid new more
      → ServesInTurn o (front ++ rest) old new (made ++ more)
  served_both [] rest old mid new [] more so_far after = subst (λ (w : Worker). ServesInTurn o rest w new more) so_far after
  served_both [] rest old mid new (m ∷ made) more so_far after = absurd so_far
  served_both (r ∷ front) rest old mid new [] more so_far after = absurd so_far
  served_both (r ∷ front) rest old mid new (m ∷ made) more so_far after = (so_far.0, so_far.1, served_both front rest so_far.0 mid new made more so_far.2 after)

  -- the first n messages were answered, and what is left is stopped
  pub front_served : (reading : List ℕ → Result Pay NoPay) (messages : List (List ℕ)) (n : ℕ) (old : Worker) (pass : PassKnows) (halted : Option Halt) (made : List Served)
      → ServesInTurn o (map reading (take n messages)) old (record { pass = pass; halted = halted }) made
      → ServesInTurn o (map reading messages) old (record { pass = pass; halted = halt_after (length messages - n) halted }) (made ++ stopped_so (length messages - n) (why_of halted))
  front_served reading messages n old pass halted made so_far =
      let front = map reading (take n messages) in
      let rest = map reading (drop n messages) in
      let left : length rest ≡ length messages - n = length-map (drop n messages) reading ∙ length-drop n messages in
      let whole : front ++ rest ≡ map reading messages = sym (map-append reading (take n messages) (drop n messages)) ∙ ap (λ (l : List (List ℕ)). map reading l) (take-append-drop n messages) in
      let here = served_both front rest old (record { pass = pass; halted = halted }) (record { pass = pass; halted = halt_after (length rest) halted }) made (stopped_so (length rest) (why_of halted)) so_far (left_over rest pass halted) in
      subst (λ (x : List (Result Pay NoPay) × ℕ). ServesInTurn o x.0 old (record { pass = pass; halted = halt_after x.1 halted }) (made ++ stopped_so x.1 (why_of halted))) (λ i. (whole i, left i)) here

  -- ---- messages whose pays were booked

  still : (left : ℕ) (why : Halt) → Some why ≡ halt_after left (Some why)
  still zero why = refl
  still (suc left) why = refl

  -- What is made of messages by the answers to the pays of those that were read, and of what is left, is what the worker makes of all of
  -- them one after another.
  pub record IsBooked (readings rest : List (Result Pay NoPay)) (answers : List Answer) (old new : PassKnows) : Type 0 where
    pub left : ℕ
    pub count : length (made_by (map ask_of readings) answers) + left ≡ length (readings ++ rest)
    pub served : ServesInTurn o (readings ++ rest) (record { pass = old; halted = None }) (record { pass = new; halted = halt_after left (halted_by (map ask_of readings) answers) })
        (made_by (map ask_of readings) answers ++ stopped_so left (why_of (halted_by (map ask_of readings) answers)))

  step : (pay : Pay) (answer : Answer) (old next : PassKnows) → HasShape pay → Told o pay old answer next
      → Serves o (Ok pay) (record { pass = old; halted = None }) (record { pass = next; halted = halt_of (served_of pay.mir answer) }) (served_of pay.mir answer)
  step pay answer old next shape told = inl (refl, inr (answer, told, shape, refl), refl)

  -- all after it are stopped for the same reason
  rest_stopped : (left : List (Result Pay NoPay)) (next new : PassKnows) (why : Halt) → new ≡ next
      → ServesInTurn o left (record { pass = next; halted = Some why }) (record { pass = new; halted = halt_after (length left) (Some why) }) (stopped_so (length left) why)
  rest_stopped left next new why same =
      let w : Worker = record { pass = next; halted = Some why } in
      let is : w ≡ record { pass = new; halted = halt_after (length left) (Some why) } = (λ i. record { pass = sym same i; halted = still (length left) why i }) in
      subst (λ (x : Worker). ServesInTurn o left w x (stopped_so (length left) why)) is (stopped left w why refl)

  pub booked : (readings rest : List (Result Pay NoPay)) (answers : List Answer) (old new : PassKnows) → All HasShape (pays_in readings) → ToldAll o (pays_in readings) old answers new
      → IsBooked readings rest answers old new
  booked [] rest [] old new shapes told = record {
    left = length rest;
    count = omega arith;
    served = subst (λ (p : PassKnows). ServesInTurn o rest (record { pass = old; halted = None }) (record { pass = p; halted = halt_after (length rest) None }) (stopped_so (length rest) halt.Memory)) (sym told)
        (left_over rest old None);
  }
  booked [] rest (answer ∷ answers) old new shapes told = absurd told
  booked (Err why ∷ readings) rest answers old new shapes told =
      let r = booked readings rest answers old new shapes told in
      record { left = r.left; count = (let e = r.count in omega (arith, e)); served = (record { pass = old; halted = None }, inl (refl, (refl, inr refl), refl), r.served) }
  booked (Ok pay ∷ readings) rest [] old new shapes told = absurd told
  booked (Ok pay ∷ readings) rest (Ok (New place outcome) ∷ answers) old new shapes told =
      let r = booked readings rest answers told.0 new (All-tail HasShape pay (pays_in readings) shapes) told.2 in
      record { left = r.left; count = (let e = r.count in omega (arith, e)); served = (record { pass = told.0; halted = None }, step pay (Ok (New place outcome)) old told.0 (All-head HasShape pay (pays_in readings) shapes) told.1, r.served) }
  booked (Ok pay ∷ readings) rest (Ok (Kept place outcome) ∷ answers) old new shapes told =
      let r = booked readings rest answers told.0 new (All-tail HasShape pay (pays_in readings) shapes) told.2 in
      record { left = r.left; count = (let e = r.count in omega (arith, e)); served = (record { pass = told.0; halted = None }, step pay (Ok (Kept place outcome)) old told.0 (All-head HasShape pay (pays_in readings) shapes) told.1, r.served) }
  booked (Ok pay ∷ readings) rest (Err (fault.Conflict place) ∷ answers) old new shapes told =
      let r = booked readings rest answers told.0 new (All-tail HasShape pay (pays_in readings) shapes) told.2 in
      record { left = r.left; count = (let e = r.count in omega (arith, e)); served = (record { pass = told.0; halted = None }, step pay (Err (fault.Conflict place)) old told.0 (All-head HasShape pay (pays_in readings) shapes) told.1, r.served) }
  booked (Ok pay ∷ readings) rest (Err (fault.Full entries end need) ∷ answers) old new shapes told =
      let r = booked readings rest answers told.0 new (All-tail HasShape pay (pays_in readings) shapes) told.2 in
      record { left = r.left; count = (let e = r.count in omega (arith, e)); served = (record { pass = told.0; halted = None }, step pay (Err (fault.Full entries end need)) old told.0 (All-head HasShape pay (pays_in readings) shapes) told.1, r.served) }
  booked (Ok pay ∷ readings) rest (Err (fault.DiskFault before after) ∷ answers) old new shapes told = record {
    left = length (readings ++ rest);
    count = omega arith;
    served = (
      record { pass = told.0; halted = Some (halt.Disk before after) },
      step pay (Err (fault.DiskFault before after)) old told.0 (All-head HasShape pay (pays_in readings) shapes) told.1,
      rest_stopped (readings ++ rest) told.0 new (halt.Disk before after) told.2.0,
    );
  }
  booked (Ok pay ∷ readings) rest (Err (fault.Broken at_open now) ∷ answers) old new shapes told = record {
    left = length (readings ++ rest);
    count = omega arith;
    served = (record { pass = told.0; halted = Some halt.Broken }, step pay (Err (fault.Broken at_open now)) old told.0 (All-head HasShape pay (pays_in readings) shapes) told.1, rest_stopped (readings ++ rest) told.0 new halt.Broken told.2.0);
  }
  booked (Ok pay ∷ readings) rest (Err fault.Memory ∷ answers) old new shapes told = record {
    left = length (readings ++ rest);
    count = omega arith;
    served = (record { pass = told.0; halted = Some halt.Memory }, step pay (Err fault.Memory) old told.0 (All-head HasShape pay (pays_in readings) shapes) told.1, rest_stopped (readings ++ rest) told.0 new halt.Memory told.2.0);
  }

  -- what a worker made of a batch whose lists the desk filled: the messages that were read, by their answers, and what is left
  pub answered : (all readings : List (Result Pay NoPay)) (answers : List Answer) (old new : PassKnows) (made : List Served) → IsPrefix readings all → All HasShape (pays_in readings)
      → ToldAll o (pays_in readings) old answers new
      → made ≡ made_by (map ask_of readings) answers ++ stopped_so (length all - length (made_by (map ask_of readings) answers)) (why_of (halted_by (map ask_of readings) answers))
      → ServesInTurn o all (record { pass = old; halted = None })
      (record { pass = new; halted = halt_after (length all - length (made_by (map ask_of readings) answers)) (halted_by (map ask_of readings) answers) }) made
  answered all readings answers old new made front shapes told is =
      let asks = map ask_of readings in
      let b = booked readings front.0 answers old new shapes told in
      let count = b.count in
      let long : length (readings ++ front.0) ≡ length all = ap length front.1 in
      let left : b.left ≡ length all - length (made_by asks answers) = omega (arith, count, long) in
      let here = subst (λ (n : ℕ). ServesInTurn o (readings ++ front.0) (record { pass = old; halted = None }) (record { pass = new; halted = halt_after n (halted_by asks answers) })
      (made_by asks answers ++ stopped_so n (why_of (halted_by asks answers)))) left b.served in
      subst (λ (m : List Served). ServesInTurn o all (record { pass = old; halted = None }) (record { pass = new; halted = halt_after (length all - length (made_by asks answers)) (halted_by asks answers) }) m) (sym is)
      (subst (λ (rs : List (Result Pay NoPay)). ServesInTurn o rs (record { pass = old; halted = None }) (record { pass = new; halted = halt_after (length all - length (made_by asks answers)) (halted_by asks answers) })
      (made_by asks answers ++ stopped_so (length all - length (made_by asks answers)) (why_of (halted_by asks answers)))) front.1 here)

  -- no more is made of them than there are messages
  pub made_few : (readings : List (Result Pay NoPay)) (answers : List Answer) (old new : PassKnows) → All HasShape (pays_in readings) → ToldAll o (pays_in readings) old answers new
      → length (made_by (map ask_of readings) answers) ≤ length readings
  made_few readings answers old new shapes told =
      let b = booked readings [] answers old new shapes told in
      let count = b.count in
      let long = length-append readings [] in
      omega (arith, count, long)

-- ---- messages, as what they ask for

-- messages that ask for these were served in turn
pub in_turn_of : {Job : Type 0} (o : Opening) (reading : Job → Result Pay NoPay) (jobs : List Job) (old new : Worker) (made : List Served) → ServesInTurn o (map reading jobs) old new made
    → InTurn (λ (before : Worker) (job : Job) (after : Worker) (one : Served). Serves o (reading job) before after one) jobs old new made
in_turn_of o reading [] old new [] is = is
in_turn_of o reading [] old new (one ∷ made) is = absurd is
in_turn_of o reading (job ∷ jobs) old new [] is = absurd is
in_turn_of o reading (job ∷ jobs) old new (one ∷ made) is = (is.0, is.1, in_turn_of o reading jobs is.0 new made is.2)

joined_made : (made : List Made) → joined (map made_in made) ≡ all_made made
joined_made [] = refl
joined_made (one ∷ more) = ap (λ (l : List Served). made_in one ++ l) (joined_made more)

joined_messages : (batches : List (List (List ℕ))) → joined (map (λ (b : List (List ℕ)). b) batches) ≡ messages_in batches
joined_messages [] = refl
joined_messages (b ∷ batches) = ap (λ (l : List (List ℕ)). b ++ l) (joined_messages batches)

module _ (o : Opening) (reading : List ℕ → Result Pay NoPay) (before after : List Worker) (batches : List (List (List ℕ))) (messages : List (List ℕ)) (whole : messages_in batches ≡ messages) where
  -- a worker and a message
  abbrev pub ServesOne : Worker → List ℕ → Worker → Served → Type 0
  ServesOne old message next one = Serves o (reading message) old next one

  -- a worker and a batch
  abbrev pub ServesAll : Worker → List (List ℕ) → Worker → Made → Type 0
  ServesAll old batch next made = ServesInTurn o (map reading batch) old next (made_in made)

  in_turns : (made : List Made) → HaveServed ServesAll before batches after made → HaveServed (ServesBatch ServesOne (λ (b : List (List ℕ)). b) made_in) before batches after made
  in_turns made served = weaker_served ServesAll (ServesBatch ServesOne (λ (b : List (List ℕ)). b) made_in) (λ old batch next one is. in_turn_of o reading batch old next (made_in one) is) batches made before after served

  pub message_count : (made : List Made) → HaveServed ServesAll before batches after made → length (all_made made) ≡ length messages
  message_count made served =
      ap length (sym (joined_made made)) ∙ all_counted ServesOne (λ (b : List (List ℕ)). b) made_in batches made before after (in_turns made served)
      ∙ ap length (joined_messages batches ∙ whole)

  pub messages_served : (made : List Made) → HaveServed ServesAll before batches after made → HaveServed ServesOne before messages after (all_made made)
  messages_served made served =
      subst (λ (l : List (List ℕ)). HaveServed ServesOne before l after (all_made made)) (joined_messages batches ∙ whole)
      (subst (λ (l : List Served). HaveServed ServesOne before (joined (map (λ (b : List (List ℕ)). b) batches)) after l) (joined_made made)
      (each_served ServesOne (λ (b : List (List ℕ)). b) made_in batches made before after (in_turns made served)))

  module _ {R E : Type 0} (items : R → List Made) where
    pub done_of : (r : Result R E) → IfOk r (λ rs. AreServed ServesAll before batches after (items rs)) → IfOk r (λ rs. HaveServed ServesOne before messages after (all_made (items rs)))
    done_of (Ok rs) served = messages_served (items rs) (have_served ServesAll before batches after (items rs) served)
    done_of (Err e) served = tt

    pub room_for : (room : ℕ) → length messages ≤ room → (r : Result R E) → IfOk r (λ rs. AreServed ServesAll before batches after (items rs)) → IfOk r (λ rs. length (all_made (items rs)) ≤ room)
    room_for room enough (Ok rs) served = let count = message_count (items rs) (have_served ServesAll before batches after (items rs) served) in omega (arith, count, enough)
    room_for room enough (Err e) served = tt

-- ---- what became of batches, as what became of messages

module _ {R V E F : Type 0} (from : R → List Served) (to : V → List Served) (P : List Served → Type 0) where
  pub carried : (r : Result R E) (s : Result V F) → IfOk r (λ m. IfOk s (λ v. to v ≡ from m)) → IfOk s (λ _. IfErr r (λ _. ⊥)) → IfOk r (λ m. P (from m)) → IfOk s (λ v. P (to v))
  carried (Ok m) (Ok v) same ok holds = subst P (sym same) holds
  carried (Ok m) (Err f) same ok holds = tt
  carried (Err e) (Ok v) same ok holds = absurd ok
  carried (Err e) (Err f) same ok holds = tt

pub carried_none : {R V E F : Type 0} (Q : Type 0) (r : Result R E) (s : Result V F) → IfErr s (λ _. IfOk r (λ _. ⊥)) → IfErr r (λ _. Q) → IfErr s (λ _. Q)
carried_none Q (Ok m) (Ok v) err none = tt
carried_none Q (Ok m) (Err f) err none = absurd err
carried_none Q (Err e) (Ok v) err none = tt
carried_none Q (Err e) (Err f) err none = none
