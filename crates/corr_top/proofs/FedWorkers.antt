-- All workers over a feed together, whether there is a reply for each batch or memory ran out: each entry is of a pay of the messages that
-- were given, and one worker entered a front part of these.
use Rattle.std.proofs.Common.{◌≡◌, ℕ, zero, suc, ◌+◌, ◌-◌, ◌<◌, All, List, [], ◌∷◌, ◌++◌, length, map, Some, Result, Ok, Err, refl, sym, ap, ◌∙◌, subst, arith, append_assoc}
use Rattle.std.specs.Prelude.{slice_get}
use Rattle.std.proofs.lemmas.List.{length-map, map-append}
use Rattle.std.proofs.lemmas.Option.{none-some, same_Some}
use Rattle.corr_ids.specs.declared.day.Day.{Day}
use Rattle.corr_books.specs.Closing.{Closes}
use Rattle.corr_books.specs.Opening.{Opening}
use Rattle.corr_books.specs.Passes.{AreNew}
use Rattle.corr_books.specs.Stand.{entries_of}
use Rattle.day_model.specs.Chart.{AreBy, Chart}
use Rattle.day_model.specs.declared.entry.Entry.{Entry}
use Rattle.day_model.specs.declared.pay.Pay.{Pay}
use Rattle.front_word.proofs.laws.Prefixes.{get_below}
use Rattle.front_word.specs.Known.{PassKnows}
use Rattle.front_word.specs.declared.view.Act.{Act}
use Rattle.work_pool.specs.Fed.{FedWith}
use Rattle.work_pool.specs.Served.{ServedWith}
use Rattle.work_pool.specs.declared.server.Answer.{Answer}
use Rattle.corr_top.specs.declared.batching.Made.{Made}
use Rattle.corr_top.specs.declared.message.NoPay.{NoPay}
use Rattle.corr_top.specs.inner.Batching.{ServesInTurn, made_in, messages_in}
use Rattle.corr_top.specs.Booking.{EntersFront, IsEnteredOn}
use Rattle.corr_top.specs.Message.{pays_in}
use Rattle.corr_top.specs.inner.Serving.{starting}
use Rattle.corr_top.specs.inner.Workers.{Worker}
use Rattle.corr_top.proofs.Batches.{HaveServed, get_mapped, get_there, numbers_from, same_count, unmapped}
use Rattle.corr_top.proofs.Chains.{grew, of_jobs}
use Rattle.corr_top.proofs.FedJobs.{CountsFrom, ServesOne, begins_all, part_of, part_served}
use Rattle.corr_top.proofs.FrontPart.{front_on}
use Rattle.corr_top.proofs.Workers.{added_here, all_entries, passes_of, turn}

-- ---- lists

number_is : (low count i n : ℕ) → slice_get (numbers_from low count) i ≡ Some n → (n ≡ low + i) × (i < count)
number_is low zero i n at = absurd (none-some n at)
number_is low (suc count) zero n at = let e = same_Some low n at in (omega (arith, e), omega arith)
number_is low (suc count) (suc i) n at = let r = number_is (suc low) count i n at in let is = r.0 in let less = r.1 in (omega (arith, is), omega (arith, less))

number_there : (low count i n : ℕ) → i < count → n ≡ low + i → slice_get (numbers_from low count) i ≡ Some n
number_there low zero i n less is = absurd (omega (arith, less))
number_there low (suc count) zero n less is = ap (λ (x : ℕ). Some x) (omega (arith, is))
number_there low (suc count) (suc i) n less is = number_there (suc low) count i n (omega (arith, less)) (omega (arith, is))

-- what stands in a list of one
only : {A : Type 0} (x y : A) (k : ℕ) → slice_get (x ∷ []) k ≡ Some y → (k ≡ 0) × (x ≡ y)
only x y zero at = (refl, same_Some x y at)
only x y (suc k) at = absurd (none-some y at)

pays_join : (readings more : List (Result Pay NoPay)) → pays_in (readings ++ more) ≡ pays_in readings ++ pays_in more
pays_join [] more = refl
pays_join (Ok pay ∷ readings) more = ap (λ (ps : List Pay). pay ∷ ps) (pays_join readings more)
pays_join (Err why ∷ readings) more = pays_join readings more

-- a front part of pays that was entered is one of those pays and more
front_more : (chart : Chart) (history : List Entry) (pays more : List Pay) (day : Day) (left : List Entry) → EntersFront chart history pays day left → EntersFront chart history (pays ++ more) day left
front_more chart history pays more day left e =
    let all : e.front ++ (e.rest ++ more) ≡ pays ++ more = sym (append_assoc e.front e.rest more) ∙ ap (λ (ps : List Pay). ps ++ more) (sym e.pays_are) in
    subst (λ (ps : List Pay). EntersFront chart history ps day left) all (front_on chart history e.front (e.rest ++ more) day left e.left_is)

module _ (o : Opening) (reading : List ℕ → Result Pay NoPay) (batches : List (List (List ℕ))) where
  abbrev messages : List (List ℕ)
  messages = messages_in batches

  abbrev pub ServesBatch : Worker → List (List ℕ) → Worker → Made → Type 0
  ServesBatch old batch next made = ServesInTurn o (map reading batch) old next (made_in made)

  -- each worker served the batches of its list
  abbrev pub AreFedLists : List PassKnows → List Worker → List (List (Answer Made)) → Type 0
  AreFedLists news after lists =
      (k : ℕ) (list : List (Answer Made)) (pass next : Worker) → slice_get lists k ≡ Some list → slice_get (map starting news) k ≡ Some pass → slice_get after k ≡ Some next → FedWith ServesBatch batches list pass next

  module _ (news : List PassKnows) (after : List Worker) (history : List Entry) (faults : ℕ) (new : AreNew o news) (closes : Closes o history faults (passes_of after))
      (lists : List (List (Answer Made))) (one_each : length lists ≡ length (map starting news)) (passes : length after ≡ length (map starting news)) (served : AreFedLists news after lists) where
    count : length (map starting news) ≡ length news
    count = length-map news starting

    added_at : (i : ℕ) (a : Act) → slice_get closes.log i ≡ Some a → IsEnteredOn o.day (pays_in (map reading messages)) a.entry
    added_at i a at =
        let own = closes.owned i a at in
        let there = unmapped (λ (w : Worker). w.pass) after own.at own.pass own.there in
        let known : slice_get there.0.pass.known i ≡ Some a = subst (λ (p : PassKnows). slice_get p.known i ≡ Some a) (sym there.2) ((closes.parts own.at own.pass own.there).own i a at own.tagged) in
        let below = get_below after own.at there.0 there.1 in
        let q = get_there news own.at (omega (arith, below, passes, count)) in
        let l = get_there lists own.at (omega (arith, below, passes, one_each)) in
        let part = part_of o reading batches l.0 (starting q.0) there.0 (served own.at l.0 (starting q.0) there.0 l.1 (get_mapped starting news own.at q.0 q.1) there.1) in
        let chain = part_served o reading batches (starting q.0) there.0 part in
        let numbers = numbers_from 1 (length part.messages) in
        let first = new.each own.at q.0 q.1 in
        let g = grew o reading part.messages part.made numbers (starting q.0) there.0 chain in
        let none : length q.0.known ≡ 0 = ap length first.known in
        let tagged : a.by ≡ q.0.number = own.tagged ∙ ap (λ (p : PassKnows). p.number) (sym there.2) ∙ g.number in
        let from = of_jobs o reading part.messages part.made numbers (starting q.0) there.0 chain i a known (omega (arith, none)) tagged in
        let of_all = part.are_of from.0 from.1 from.2 in
        added_here o reading messages a.entry of_all.0 from.1 of_all.1 from.3

    -- each entry that was added is of the day, and of a pay of the messages that were given
    pub fed_added : All (IsEnteredOn o.day (pays_in (map reading messages))) (entries_of closes.log)
    fed_added = all_entries (IsEnteredOn o.day (pays_in (map reading messages))) closes.log added_at

    -- one worker entered a front part of their pays
    pub fed_front : AreBy (length o.base) o.accounts → o.made ≡ 1 → ((list : List (Answer Made)) → slice_get lists 0 ≡ Some list → CountsFrom o reading batches 0 list)
        → EntersFront o.accounts o.base (pays_in (map reading messages)) o.day history
    fed_front by one counts =
        let seated : length (map starting news) ≡ 1 = count ∙ new.count ∙ one in
        let q = get_there news 0 (omega (arith, seated, count)) in
        let l = get_there lists 0 (omega (arith, seated, one_each)) in
        let w = get_there after 0 (omega (arith, seated, passes)) in
        let seat : slice_get (map starting news) 0 ≡ Some (starting q.0) = get_mapped starting news 0 q.0 q.1 in
        let c = served 0 l.0 (starting q.0) w.0 l.1 seat w.1 in
        let part = part_of o reading batches l.0 (starting q.0) w.0 c in
        let size = length part.messages in
        let numbers = numbers_from 1 size in
        let have : HaveServed (ServesOne o reading batches) (map starting news) part.messages after part.made = record {
          lists = numbers ∷ [];
          one_each = sym seated;
          rising = λ alone k ns at i j m n less first second.
              let is = only numbers ns k at in
              let a = number_is 1 size i m (subst (λ (x : List ℕ). slice_get x i ≡ Some m) (sym is.1) first) in
              let b = number_is 1 size j n (subst (λ (x : List ℕ). slice_get x j ≡ Some n) (sym is.1) second) in
              let m_is = a.0 in
              let n_is = b.0 in
              omega (arith, less, m_is, n_is);
          jobs_only = λ k n stands.
              let is = only numbers stands.0 k stands.1 in
              let a = number_is 1 size stands.2 n (subst (λ (x : List ℕ). slice_get x stands.2 ≡ Some n) (sym is.1) stands.3) in
              let n_is = a.0 in
              let within = a.1 in
              (omega (arith, n_is), omega (arith, n_is, within));
          every_job = λ n low high. (0, (numbers, refl, n - 1, number_there 1 size (n - 1) n (omega (arith, low, high)) (omega (arith, low))));
          passes = passes;
          replies_count = same_count (ServesOne o reading batches) part.messages part.made (starting q.0) w.0 part.turn;
          served = λ k ns pass next at from to.
              let is = only numbers ns k at in
              let pass_is : starting q.0 ≡ pass = same_Some (starting q.0) pass (sym seat ∙ ap (slice_get (map starting news)) (sym is.0) ∙ from) in
              let next_is : w.0 ≡ next = same_Some w.0 next (sym w.1 ∙ ap (slice_get after) (sym is.0) ∙ to) in
              subst (λ (x : List ℕ × (Worker × Worker)). ServedWith (ServesOne o reading batches) part.messages part.made x.0 x.1.0 x.1.1) (λ i. (is.1 i, (pass_is i, next_is i))) (part_served o reading batches (starting q.0) w.0 part);
        } in
        let ordered = turn o reading part.messages news after history faults new closes part.made have by one in
        let begins = begins_all o reading batches l.0 (starting q.0) w.0 c (counts l.0 l.1) in
        let more = front_more o.accounts o.base (pays_in (map reading part.messages)) (pays_in (map reading begins.0)) o.day history ordered.entered.entered in
        let whole : pays_in (map reading part.messages) ++ pays_in (map reading begins.0) ≡ pays_in (map reading messages) =
        sym (pays_join (map reading part.messages) (map reading begins.0)) ∙ ap pays_in (sym (map-append reading part.messages begins.0)) ∙ ap (λ (ms : List (List ℕ)). pays_in (map reading ms)) begins.1 in
        subst (λ (ps : List Pay). EntersFront o.accounts o.base ps o.day history) whole more
