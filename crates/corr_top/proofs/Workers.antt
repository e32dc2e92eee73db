-- All workers together: what stands when their passes are back and the books are closed.
use Rattle.std.proofs.Common.{◌≡◌, ℕ, zero, suc, ◌+◌, ◌-◌, ◌≤◌, All, List, [], ◌∷◌, ◌++◌, length, map, Some, Result, Ok, Err, refl, sym, ap, ◌∙◌, subst, arith, append-nil}
use Rattle.std.specs.Prelude.{IfErr, IfOk, OnErr, slice_get}
use Rattle.std.proofs.lemmas.List.{length-map}
use Rattle.std.proofs.lemmas.List.Elements.{All-append, All-nil}
use Rattle.std.proofs.lemmas.Option.{same_Some, none-some}
use mathlib.Core.List.{IsPrefix}
use Rattle.day_model.specs.declared.entry.Entry.{Entry}
use Rattle.day_model.specs.Chart.{AreBy}
use Rattle.day_model.specs.declared.pay.Pay.{Pay}
use Rattle.front_word.specs.declared.view.Act.{Act}
use Rattle.front_word.specs.Known.{PassKnows}
use Rattle.front_word.proofs.laws.Prefixes.{get_below}
use Rattle.work_pool.specs.Served.{StandsIn}
use Rattle.corr_books.specs.Closing.{Closes}
use Rattle.corr_books.specs.Opening.{Opening}
use Rattle.corr_books.specs.Passes.{AreNew}
use Rattle.corr_books.specs.Stand.{entries_of, history_of}
use Rattle.corr_top.specs.declared.desk.Served.{Served}
use Rattle.corr_top.specs.inner.Workers.{Worker}
use Rattle.corr_top.specs.declared.message.NoPay.{NoPay}
use Rattle.corr_top.specs.Booking.{IsEnteredOn}
use Rattle.corr_top.specs.Message.{pays_in}
use Rattle.corr_top.specs.inner.Serving.{AreServedInOrder, AreTold, IsTold, Serves, starting}
use Rattle.corr_top.proofs.Chains.{Chain, IsServed, each_stands, grew, of_jobs}
use Rattle.corr_top.proofs.Batches.{HaveServed, get_mapped, get_there, unmapped}
use Rattle.corr_top.proofs.Replying.{all_one}
use Rattle.corr_top.proofs.OneWorker.{in_order, in_turn}
use Rattle.day_model.proofs.laws.Folds.{get_at}
use Rattle.corr_top.proofs.Serves.{IsFrom, begins}

-- ---- lists

-- the pay of a message stands among the pays
pub in_pays : (readings : List (Result Pay NoPay)) (n : ℕ) (pay : Pay) → slice_get readings n ≡ Some (Ok pay) → (k : ℕ) × (slice_get (pays_in readings) k ≡ Some pay)
in_pays [] n pay at = absurd (none-some (Ok pay) at)
in_pays (Ok p ∷ readings) zero pay at = (zero, (let s : p ≡ pay = cc (at) in ap (λ (x : Pay). Some x) s))
in_pays (Ok p ∷ readings) (suc n) pay at = let r = in_pays readings n pay at in (suc r.0, r.1)
in_pays (Err why ∷ readings) zero pay at = absurd (cc (at))
in_pays (Err why ∷ readings) (suc n) pay at = in_pays readings n pay at

pub all_entries : (P : Entry → Type 0) (log : List Act) → ((i : ℕ) (a : Act) → slice_get log i ≡ Some a → P a.entry) → All P (entries_of log)
all_entries P [] each = All-nil P
all_entries P (a ∷ log) each = All-append P (a.entry ∷ []) (entries_of log) (all_one P a.entry (each 0 a refl)) (all_entries P log (λ i b at. each (suc i) b at))

-- a list without elements
nothing : {A : Type 0} (xs : List A) → ((i : ℕ) (x : A) → slice_get xs i ≡ Some x → ⊥) → xs ≡ []
nothing [] none = refl
nothing (x ∷ xs) none = absurd (none 0 x refl)

-- a list of one
pub single_of : {A : Type 0} (xs : List A) → length xs ≡ 1 → (x : A) × (xs ≡ x ∷ [])
single_of [] one = absurd (omega (arith, one))
single_of (x ∷ []) one = (x, refl)
single_of (x ∷ y ∷ xs) one = absurd (omega (arith, one))

-- the passes of workers
abbrev pub passes_of : List Worker → List PassKnows
passes_of workers = map (λ (w : Worker). w.pass) workers

module _ {Job : Type 0} (o : Opening) (reading : Job → Result Pay NoPay) (jobs : List Job) where
  abbrev pub Serving : Worker → Job → Worker → Served → Type 0
  Serving old job next one = Serves o (reading job) old next one

  -- what the messages ask for
  abbrev pub readings : List (Result Pay NoPay)
  readings = map reading jobs

  pub added_here : (e : Entry) (k : ℕ) (job : Job) → slice_get jobs k ≡ Some job → IsFrom o (reading job) e → IsEnteredOn o.day (pays_in readings) e
  added_here e k job at from =
      let pay = from.0 in
      let asks : slice_get readings k ≡ Some (Ok pay) = get_mapped reading jobs k job at ∙ ap (λ (r : Result Pay NoPay). Some r) from.1 in
      let there = in_pays readings k pay asks in
      record {
        day_is = ap (λ (x : Entry). x.day) from.4;
        place = there.0;
        pay_is = there.1 ∙ ap (λ (x : Entry). Some x.pay) (sym from.4);
      }

  module _ (news : List PassKnows) (after : List Worker) (history : List Entry) (faults : ℕ) (new : AreNew o news) (closes : Closes o history faults (passes_of after)) (made : List Served) (served : HaveServed Serving (map starting news) jobs after made) where
    count : length (map starting news) ≡ length news
    count = length-map news starting

    -- the serves of the worker at a place
    chain_at : (k : ℕ) (w : Worker) → slice_get after k ≡ Some w → (numbers : List ℕ) × (q : PassKnows) × (slice_get served.lists k ≡ Some numbers) × (slice_get news k ≡ Some q) × Chain o reading jobs made numbers (starting q) w
    chain_at k w at =
        let below = get_below after k w at in
        let q = get_there news k (omega (arith, below, served.passes, count)) in
        let l = get_there served.lists k (omega (arith, below, served.passes, served.one_each)) in
        (l.0, q.0, l.1, q.1, served.served k l.0 (starting q.0) w l.1 (get_mapped starting news k q.0 q.1) at)

    -- each entry that was added is of the day, and of a pay of the messages
    added_at : (i : ℕ) (a : Act) → slice_get closes.log i ≡ Some a → IsEnteredOn o.day (pays_in readings) a.entry
    added_at i a at =
        let own = closes.owned i a at in
        let there = unmapped (λ (w : Worker). w.pass) after own.at own.pass own.there in
        let known : slice_get there.0.pass.known i ≡ Some a = subst (λ (p : PassKnows). slice_get p.known i ≡ Some a) (sym there.2) ((closes.parts own.at own.pass own.there).own i a at own.tagged) in
        let c = chain_at own.at there.0 there.1 in
        let first = new.each own.at c.1 c.3 in
        let g = grew o reading jobs made c.0 (starting c.1) there.0 c.4 in
        let none : length c.1.known ≡ 0 = ap length first.known in
        let tagged : a.by ≡ c.1.number = own.tagged ∙ ap (λ (p : PassKnows). p.number) (sym there.2) ∙ g.number in
        let from = of_jobs o reading jobs made c.0 (starting c.1) there.0 c.4 i a known (omega (arith, none)) tagged in
        added_here a.entry from.0 from.1 from.2 from.3

    pub all_added : All (IsEnteredOn o.day (pays_in readings)) (entries_of closes.log)
    all_added = all_entries (IsEnteredOn o.day (pays_in readings)) closes.log added_at

    -- what was made of the job with a number stands
    job_stands : (n : ℕ) → 1 ≤ n → n ≤ length jobs → IsServed o reading jobs made closes.log history closes.is closes.legal n
    job_stands n low high =
        let there = served.every_job n low high in
        let k = there.0 in
        let numbers = there.1.0 in
        let below = get_below served.lists k numbers there.1.1 in
        let w = get_there after k (omega (arith, below, served.passes, served.one_each)) in
        let q = get_there news k (omega (arith, below, served.one_each, count)) in
        let chain = served.served k numbers (starting q.0) w.0 there.1.1 (get_mapped starting news k q.0 q.1) w.1 in
        each_stands o reading jobs made closes.log history closes.is closes.legal numbers (starting q.0) w.0 (λ why off. absurd (none-some why off)) chain (closes.parts k w.0.pass (get_mapped (λ (x : Worker). x.pass) after k w.0 w.1)).known there.1.2 n there.1.3

    pub are_told : AreTold o history readings made
    are_told = record {
      each = served.replies_count ∙ sym (length-map jobs reading);
      told = λ n r one at_reading at_made.
          let below = get_below made n one at_made in
          let s = job_stands (n + 1) (omega arith) (omega (arith, below, served.replies_count)) in
          let number : n + 1 - 1 ≡ n = omega arith in
          let job : slice_get jobs n ≡ Some s.job = subst (λ (k : ℕ). slice_get jobs k ≡ Some s.job) number s.job_is in
          let here : slice_get made n ≡ Some s.one = subst (λ (k : ℕ). slice_get made k ≡ Some s.one) number s.one_is in
          let same_reading : reading s.job ≡ r = same_Some (reading s.job) r (sym (get_mapped reading jobs n s.job job) ∙ at_reading) in
          let same_one : s.one ≡ one = same_Some s.one one (sym here ∙ at_made) in
          subst (λ (x : Result Pay NoPay × Served). IsTold o history x.0 x.1) (λ i. (same_reading i, same_one i)) s.told;
    }

  -- where no job was served, nothing was added
  module _ (news passes : List PassKnows) (history : List Entry) (faults : ℕ) (new : AreNew o news) (closes : Closes o history faults passes) (same : passes ≡ news) where
    pub none_added : closes.log ≡ []
    none_added = nothing closes.log no_act
      where
        no_act : (i : ℕ) (a : Act) → slice_get closes.log i ≡ Some a → ⊥
        no_act i a at =
            let own = closes.owned i a at in
            let there : slice_get news own.at ≡ Some own.pass = ap (λ (ps : List PassKnows). slice_get ps own.at) (sym same) ∙ own.there in
            let known = (closes.parts own.at own.pass own.there).own i a at own.tagged in
            absurd (none-some a (subst (λ (l : List Act). slice_get l i ≡ Some a) (new.each own.at own.pass there).known known))

    pub nothing_added : history ≡ o.base
    nothing_added = closes.is ∙ ap (λ (l : List Act). history_of o.base l) none_added ∙ append-nil o.base

  -- One worker of books that make one pass: its serves are those of all jobs in their order, and all entries are its own.
  module _ (q : PassKnows) (p : Worker) (history : List Entry) (faults : ℕ) (new : AreNew o (q ∷ [])) (closes : Closes o history faults (p.pass ∷ [])) (made : List Served) (served : HaveServed Serving (starting q ∷ []) jobs (p ∷ []) made) where
    owned_by : {a : ℕ} (at : ℕ) (pass : PassKnows) → slice_get (p.pass ∷ []) at ≡ Some pass → a ≡ pass.number → a ≡ p.pass.number
    owned_by zero pass there tagged = tagged ∙ ap (λ (x : PassKnows). x.number) (sym (same_Some p.pass pass there))
    owned_by (suc at) pass there tagged = absurd (none-some pass there)

    -- a beginning in which everything stands is the whole
    whole_of : (known more log : List Act) → known ++ more ≡ log → ((i : ℕ) (a : Act) → slice_get log i ≡ Some a → slice_get known i ≡ Some a) → log ≡ known
    whole_of known [] log is all = sym is ∙ append-nil known
    whole_of known (x ∷ more) log is all =
        let here = all (length known) x (subst (λ (l : List Act). slice_get l (length known) ≡ Some x) is (get_at known x more)) in
        let below = get_below known (length known) x here in absurd (omega (arith, below))

    own : (i : ℕ) (a : Act) → slice_get closes.log i ≡ Some a → a.by ≡ p.pass.number
    own i a at = let w = closes.owned i a at in owned_by w.at w.pass w.there w.tagged

    log : closes.log ≡ p.pass.known
    log = let part = closes.parts 0 p.pass refl in whole_of p.pass.known part.known.0 closes.log part.known.1 (λ i a at. part.own i a at (own i a at))

    -- the one list has each number
    every : (numbers : List ℕ) → slice_get served.lists 0 ≡ Some numbers → (n : ℕ) → (k : ℕ) × StandsIn served.lists k n → (i : ℕ) × (slice_get numbers i ≡ Some n)
    every numbers at n (k, stands) =
        let below = get_below served.lists k stands.0 stands.1 in
        let zero_is : k ≡ 0 = (let e = served.one_each in omega (arith, below, e)) in
        let same : numbers ≡ stands.0 = same_Some numbers stands.0 (sym at ∙ ap (slice_get served.lists) (sym zero_is) ∙ stands.1) in
        (stands.2, subst (λ (l : List ℕ). slice_get l stands.2 ≡ Some n) (sym same) stands.3)

    alone : AreBy (length o.base) o.accounts → AreServedInOrder o history readings made
    alone by =
        let lists = get_there served.lists 0 (let e = served.one_each in omega (arith, e)) in
        let numbers = lists.0 in
        let chain = served.served 0 numbers (starting q) p lists.1 refl refl in
        let g = grew o reading jobs made numbers (starting q) p chain in
        in_turn o reading jobs made numbers (starting q) p history (record {
          chain = chain;
          on = refl;
          opened = by;
          order = in_order 1 (length jobs + 1) numbers (omega arith) (served.rising refl 0 numbers lists.1)
              (λ i n at. let w = served.jobs_only 0 n (numbers, lists.1, i, at) in (w.0, omega (arith, w.1)))
              (λ n low high. every numbers lists.1 n (served.every_job n low (omega arith)));
          none = (new.each 0 q refl).known;
          tags = λ i a at. own i a (subst (λ (l : List Act). slice_get l i ≡ Some a) (sym log) at) ∙ g.number;
          begins = λ known pre. begins o closes.log history closes.is closes.legal known (subst (IsPrefix known) (sym log) pre);
          whole = closes.is ∙ ap (λ (l : List Act). history_of o.base l) log;
          replies = served.replies_count;
        })

  pub turn : (news : List PassKnows) (after : List Worker) (history : List Entry) (faults : ℕ) (new : AreNew o news) (closes : Closes o history faults (passes_of after)) (made : List Served) (served : HaveServed Serving (map starting news) jobs after made)
      → AreBy (length o.base) o.accounts → o.made ≡ 1 → AreServedInOrder o history readings made
  turn news after history faults new closes made served by one =
      let q = single_of news (new.count ∙ one) in
      let count : length after ≡ 1 = served.passes ∙ length-map news starting ∙ new.count ∙ one in
      let p = single_of after count in
      alone q.0 p.0 history faults (subst (AreNew o) q.1 new) (subst (λ (ws : List Worker). Closes o history faults (passes_of ws)) p.1 closes) made
      (subst (λ (x : List PassKnows × List Worker). HaveServed Serving (map starting x.0) jobs x.1 made) (λ i. (q.1 i, p.1 i)) served) by

  -- ---- whether the jobs were served or not

  passes_back : (news : List PassKnows) → passes_of (map starting news) ≡ news
  passes_back [] = refl
  passes_back (p ∷ news) = ap (λ (l : List PassKnows). p ∷ l) (passes_back news)

  same_passes : (news : List PassKnows) (before after : List Worker) → before ≡ map starting news → after ≡ before → passes_of after ≡ news
  same_passes news before after seated none = ap passes_of (none ∙ seated) ∙ passes_back news

  from_seats : (news : List PassKnows) (before after : List Worker) (made : List Served) → before ≡ map starting news → HaveServed Serving before jobs after made → HaveServed Serving (map starting news) jobs after made
  from_seats news before after made seated done = subst (λ (ws : List Worker). HaveServed Serving ws jobs after made) seated done

  module _ {R E : Type 0} (items : R → List Served) (news : List PassKnows) (before after : List Worker) (seated : before ≡ map starting news) where
    abbrev pub IsDone : Result R E → Type 0
    IsDone r = IfOk r (λ rs. HaveServed Serving before jobs after (items rs))

    abbrev pub IsNone : Result R E → Type 0
    IsNone r = OnErr r (after ≡ before)

    -- each worker comes back
    pub all_back : (r : Result R E) → IsDone r → IsNone r → length after ≡ length news
    all_back (Ok rs) done none = done.passes ∙ ap length seated ∙ length-map news starting
    all_back (Err e) done none = ap length (none ∙ seated) ∙ length-map news starting

    module _ (history : List Entry) (faults : ℕ) (new : AreNew o news) (closes : Closes o history faults (passes_of after)) where
      pub added_of : (r : Result R E) → IsDone r → IsNone r → All (IsEnteredOn o.day (pays_in readings)) (entries_of closes.log)
      added_of (Ok rs) done none = all_added news after history faults new closes (items rs) (from_seats news before after (items rs) seated done)
      added_of (Err e) done none =
          subst (λ (l : List Act). All (IsEnteredOn o.day (pays_in readings)) (entries_of l)) (sym (none_added news (passes_of after) history faults new closes (same_passes news before after seated none))) (All-nil (IsEnteredOn o.day (pays_in readings)))

      pub told_of : (r : Result R E) → IsDone r → IfOk r (λ rs. AreTold o history readings (items rs))
      told_of (Ok rs) done = are_told news after history faults new closes (items rs) (from_seats news before after (items rs) seated done)
      told_of (Err e) done = tt

      pub turn_of : AreBy (length o.base) o.accounts → (r : Result R E) → IsDone r → IfOk r (λ rs. o.made ≡ 1 → AreServedInOrder o history readings (items rs))
      turn_of by (Ok rs) done = turn news after history faults new closes (items rs) (from_seats news before after (items rs) seated done) by
      turn_of by (Err e) done = tt

      pub none_of : (r : Result R E) → IsNone r → IfErr r (λ _. history ≡ o.base)
      none_of (Ok rs) none = tt
      none_of (Err e) none = nothing_added news (passes_of after) history faults new closes (same_passes news before after seated none)
