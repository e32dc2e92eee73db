-- Jobs that were served in batches: each was served once, under its number in the list of all of them.
use Rattle.std.proofs.Common.{◌≡◌, ◌⊎◌, inl, inr, ℕ, zero, suc, ◌+◌, ◌-◌, ◌<◌, ◌≤◌, List, [], ◌∷◌, ◌++◌, length, map, Some, refl, sym, ap, ◌∙◌, subst, arith, length-append}
use Rattle.std.specs.Prelude.{slice_get}
use Rattle.std.specs.Option.{option_map}
use Rattle.std.proofs.lemmas.List.{length-map}
use Rattle.std.proofs.lemmas.Option.{same_Some, none-some, slice_get-map}
use mathlib.Core.Logic.{dite}
use native.Mathlib.Decide.{dec_lt}
use Rattle.front_word.proofs.laws.Prefixes.{get_below}
use Rattle.work_pool.specs.Served.{AreRising, AreServed, ServedWith, StandsIn}

-- What is known of jobs that were served, but for which pass had which: a list of job numbers for each pass, which rises where there is one
-- pass, each job in one of them; and the passes after come of those before by the serves of their lists.
pub record HaveServed {Pass Job Reply : Type 0} (serves : Pass → Job → Pass → Reply → Type 0) (before : List Pass) (jobs : List Job) (after : List Pass) (replies : List Reply) : Type 0 where
  pub lists : List (List ℕ)
  pub one_each : length lists ≡ length before
  pub rising : length before ≡ 1 → (k : ℕ) (numbers : List ℕ) → slice_get lists k ≡ Some numbers → AreRising numbers
  pub jobs_only : (k n : ℕ) → StandsIn lists k n → (1 ≤ n) × (n ≤ length jobs)
  pub every_job : (n : ℕ) → 1 ≤ n → n ≤ length jobs → (k : ℕ) × StandsIn lists k n
  pub passes : length after ≡ length before
  pub replies_count : length replies ≡ length jobs
  pub served : (k : ℕ) (numbers : List ℕ) (pass next : Pass) → slice_get lists k ≡ Some numbers → slice_get before k ≡ Some pass → slice_get after k ≡ Some next → ServedWith serves jobs replies numbers pass next

-- jobs that were dealt out in turn
pub have_served : {Pass Job Reply : Type 0} (serves : Pass → Job → Pass → Reply → Type 0) (before : List Pass) (jobs : List Job) (after : List Pass) (replies : List Reply) → AreServed serves before jobs after replies → HaveServed serves before jobs after replies
have_served serves before jobs after replies s = record {
  lists = s.lists;
  one_each = s.dealt.one_each;
  rising = λ one k numbers at. s.dealt.rising k numbers at;
  jobs_only = s.dealt.jobs_only;
  every_job = s.dealt.every_job;
  passes = s.passes;
  replies_count = s.replies_count;
  served = s.served;
}

-- ---- lists of lists

-- all elements of lists, one list after another
abbrev pub joined : {A : Type 0} → List (List A) → List A
joined [] = []
joined (part ∷ parts) = part ++ joined parts

-- how many elements stand before the list at a place, by the lengths
abbrev start : List ℕ → ℕ → ℕ
start [] k = 0
start (n ∷ sizes) zero = 0
start (n ∷ sizes) (suc k) = n + start sizes k

-- the length of the list at a place
abbrev size : List ℕ → ℕ → ℕ
size [] k = 0
size (n ∷ sizes) zero = n
size (n ∷ sizes) (suc k) = size sizes k

size_is : (sizes : List ℕ) (k n : ℕ) → slice_get sizes k ≡ Some n → size sizes k ≡ n
size_is [] k n at = absurd (none-some n at)
size_is (m ∷ sizes) zero n at = same_Some m n at
size_is (m ∷ sizes) (suc k) n at = size_is sizes k n at

start_zero : (sizes : List ℕ) → start sizes 0 ≡ 0
start_zero [] = refl
start_zero (n ∷ sizes) = refl

start_step : (sizes : List ℕ) (k : ℕ) → start sizes k + size sizes k ≡ start sizes (suc k)
start_step [] k = refl
start_step (n ∷ sizes) zero = let z = start_zero sizes in omega (arith, z)
start_step (n ∷ sizes) (suc k) = let r = start_step sizes k in omega (arith, r)

start_grows : (sizes : List ℕ) (a b : ℕ) → a ≤ b → start sizes a ≤ start sizes b
start_grows [] a b le = omega arith
start_grows (n ∷ sizes) zero b le = omega arith
start_grows (n ∷ sizes) (suc a) zero le = absurd (omega (arith, le))
start_grows (n ∷ sizes) (suc a) (suc b) le = let r = start_grows sizes a b (omega (arith, le)) in omega (arith, r)

pub get_front : {A : Type 0} (xs ys : List A) (i : ℕ) (x : A) → slice_get xs i ≡ Some x → slice_get (xs ++ ys) i ≡ Some x
get_front [] ys i x at = absurd (none-some x at)
get_front (y ∷ xs) ys zero x at = at
get_front (y ∷ xs) ys (suc i) x at = get_front xs ys i x at

pub get_beyond : {A : Type 0} (xs ys : List A) (i : ℕ) (x : A) → slice_get ys i ≡ Some x → slice_get (xs ++ ys) (length xs + i) ≡ Some x
get_beyond [] ys i x at = let e : i ≡ 0 + i = omega arith in subst (λ (m : ℕ). slice_get ys m ≡ Some x) e at
get_beyond (y ∷ xs) ys i x at =
    let e : suc (length xs + i) ≡ suc (length xs) + i = omega arith in
    subst (λ (m : ℕ). slice_get (y ∷ (xs ++ ys)) m ≡ Some x) e (get_beyond xs ys i x at)

pub get_there : {A : Type 0} (xs : List A) (k : ℕ) → k < length xs → (x : A) × (slice_get xs k ≡ Some x)
get_there [] k within = absurd (omega arith)
get_there (x ∷ xs) zero within = (x, refl)
get_there (x ∷ xs) (suc k) within = get_there xs k (omega arith)

pub get_mapped : {A B : Type 0} (f : A → B) (xs : List A) (i : ℕ) (x : A) → slice_get xs i ≡ Some x → slice_get (map f xs) i ≡ Some (f x)
get_mapped f xs i x at = slice_get-map f xs i ∙ ap (option_map f) at

-- and back
pub unmapped : {A B : Type 0} (f : A → B) (xs : List A) (i : ℕ) (y : B) → slice_get (map f xs) i ≡ Some y → (x : A) × (slice_get xs i ≡ Some x) × (f x ≡ y)
unmapped f [] i y at = absurd (none-some y at)
unmapped f (x ∷ xs) zero y at = (x, refl, same_Some (f x) y at)
unmapped f (x ∷ xs) (suc i) y at = unmapped f xs i y at

module _ {A : Type 0} where
  abbrev sizes_of : List (List A) → List ℕ
  sizes_of parts = map length parts

  joined_at : (parts : List (List A)) (k i : ℕ) (part : List A) (x : A) → slice_get parts k ≡ Some part → slice_get part i ≡ Some x → slice_get (joined parts) (start (sizes_of parts) k + i) ≡ Some x
  joined_at [] k i part x at there = absurd (none-some part at)
  joined_at (p ∷ parts) zero i part x at there =
      let e : i ≡ 0 + i = omega arith in
      subst (λ (m : ℕ). slice_get (p ++ joined parts) m ≡ Some x) e (get_front p (joined parts) i x (ap (λ (l : List A). slice_get l i) (same_Some p part at) ∙ there))
  joined_at (p ∷ parts) (suc k) i part x at there =
      let e : length p + (start (sizes_of parts) k + i) ≡ (length p + start (sizes_of parts) k) + i = omega arith in
      subst (λ (m : ℕ). slice_get (p ++ joined parts) m ≡ Some x) e (get_beyond p (joined parts) (start (sizes_of parts) k + i) x (joined_at parts k i part x at there))

  start_within : (parts : List (List A)) (k : ℕ) → k < length parts → start (sizes_of parts) k + size (sizes_of parts) k ≤ length (joined parts)
  start_within [] k within = absurd (omega arith)
  start_within (p ∷ parts) zero within = let l = length-append p (joined parts) in omega (arith, l)
  start_within (p ∷ parts) (suc k) within = let r = start_within parts k (omega arith) in let l = length-append p (joined parts) in omega (arith, r, l)

  -- where an element of all stands: in which list, and at which place of it
  record IsFoundIn (parts : List (List A)) (m : ℕ) : Type 0 where
    k : ℕ
    i : ℕ
    within : k < length parts
    there : i < size (sizes_of parts) k
    is : m ≡ start (sizes_of parts) k + i

  found : (parts : List (List A)) (m : ℕ) → m < length (joined parts) → IsFoundIn parts m
  found [] m less = absurd (omega arith)
  found (p ∷ parts) m less =
      dite (dec_lt m (length p))
      (λ here. record { k = 0; i = m; within = omega arith; there = here; is = (let e : m ≡ 0 + m = omega arith in e) })
      (λ beyond.
      let l = length-append p (joined parts) in
      let r = found parts (m - length p) (omega (arith, beyond, less, l)) in
      let is = r.is in
      let within = r.within in
      record { k = suc r.k; i = r.i; within = omega (arith, within); there = r.there; is = omega (arith, is, beyond) })

-- ---- numbers

abbrev pub numbers_from : ℕ → ℕ → List ℕ
numbers_from low zero = []
numbers_from low (suc count) = low ∷ numbers_from (suc low) count

-- numbers that rise, from this one on
abbrev RisesFrom : ℕ → List ℕ → Type 0
RisesFrom low [] = Unit {0}
RisesFrom low (n ∷ numbers) = (low ≤ n) × RisesFrom (suc n) numbers

rises_from : (low : ℕ) (numbers : List ℕ) → AreRising numbers → ((i n : ℕ) → slice_get numbers i ≡ Some n → low ≤ n) → RisesFrom low numbers
rises_from low [] rising least = tt
rises_from low (n ∷ numbers) rising least =
    (least 0 n refl, rises_from (suc n) numbers (λ i j a b less at also. rising (suc i) (suc j) a b (omega (arith, less)) at also) (λ i m at. rising 0 (suc i) n m (omega arith) refl at))

least_of : (low : ℕ) (numbers : List ℕ) → RisesFrom low numbers → (i n : ℕ) → slice_get numbers i ≡ Some n → low ≤ n
least_of low [] r i n at = absurd (none-some n at)
least_of low (m ∷ numbers) r zero n at = let e = same_Some m n at in let first = r.0 in omega (arith, e, first)
least_of low (m ∷ numbers) r (suc i) n at = let l = least_of (suc m) numbers r.1 i n at in let first = r.0 in omega (arith, l, first)

rising_of : (low : ℕ) (numbers : List ℕ) → RisesFrom low numbers → AreRising numbers
rising_of low [] r i j a b less at also = absurd (none-some a at)
rising_of low (m ∷ numbers) r i zero a b less at also = absurd (omega (arith, less))
rising_of low (m ∷ numbers) r zero (suc j) a b less at also = let l = least_of (suc m) numbers r.1 j b also in let e = same_Some m a at in omega (arith, l, e)
rising_of low (m ∷ numbers) r (suc i) (suc j) a b less at also = rising_of (suc m) numbers r.1 i j a b (omega (arith, less)) at also

lower : (low high : ℕ) (numbers : List ℕ) → low ≤ high → RisesFrom high numbers → RisesFrom low numbers
lower low high [] le r = tt
lower low high (n ∷ numbers) le r = (let first = r.0 in omega (arith, le, first), r.1)

numbers_rise : (low from count next : ℕ) (rest : List ℕ) → low ≤ from → from + count ≤ next → RisesFrom next rest → RisesFrom low (numbers_from from count ++ rest)
numbers_rise low from zero next rest le step r = lower low next rest (omega (arith, le, step)) r
numbers_rise low from (suc count) next rest le step r = (le, numbers_rise (suc from) (suc from) count next rest (omega arith) (omega (arith, step)) r)

module _ (sizes : List ℕ) where
  -- the numbers of the jobs of batches with these numbers
  abbrev expand : List ℕ → List ℕ
  expand [] = []
  expand (n ∷ numbers) = numbers_from (suc (start sizes (n - 1))) (size sizes (n - 1)) ++ expand numbers

  expand_rises : (low : ℕ) (numbers : List ℕ) → 1 ≤ low → RisesFrom low numbers → RisesFrom (suc (start sizes (low - 1))) (expand numbers)
  expand_rises low [] some r = tt
  expand_rises low (n ∷ numbers) some r =
      let first = r.0 in
      let grows = start_grows sizes (low - 1) (n - 1) (omega (arith, first)) in
      let up : suc (n - 1) ≡ n = omega (arith, some, first) in
      let step : start sizes (n - 1) + size sizes (n - 1) ≡ start sizes n = start_step sizes (n - 1) ∙ ap (start sizes) up in
      let same : suc n - 1 ≡ n = omega arith in
      let rest : RisesFrom (suc (start sizes n)) (expand numbers) = subst (λ (k : ℕ). RisesFrom (suc (start sizes k)) (expand numbers)) same (expand_rises (suc n) numbers (omega arith) r.1) in
      numbers_rise (suc (start sizes (low - 1))) (suc (start sizes (n - 1))) (size sizes (n - 1)) (suc (start sizes n)) (expand numbers) (omega (arith, grows)) (omega (arith, step)) rest

  -- each of them is of a job of one of the batches
  record IsOfBatch (numbers : List ℕ) (m : ℕ) : Type 0 where
    p : ℕ
    n : ℕ
    q : ℕ
    at : slice_get numbers p ≡ Some n
    there : q < size sizes (n - 1)
    is : m ≡ suc (start sizes (n - 1) + q)

  from_numbers : (low count i m : ℕ) (rest : List ℕ) → slice_get (numbers_from low count ++ rest) i ≡ Some m
      → ((i < count) × (m ≡ low + i)) ⊎ ((j : ℕ) × (slice_get rest j ≡ Some m))
  from_numbers low zero i m rest at = inr (i, at)
  from_numbers low (suc count) zero m rest at = inl (omega arith, (let e = same_Some low m at in omega (arith, e)))
  from_numbers low (suc count) (suc i) m rest at = elim (from_numbers (suc low) count i m rest at) [
    | inl here ↦ inl ((let b = here.0 in omega (arith, b)), (let e = here.1 in omega (arith, e)))
    | inr later ↦ inr later
  ]

  of_batch : (numbers : List ℕ) (i m : ℕ) → slice_get (expand numbers) i ≡ Some m → IsOfBatch numbers m
  of_batch [] i m at = absurd (none-some m at)
  of_batch (n ∷ numbers) i m at = elim (from_numbers (suc (start sizes (n - 1))) (size sizes (n - 1)) i m (expand numbers) at) [
    | inl here ↦ (let e = here.1 in record { p = 0; n = n; q = i; at = refl; there = here.0; is = omega (arith, e) })
    | inr later ↦ (let r = of_batch numbers later.0 m later.1 in record { p = suc r.p; n = r.n; q = r.q; at = r.at; there = r.there; is = r.is })
  ]

  number_at : (low count q : ℕ) (rest : List ℕ) → q < count → slice_get (numbers_from low count ++ rest) q ≡ Some (low + q)
  number_at low zero q rest less = absurd (omega (arith, less))
  number_at low (suc count) zero rest less = ap (λ (k : ℕ). Some k) (let e : low ≡ low + 0 = omega arith in e)
  number_at low (suc count) (suc q) rest less =
      number_at (suc low) count q rest (omega (arith, less)) ∙ ap (λ (k : ℕ). Some k) (let e : suc low + q ≡ low + suc q = omega arith in e)

  -- and each job of one of the batches has its number there
  in_batch : (numbers : List ℕ) (p n q : ℕ) → slice_get numbers p ≡ Some n → q < size sizes (n - 1) → (i : ℕ) × (slice_get (expand numbers) i ≡ Some (suc (start sizes (n - 1)) + q))
  in_batch [] p n q at there = absurd (none-some n at)
  in_batch (m ∷ numbers) zero n q at there =
      let e : n ≡ m = sym (same_Some m n at) in
      subst (λ (k : ℕ). (i : ℕ) × (slice_get (expand (m ∷ numbers)) i ≡ Some (suc (start sizes (k - 1)) + q))) (sym e)
      (q, number_at (suc (start sizes (m - 1))) (size sizes (m - 1)) q (expand numbers) (subst (λ (k : ℕ). q < size sizes (k - 1)) e there))
  in_batch (m ∷ numbers) (suc p) n q at there =
      let r = in_batch numbers p n q at there in
      let front = numbers_from (suc (start sizes (m - 1))) (size sizes (m - 1)) in
      (length front + r.0, get_beyond front (expand numbers) r.0 (suc (start sizes (n - 1)) + q) r.1)

-- ---- serves

module _ {Pass Job Reply : Type 0} (serves : Pass → Job → Pass → Reply → Type 0) where
  -- jobs that were served one after another
  abbrev pub InTurn : List Job → Pass → Pass → List Reply → Type 0
  InTurn [] old new [] = new ≡ old
  InTurn [] old new (r ∷ made) = ⊥
  InTurn (j ∷ part) old new [] = ⊥
  InTurn (j ∷ part) old new (r ∷ made) = (next : Pass) × serves old j next r × InTurn part next new made

  pub same_count : (part : List Job) (made : List Reply) (old new : Pass) → InTurn part old new made → length made ≡ length part
  same_count [] [] old new is = refl
  same_count [] (r ∷ made) old new is = absurd is
  same_count (j ∷ part) [] old new is = absurd is
  same_count (j ∷ part) (r ∷ made) old new is = ap suc (same_count part made is.0 new is.2)

  module _ (jobs : List Job) (replies : List Reply) where
    pub part_chain : (part : List Job) (made : List Reply) (s : ℕ) (old new : Pass) → InTurn part old new made
        → ((i : ℕ) (j : Job) → slice_get part i ≡ Some j → slice_get jobs (s + i) ≡ Some j) → ((i : ℕ) (r : Reply) → slice_get made i ≡ Some r → slice_get replies (s + i) ≡ Some r)
        → ServedWith serves jobs replies (numbers_from (suc s) (length part)) old new
    part_chain [] [] s old new is jobs_at replies_at = is
    part_chain [] (r ∷ made) s old new is jobs_at replies_at = absurd is
    part_chain (j ∷ part) [] s old new is jobs_at replies_at = absurd is
    part_chain (j ∷ part) (r ∷ made) s old new is jobs_at replies_at =
        let here : s + 0 ≡ suc s - 1 = omega arith in (
          j,
          r,
          is.0,
          subst (λ (k : ℕ). slice_get jobs k ≡ Some j) here (jobs_at 0 j refl),
          subst (λ (k : ℕ). slice_get replies k ≡ Some r) here (replies_at 0 r refl),
          is.1,
          part_chain part made (suc s) is.0 new is.2
              (λ i x at. subst (λ (k : ℕ). slice_get jobs k ≡ Some x) (let e : s + suc i ≡ suc s + i = omega arith in e) (jobs_at (suc i) x at))
              (λ i x at. subst (λ (k : ℕ). slice_get replies k ≡ Some x) (let e : s + suc i ≡ suc s + i = omega arith in e) (replies_at (suc i) x at)),
        )

    chain_append : (front rest : List ℕ) (old mid new : Pass) → ServedWith serves jobs replies front old mid → ServedWith serves jobs replies rest mid new → ServedWith serves jobs replies (front ++ rest) old new
    chain_append [] rest old mid new first second = subst (λ (p : Pass). ServedWith serves jobs replies rest p new) first second
    chain_append (n ∷ front) rest old mid new c second = (c.0, c.1, c.2, c.3, c.4, c.5, chain_append front rest c.2 mid new c.6 second)

  module _ {Batch Made : Type 0} (jobs_in : Batch → List Job) (made_of : Made → List Reply) where
    -- the jobs of a batch were served one after another
    abbrev pub ServesBatch : Pass → Batch → Pass → Made → Type 0
    ServesBatch old batch new made = InTurn (jobs_in batch) old new (made_of made)

    abbrev pub jobs_of : List Batch → List Job
    jobs_of batches = joined (map jobs_in batches)

    abbrev pub replies_of : List Made → List Reply
    replies_of made = joined (map made_of made)

    module _ (batches : List Batch) (made : List Made) where
      abbrev sizes : List ℕ
      sizes = sizes_of (map jobs_in batches)

      -- a batch that stands in a list was served
      in_chain : (numbers : List ℕ) (i n : ℕ) (old new : Pass) → ServedWith ServesBatch batches made numbers old new → slice_get numbers i ≡ Some n
          → (b : Batch) × (m : Made) × (slice_get batches (n - 1) ≡ Some b) × (slice_get made (n - 1) ≡ Some m) × (length (made_of m) ≡ length (jobs_in b))
      in_chain [] i n old new c at = absurd (none-some n at)
      in_chain (k ∷ numbers) zero n old new c at =
          let e : k ≡ n = same_Some k n at in
          (c.0, c.1, subst (λ (x : ℕ). slice_get batches (x - 1) ≡ Some c.0) e c.3, subst (λ (x : ℕ). slice_get made (x - 1) ≡ Some c.1) e c.4, same_count (jobs_in c.0) (made_of c.1) old c.2 c.5)
      in_chain (k ∷ numbers) (suc i) n old new c at = in_chain numbers i n c.2 new c.6 at

      -- lists that have the same at each place
      same_lists : (xs ys : List ℕ) → length xs ≡ length ys → ((k : ℕ) → k < length ys → size xs k ≡ size ys k) → xs ≡ ys
      same_lists [] [] count each = refl
      same_lists [] (y ∷ ys) count each = absurd (omega (arith, count))
      same_lists (x ∷ xs) [] count each = absurd (omega (arith, count))
      same_lists (x ∷ xs) (y ∷ ys) count each =
          let first : x ≡ y = each 0 (omega arith) in
          let rest = same_lists xs ys (omega (arith, count)) (λ k less. each (suc k) (omega (arith, less))) in
          ap (λ (z : ℕ). z ∷ xs) first ∙ ap (λ (l : List ℕ). y ∷ l) rest

      module _ (before after : List Pass) (served : HaveServed ServesBatch before batches after made) where
        same_at : (k : ℕ) → k < length batches → size (sizes_of (map made_of made)) k ≡ size sizes k
        same_at k less =
            let up : suc k - 1 ≡ k = omega arith in
            let w = served.every_job (suc k) (omega arith) (omega (arith, less)) in
            let list = w.1.0 in
            let below = get_below served.lists w.0 list w.1.1 in
            let old = get_there before w.0 (let e = served.one_each in omega (arith, below, e)) in
            let new = get_there after w.0 (let e = served.one_each in let p = served.passes in omega (arith, below, e, p)) in
            let c = in_chain list w.1.2 (suc k) old.0 new.0 (served.served w.0 list old.0 new.0 w.1.1 old.1 new.1) w.1.3 in
            let b_at : slice_get batches k ≡ Some c.0 = subst (λ (x : ℕ). slice_get batches x ≡ Some c.0) up c.2 in
            let m_at : slice_get made k ≡ Some c.1 = subst (λ (x : ℕ). slice_get made x ≡ Some c.1) up c.3 in
            size_is (sizes_of (map made_of made)) k (length (made_of c.1)) (get_mapped length (map made_of made) k (made_of c.1) (get_mapped made_of made k c.1 m_at))
            ∙ c.4 ∙ sym (size_is sizes k (length (jobs_in c.0)) (get_mapped length (map jobs_in batches) k (jobs_in c.0) (get_mapped jobs_in batches k c.0 b_at)))

        count_of : length (sizes_of (map made_of made)) ≡ length sizes
        count_of =
            length-map (map made_of made) length ∙ length-map made made_of ∙ served.replies_count
            ∙ sym (length-map batches jobs_in) ∙ sym (length-map (map jobs_in batches) length)

        same_sizes : sizes_of (map made_of made) ≡ sizes
        same_sizes = same_lists (sizes_of (map made_of made)) sizes count_of
            (λ k less. same_at k (let a = length-map (map jobs_in batches) length in let b = length-map batches jobs_in in omega (arith, less, a, b)))

        -- the length of all, by the lengths
        total : {A : Type 0} (parts : List (List A)) → length (joined parts) ≡ start (sizes_of parts) (length (sizes_of parts))
        total [] = refl
        total (p ∷ parts) = length-append p (joined parts) ∙ ap (λ (n : ℕ). length p + n) (total parts)

        pub all_counted : length (replies_of made) ≡ length (jobs_of batches)
        all_counted = total (map made_of made) ∙ ap (λ (s : List ℕ). start s (length s)) same_sizes ∙ sym (total (map jobs_in batches))

        expand_chain : (numbers : List ℕ) (old new : Pass) → ServedWith ServesBatch batches made numbers old new → ServedWith serves (jobs_of batches) (replies_of made) (expand sizes numbers) old new
        expand_chain [] old new c = c
        expand_chain (n ∷ numbers) old new c =
            let part_at = get_mapped jobs_in batches (n - 1) c.0 c.3 in
            let made_at = get_mapped made_of made (n - 1) c.1 c.4 in
            let s = start sizes (n - 1) in
            let long : size sizes (n - 1) ≡ length (jobs_in c.0) = size_is sizes (n - 1) (length (jobs_in c.0)) (get_mapped length (map jobs_in batches) (n - 1) (jobs_in c.0) part_at) in
            let front : ServedWith serves (jobs_of batches) (replies_of made) (numbers_from (suc s) (size sizes (n - 1))) old c.2 =
            subst (λ (k : ℕ). ServedWith serves (jobs_of batches) (replies_of made) (numbers_from (suc s) k) old c.2) (sym long)
            (part_chain (jobs_of batches) (replies_of made) (jobs_in c.0) (made_of c.1) s old c.2 c.5
            (λ i j at. joined_at (map jobs_in batches) (n - 1) i (jobs_in c.0) j part_at at)
            (λ i r at. subst (λ (z : List ℕ). slice_get (replies_of made) (start z (n - 1) + i) ≡ Some r) same_sizes (joined_at (map made_of made) (n - 1) i (made_of c.1) r made_at at))) in
            chain_append (jobs_of batches) (replies_of made) (numbers_from (suc s) (size sizes (n - 1))) (expand sizes numbers) old c.2 new front (expand_chain numbers c.2 new c.6)

        within_of : (n : ℕ) → n ≤ length batches → n - 1 < length batches → suc (start sizes (n - 1) + size sizes (n - 1)) ≤ suc (length (jobs_of batches))
        within_of n few less = let w = start_within (map jobs_in batches) (n - 1) (let l = length-map batches jobs_in in omega (arith, less, l)) in omega (arith, w)

        jobs_are : (k m : ℕ) → StandsIn (map (expand sizes) served.lists) k m → (1 ≤ m) × (m ≤ length (jobs_of batches))
        jobs_are k m stands =
            let u = unmapped (expand sizes) served.lists k stands.0 stands.1 in
            let b = of_batch sizes u.0 stands.2 m (subst (λ (l : List ℕ). slice_get l stands.2 ≡ Some m) (sym u.2) stands.3) in
            let range = served.jobs_only k b.n (u.0, u.1, b.p, b.at) in
            let is = b.is in
            let there = b.there in
            let w = within_of b.n range.1 (omega (arith, range.0, range.1)) in
            (omega (arith, is), omega (arith, is, there, w))

        every : (m : ℕ) → 1 ≤ m → m ≤ length (jobs_of batches) → (k : ℕ) × StandsIn (map (expand sizes) served.lists) k m
        every m low high =
            let f = found (map jobs_in batches) (m - 1) (omega (arith, low, high)) in
            let within = f.within in
            let l = length-map batches jobs_in in
            let w = served.every_job (suc f.k) (omega arith) (omega (arith, within, l)) in
            let same : suc f.k - 1 ≡ f.k = omega arith in
            let r = in_batch sizes w.1.0 w.1.2 (suc f.k) f.i w.1.3 (subst (λ (x : ℕ). f.i < size sizes x) (sym same) f.there) in
            let number : suc (start sizes (suc f.k - 1)) + f.i ≡ m =
            ap (λ (x : ℕ). suc (start sizes x) + f.i) same ∙ (let is = f.is in let e : suc (start sizes f.k) + f.i ≡ m = omega (arith, is, low) in e) in
            (w.0, (expand sizes w.1.0, get_mapped (expand sizes) served.lists w.0 w.1.0 w.1.1, r.0, r.1 ∙ ap (λ (x : ℕ). Some x) number))

        -- batches that are each served in turn are jobs that are each served once
        pub each_served : HaveServed serves before (jobs_of batches) after (replies_of made)
        each_served = record {
          lists = map (expand sizes) served.lists;
          one_each = length-map served.lists (expand sizes) ∙ served.one_each;
          rising = λ one k numbers at.
              let u = unmapped (expand sizes) served.lists k numbers at in
              let rises = rises_from 1 u.0 (served.rising one k u.0 u.1) (λ i n there. (served.jobs_only k n (u.0, u.1, i, there)).0) in
              subst AreRising u.2 (rising_of (suc (start sizes 0)) (expand sizes u.0) (expand_rises sizes 1 u.0 (omega arith) rises));
          jobs_only = jobs_are;
          every_job = every;
          passes = served.passes;
          replies_count = all_counted;
          served = λ k numbers pass next at from to.
              let u = unmapped (expand sizes) served.lists k numbers at in
              subst (λ (l : List ℕ). ServedWith serves (jobs_of batches) (replies_of made) l pass next) u.2 (expand_chain u.0 pass next (served.served k u.0 pass next u.1 from to));
        }

-- ---- weaker serves

module _ {Pass Job Reply : Type 0} (P Q : Pass → Job → Pass → Reply → Type 0) (weaker : (old : Pass) (job : Job) (new : Pass) (reply : Reply) → P old job new reply → Q old job new reply) (jobs : List Job) (replies : List Reply) where
  weaker_with : (numbers : List ℕ) (before after : Pass) → ServedWith P jobs replies numbers before after → ServedWith Q jobs replies numbers before after
  weaker_with [] before after c = c
  weaker_with (n ∷ numbers) before after c = (c.0, c.1, c.2, c.3, c.4, weaker before c.0 c.2 c.1 c.5, weaker_with numbers c.2 after c.6)

  pub weaker_served : (before after : List Pass) → HaveServed P before jobs after replies → HaveServed Q before jobs after replies
  weaker_served before after s = record {
    lists = s.lists;
    one_each = s.one_each;
    rising = s.rising;
    jobs_only = s.jobs_only;
    every_job = s.every_job;
    passes = s.passes;
    replies_count = s.replies_count;
    served = λ k numbers pass next at from to. weaker_with numbers pass next (s.served k numbers pass next at from to);
  }
