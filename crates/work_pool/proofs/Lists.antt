-- The lists of job numbers of workers that are dealt to in turn.
use Rattle.std.proofs.Common.{◌≡◌, ◌<◌, ◌≤◌, ◌+◌, ◌-◌, ◌*◌, ◌/◌, ◌%◌, ℕ, zero, suc, List, [], ◌∷◌, length, Some, refl, ap, sym, ◌∙◌, subst, arith}
use Rattle.std.specs.List.{slice_get}
use Rattle.std.specs.Option.{option_map}
use Rattle.std.proofs.Math.Nat.{suc-mul}
use Rattle.std.proofs.lemmas.Nat.{mod_below, mul-le}
use Rattle.std.proofs.lemmas.Option.{slice_get_within, slice_get_past, none-some, same_Some}
use Rattle.work_pool.specs.inner.Hands.{Task, unserved}
use Rattle.work_pool.specs.inner.Tasks.{AreInHands}
use Rattle.work_pool.specs.Served.{AreRising, StandsIn, AreDealt, AreInTurn}
use Rattle.work_pool.proofs.Places.{there_is}
use Rattle.work_pool.proofs.Turns.{place_of, place_only}

-- the numbers of so many jobs, of which the first is at a place and each other n places on
abbrev pub numbers_from : ℕ → ℕ → ℕ → List ℕ
numbers_from n first zero = []
numbers_from n first (suc count) = suc first ∷ numbers_from n (first + n) count

pub next_round : (n r first : ℕ) → suc r * n + first ≡ r * n + (first + n)
next_round n r first = omega (arith, suc-mul r n)

pub number_at : (n first count r : ℕ) → r < count → slice_get (numbers_from n first count) r ≡ Some (suc (r * n + first))
number_at n first zero r within = absurd (omega arith)
number_at n first (suc count) zero within =
    let here : first ≡ 0 * n + first = omega arith in
    ap (λ (m : ℕ). Some (suc m)) here
number_at n first (suc count) (suc r) within = number_at n (first + n) count r (omega arith) ∙ ap (λ (m : ℕ). Some (suc m)) (sym (next_round n r first))

pub at_number : (n first count r m : ℕ) → slice_get (numbers_from n first count) r ≡ Some m → (r < count) × (m ≡ suc (r * n + first))
at_number n first zero r m is = absurd (none-some m is)
at_number n first (suc count) zero m is =
    let here : first ≡ 0 * n + first = omega arith in
    (omega arith, sym (same_Some (suc first) m is) ∙ ap suc here)
at_number n first (suc count) (suc r) m is =
    let h = at_number n (first + n) count r m is in
    (omega (arith, h.0), h.1 ∙ ap suc (sym (next_round n r first)))

pub numbers_rise : (n first count : ℕ) → 0 < n → AreRising (numbers_from n first count)
numbers_rise n first count some i j m k before at_i at_j =
    let a = at_number n first count i m at_i in
    let b = at_number n first count j k at_j in
    omega (arith, a.1, b.1, suc-mul i n, mul-le (suc i) n j n (omega arith) (omega arith))

module _ {Job Reply : Type 0} where
  -- the numbers of the jobs in each hand, where the first hand is at place k
  abbrev pub numbers_in : ℕ → ℕ → List (List (Task Job Reply)) → List (List ℕ)
  numbers_in n k [] = []
  numbers_in n k (hand ∷ hands) = numbers_from n k (length hand) ∷ numbers_in n (suc k) hands

  pub length-numbers_in : (n k : ℕ) (hands : List (List (Task Job Reply))) → length (numbers_in n k hands) ≡ length hands
  length-numbers_in n k [] = refl
  length-numbers_in n k (hand ∷ hands) = ap suc (length-numbers_in n (suc k) hands)

  list_from : (n k : ℕ) (hands : List (List (Task Job Reply))) (j : ℕ) (hand : List (Task Job Reply)) → slice_get hands j ≡ Some hand → slice_get (numbers_in n k hands) j ≡ Some (numbers_from n (k + j) (length hand))
  list_from n k [] j hand is = absurd (none-some hand is)
  list_from n k (h ∷ hands) zero hand is =
      let here : k ≡ k + 0 = omega arith in
      ap (λ (t : List (Task Job Reply)). Some (numbers_from n k (length t))) (same_Some h hand is) ∙ ap (λ (m : ℕ). Some (numbers_from n m (length hand))) here
  list_from n k (h ∷ hands) (suc j) hand is =
      let there : suc k + j ≡ k + suc j = omega arith in
      list_from n (suc k) hands j hand is ∙ ap (λ (m : ℕ). Some (numbers_from n m (length hand))) there

  -- each hand has its list of numbers
  pub list_of_hand : (n : ℕ) (hands : List (List (Task Job Reply))) (j : ℕ) (hand : List (Task Job Reply)) → slice_get hands j ≡ Some hand → slice_get (numbers_in n 0 hands) j ≡ Some (numbers_from n j (length hand))
  list_of_hand n hands j hand is =
      let here : 0 + j ≡ j = omega arith in
      list_from n 0 hands j hand is ∙ ap (λ (m : ℕ). Some (numbers_from n m (length hand))) here

  -- a list of numbers is that of a hand
  hand_of_list : (n : ℕ) (hands : List (List (Task Job Reply))) (j : ℕ) (numbers : List ℕ) → slice_get (numbers_in n 0 hands) j ≡ Some numbers → (hand : List (Task Job Reply)) × (slice_get hands j ≡ Some hand) × (numbers ≡ numbers_from n j (length hand))
  hand_of_list n hands j numbers is =
      let within = slice_get_within (numbers_in n 0 hands) j numbers is in
      let t = there_is hands j (omega (arith, length-numbers_in n 0 hands)) in
      (t.0, t.1, same_Some numbers (numbers_from n j (length t.0)) (sym is ∙ list_of_hand n hands j t.0 t.1))

  module _ (n : ℕ) (jobs : List Job) (hands : List (List (Task Job Reply))) (some : 0 < n) (d : AreInHands n jobs hands) where
    -- where a number stands: which task of which hand has its job
    stands_where : (k m : ℕ) → StandsIn (numbers_in n 0 hands) k m → (r : ℕ) × (m ≡ suc (r * n + k)) × (k < n) × (r * n + k < length jobs)
    stands_where k m s =
        let h = hand_of_list n hands k s.0 s.1 in
        let a = at_number n k (length h.0) s.2 m (ap (λ (l : List ℕ). slice_get l s.2) (sym h.2) ∙ s.3) in
        let t = there_is h.0 s.2 a.0 in
        let within : length jobs ≤ s.2 * n + k → ⊥ = λ past. none-some t.0 (ap (option_map unserved) (sym (slice_get_past jobs (s.2 * n + k) past)) ∙ sym (d.at k s.2 h.0 h.1) ∙ t.1) in
        (s.2, a.1, omega (arith, slice_get_within hands k h.0 h.1, d.hands_count), omega (arith, within))

    in_turn : AreInTurn n (numbers_in n 0 hands)
    in_turn k m s =
        let w = stands_where k m s in
        let here : w.0 * n + k ≡ m - 1 = omega (arith, w.1) in
        (place_only (m - 1) n w.0 k some w.2 here).1

    -- the task of each job
    pub task_of : (i : ℕ) → i < length jobs → (hand : List (Task Job Reply)) × (job : Job) × (slice_get hands (i % n) ≡ Some hand) × (slice_get jobs i ≡ Some job) × (slice_get hand (i / n) ≡ Some (unserved job))
    task_of i within =
        let t = there_is hands (i % n) (omega (arith, mod_below i n some, d.hands_count)) in
        let j = there_is jobs i within in
        (t.0, j.0, t.1, j.1, d.at (i % n) (i / n) t.0 t.1 ∙ ap (λ (m : ℕ). option_map unserved (slice_get jobs m)) (place_of i n) ∙ ap (option_map unserved) j.1)

    stands : (m : ℕ) → 1 ≤ m → m ≤ length jobs → (k : ℕ) × StandsIn (numbers_in n 0 hands) k m
    stands m one most =
        let i = m - 1 in
        let t = task_of i (omega arith) in
        let within = slice_get_within t.0 (i / n) (unserved t.1) t.4 in
        let back : suc (i / n * n + i % n) ≡ m = omega (arith, place_of i n) in
        (i % n, (numbers_from n (i % n) (length t.0), list_of_hand n hands (i % n) t.0 t.2, i / n, number_at n (i % n) (length t.0) (i / n) within ∙ ap Some back))

    pub are_dealt : AreDealt n (length jobs) (numbers_in n 0 hands) × AreInTurn n (numbers_in n 0 hands)
    are_dealt = (
      record {
        one_each = length-numbers_in n 0 hands ∙ d.hands_count;
        rising = λ k numbers is. let h = hand_of_list n hands k numbers is in subst AreRising (sym h.2) (numbers_rise n k (length h.0) some);
        jobs_only = λ k m s. let w = stands_where k m s in (omega (arith, w.1), omega (arith, w.1, w.3));
        every_job = stands;
        one_pass = λ k l m s t. in_turn k m s ∙ sym (in_turn l m t);
      },
      in_turn,
    )
