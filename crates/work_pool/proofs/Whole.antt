-- From the jobs over the hands and the serves to the replies.
use Rattle.std.proofs.Common.{◌≡◌, ◌<◌, ◌≤◌, ◌+◌, ◌-◌, ◌*◌, ◌/◌, ◌%◌, ℕ, zero, suc, List, [], ◌∷◌, length, map, get_or, Option, None, Some, refl, ap, sym, ◌∙◌, subst, arith}
use Rattle.std.specs.List.{slice_get}
use Rattle.std.specs.Option.{IsSome, option_map, option_and_then}
use Rattle.std.proofs.lemmas.List.{length-map}
use Rattle.std.proofs.lemmas.Nat.{mod_below}
use Rattle.std.proofs.lemmas.Option.{slice_get_within, slice_get_past, slice_get_read, slice_get-map, get_or_from_slice_get, none-some, same_Some}
use Rattle.work_pool.specs.inner.Hands.{Task, unserved}
use Rattle.work_pool.specs.declared.seat.Seat.{Seat}
use Rattle.work_pool.specs.inner.Tasks.{reply_of, reply_in, task_in, AreInHands, AreSeated, ServedHand, ServedSeats}
use Rattle.work_pool.specs.Served.{AllTaken, AreDealt, AreInTurn, AreServed, ServedWith}
use Rattle.work_pool.proofs.Places.{there_is}
use Rattle.work_pool.proofs.Turns.{place_of, place_only}
use Rattle.work_pool.proofs.Lists.{numbers_from, numbers_in, next_round, list_of_hand, task_of, are_dealt}

-- what stands in a list that was mapped
mapped : {A B : Type 0} (f : A → B) (xs : List A) (i : ℕ) (x : A) → slice_get xs i ≡ Some x → slice_get (map f xs) i ≡ Some (f x)
mapped f xs i x is = slice_get-map f xs i ∙ ap (option_map f) is

-- a job that was made a task
job_back : {Job Reply : Type 0} (o : Option Job) (task : Task Job Reply) → option_map unserved o ≡ Some task → o ≡ Some task.job
job_back None task is = absurd (none-some task is)
job_back {Job} {Reply} (Some job) task is = ap (λ (t : Task Job Reply). Some t.job) (same_Some (unserved job) task is)

-- the pass at a seat is taken, where all are
pub taken_at : {Pass Job Reply : Type 0} (takes : Pass → Type 0) (seats : List (Seat Pass Job Reply)) (i : ℕ) (seat : Seat Pass Job Reply) → AllTaken takes (map (λ seat. seat.pass) seats) → i < length seats → seat ≡ get_or seats i seat → takes seat.pass
taken_at takes seats i seat all within is = all i seat.pass (mapped (λ seat. seat.pass) seats i seat (slice_get_read seats (length seats) i seat refl within is))

-- and so it is where each seat is one whose pass is taken
pub all_taken : {Pass Job Reply : Type 0} (takes : Pass → Type 0) (olds news : List (Seat Pass Job Reply)) → length news ≡ length olds
    → ((k : ℕ) (d : Seat Pass Job Reply) → k < length olds → (seat : Seat Pass Job Reply) × (seat ≡ get_or news k d) × takes seat.pass)
    → AllTaken takes (map (λ seat. seat.pass) news)
all_taken {Pass} {Job} {Reply} takes olds news even each k pass is =
    let within = slice_get_within (map (λ seat. seat.pass) news) k pass is in
    let t = there_is news k (omega (arith, length-map news (λ seat. seat.pass))) in
    let e = each k t.0 (omega (arith, slice_get_within news k t.0 t.1)) in
    let here : e.0 ≡ t.0 = e.1 ∙ get_or_from_slice_get news k t.0 t.0 t.1 in
    let same : t.0.pass ≡ pass = same_Some t.0.pass pass (sym (mapped (λ seat. seat.pass) news k t.0 t.1) ∙ is) in
    subst takes (ap (λ (seat : Seat Pass Job Reply). seat.pass) here ∙ same) e.2

-- what was served of a seat is told of the one at its place
pub served_at : {Pass Job Reply : Type 0} (serves : Pass → Job → Pass → Reply → Type 0) (olds news : List (Seat Pass Job Reply)) (k : ℕ) (before after argument result : Seat Pass Job Reply)
    → slice_get olds k ≡ Some before → slice_get news k ≡ Some after → argument ≡ get_or olds k before → result ≡ get_or news k before
    → ServedHand serves argument.pass argument.hand result.pass result.hand → ServedHand serves before.pass before.hand after.pass after.hand
served_at {Pass} {Job} {Reply} serves olds news k before after argument result at_old at_new is left h =
    let old : argument ≡ before = is ∙ get_or_from_slice_get olds k before before at_old in
    let new : result ≡ after = left ∙ get_or_from_slice_get news k after before at_new in
    subst (λ (x : Seat Pass Job Reply × Seat Pass Job Reply). ServedHand serves x.0.pass x.0.hand x.1.pass x.1.hand) (λ i. (old i, new i)) h

module _ {Pass Job Reply : Type 0} (serves : Pass → Job → Pass → Reply → Type 0) where
  -- each task of a hand that was served has a reply
  has_reply : (before : Pass) (olds : List (Task Job Reply)) (after : Pass) (news : List (Task Job Reply)) → ServedHand serves before olds after news → (r : ℕ) (old : Task Job Reply) → slice_get olds r ≡ Some old → (reply : Reply) × (reply_of news r ≡ Some reply)
  has_reply before [] after [] h r old is = absurd (none-some old is)
  has_reply before [] after (n ∷ ns) h r old is = absurd h
  has_reply before (o ∷ os) after [] h r old is = absurd h
  has_reply before (o ∷ os) after (n ∷ ns) h zero old is = (h.1, h.2)
  has_reply before (o ∷ os) after (n ∷ ns) h (suc r) old is = has_reply h.3 os after ns h.5 r old is

  -- and there are no others
  no_more : (before : Pass) (olds : List (Task Job Reply)) (after : Pass) (news : List (Task Job Reply)) → ServedHand serves before olds after news → (r : ℕ) → slice_get olds r ≡ None → slice_get news r ≡ None
  no_more before [] after [] h r none = none
  no_more before [] after (n ∷ ns) h r none = absurd h
  no_more before (o ∷ os) after [] h r none = absurd h
  no_more before (o ∷ os) after (n ∷ ns) h zero none = absurd (none-some o (sym none))
  no_more before (o ∷ os) after (n ∷ ns) h (suc r) none = no_more h.3 os after ns h.5 r none

  -- a hand that was served, by the numbers of its jobs
  served_with : (jobs : List Job) (replies : List Reply) (n first : ℕ) (before : Pass) (olds : List (Task Job Reply)) (after : Pass) (news : List (Task Job Reply)) → ServedHand serves before olds after news
      → ((r : ℕ) (old : Task Job Reply) → slice_get olds r ≡ Some old → slice_get jobs (r * n + first) ≡ Some old.job)
      → ((r : ℕ) (old : Task Job Reply) (reply : Reply) → slice_get olds r ≡ Some old → reply_of news r ≡ Some reply → slice_get replies (r * n + first) ≡ Some reply)
      → ServedWith serves jobs replies (numbers_from n first (length olds)) before after
  served_with jobs replies n first before [] after [] h js rs = h
  served_with jobs replies n first before [] after (x ∷ news) h js rs = absurd h
  served_with jobs replies n first before (old ∷ olds) after [] h js rs = absurd h
  served_with jobs replies n first before (old ∷ olds) after (x ∷ news) h js rs =
      let here : suc first - 1 ≡ 0 * n + first = omega arith in (
        old.job,
        h.1,
        h.3,
        ap (slice_get jobs) here ∙ js 0 old refl,
        ap (slice_get replies) here ∙ rs 0 old h.1 refl h.2,
        h.4,
        served_with jobs replies n (first + n) h.3 olds after news h.5
            (λ r o is. ap (slice_get jobs) (sym (next_round n r first)) ∙ js (suc r) o is)
            (λ r o reply is there. ap (slice_get replies) (sym (next_round n r first)) ∙ rs (suc r) o reply is there),
      )

  module _ (n : ℕ) (passes : List Pass) (jobs : List Job) (hands : List (List (Task Job Reply))) (seats : List (Seat Pass Job Reply)) (left : List (Seat Pass Job Reply))
      (some : 0 < n) (count : length passes ≡ n) (d : AreInHands n jobs hands) (seated : AreSeated passes hands seats) (done : ServedSeats serves seats left) where
    -- how many seats there are
    seats_count : length left ≡ n
    seats_count = done.count ∙ sym (length-map seats (λ seat. seat.pass)) ∙ ap length seated.passes_are ∙ count

    -- the seat of each place, before and after
    seat_at : (k : ℕ) → k < n → (old : Seat Pass Job Reply) × (new : Seat Pass Job Reply) × (slice_get seats k ≡ Some old) × (slice_get left k ≡ Some new) × (slice_get passes k ≡ Some old.pass) × (slice_get hands k ≡ Some old.hand)
    seat_at k below =
        let o = there_is seats k (omega (arith, seats_count, done.count)) in
        let w = there_is left k (omega (arith, seats_count)) in
        (o.0, w.0, o.1, w.1, ap (λ (l : List Pass). slice_get l k) (sym seated.passes_are) ∙ mapped (λ seat. seat.pass) seats k o.0 o.1, ap (λ (l : List (List (Task Job Reply))). slice_get l k) (sym seated.hands_are) ∙ mapped (λ seat. seat.hand) seats k o.0 o.1)

    -- each job has its reply
    pub replied : (i : ℕ) → i < length jobs → IsSome (reply_in left (i % length left) (i / length left))
    replied i within =
        let t = task_of n jobs hands some d i within in
        let s = seat_at (i % n) (mod_below i n some) in
        let hand : t.0 ≡ s.0.hand = same_Some t.0 s.0.hand (sym t.2 ∙ s.5) in
        let r = has_reply s.0.pass s.0.hand s.1.pass s.1.hand (done.served (i % n) s.0 s.1 s.2 s.3) (i / n) (unserved t.1) (ap (λ (l : List (Task Job Reply)). slice_get l (i / n)) (sym hand) ∙ t.4) in
        let there : reply_in left (i % n) (i / n) ≡ Some r.0 = ap (option_and_then (λ (seat : Seat Pass Job Reply). reply_of seat.hand (i / n))) s.3 ∙ r.1 in
        subst IsSome (sym there ∙ ap (λ (m : ℕ). reply_in left (i % m) (i / m)) (sym seats_count)) refl

    -- and there are no tasks but those of jobs
    pub no_others : (i : ℕ) → length jobs ≤ i → task_in left (i % length left) (i / length left) ≡ None
    no_others i past =
        let s = seat_at (i % n) (mod_below i n some) in
        let none : slice_get s.0.hand (i / n) ≡ None = d.at (i % n) (i / n) s.0.hand s.5 ∙ ap (λ (m : ℕ). option_map unserved (slice_get jobs m)) (place_of i n) ∙ ap (option_map unserved) (slice_get_past jobs i past) in
        let gone = no_more s.0.pass s.0.hand s.1.pass s.1.hand (done.served (i % n) s.0 s.1 s.2 s.3) (i / n) none in
        ap (λ (m : ℕ). task_in left (i % m) (i / m)) seats_count ∙ ap (option_and_then (λ (seat : Seat Pass Job Reply). slice_get seat.hand (i / n))) s.3 ∙ gone

    pub all_served : (after : List Pass) (replies : List Reply) → after ≡ map (λ seat. seat.pass) left → length replies ≡ length jobs
        → ((i : ℕ) → i < length jobs → slice_get replies i ≡ reply_in left (i % length left) (i / length left))
        → AreServed serves passes jobs after replies
    all_served after replies after_is long collected =
        let dealt = are_dealt n jobs hands some d in
        record {
          lists = numbers_in n 0 hands;
          dealt = subst (λ (m : ℕ). AreDealt m (length jobs) (numbers_in n 0 hands)) (sym count) dealt.0;
          in_turn = subst (λ (m : ℕ). AreInTurn m (numbers_in n 0 hands)) (sym count) dealt.1;
          passes = ap length after_is ∙ length-map left (λ seat. seat.pass) ∙ seats_count ∙ sym count;
          replies_count = long;
          served = λ k numbers pass next list_is pass_is next_is.
              let s = seat_at k (omega (arith, slice_get_within passes k pass pass_is, count)) in
              let before : s.0.pass ≡ pass = same_Some s.0.pass pass (sym s.4 ∙ pass_is) in
              let now : s.1.pass ≡ next = same_Some s.1.pass next (sym (mapped (λ seat. seat.pass) left k s.1 s.3) ∙ ap (λ (l : List Pass). slice_get l k) (sym after_is) ∙ next_is) in
              let list : numbers_from n k (length s.0.hand) ≡ numbers = same_Some (numbers_from n k (length s.0.hand)) numbers (sym (list_of_hand n hands k s.0.hand s.5) ∙ list_is) in
              let below : k < n = omega (arith, slice_get_within passes k pass pass_is, count) in
              let job_there : (r : ℕ) (old : Task Job Reply) → slice_get s.0.hand r ≡ Some old → slice_get jobs (r * n + k) ≡ Some old.job = λ r old is. job_back (slice_get jobs (r * n + k)) old (sym (d.at k r s.0.hand s.5) ∙ is) in
              let served : ServedWith serves jobs replies (numbers_from n k (length s.0.hand)) s.0.pass s.1.pass = served_with jobs replies n k s.0.pass s.0.hand s.1.pass s.1.hand (done.served k s.0 s.1 s.2 s.3) job_there
              (λ r old reply is there.
              let i = r * n + k in
              let within : i < length jobs = slice_get_within jobs i old.job (job_there r old is) in
              let p = place_only i n r k some below refl in
              let row : r ≡ i / length left = p.0 ∙ ap (λ (m : ℕ). i / m) (sym seats_count) in
              let column : k ≡ i % length left = p.1 ∙ ap (λ (m : ℕ). i % m) (sym seats_count) in
              collected i within
              ∙ ap (λ (x : ℕ × ℕ). reply_in left x.0 x.1) (λ j. (sym column j, sym row j))
              ∙ ap (option_and_then (λ (seat : Seat Pass Job Reply). reply_of seat.hand r)) s.3
              ∙ there) in
              subst (λ (x : List ℕ × Pass × Pass). ServedWith serves jobs replies x.0 x.1 x.2) (λ i. (list i, before i, now i)) served;
        }
