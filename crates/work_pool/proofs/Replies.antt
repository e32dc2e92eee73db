-- One reply more is taken, from the last to the first.
use Rattle.std.proofs.Common.{◌≡◌, ◌≢◌, ◌<◌, ◌≤◌, ◌+◌, ◌/◌, ◌%◌, ◌*◌, ℕ, zero, suc, List, [], ◌∷◌, ◌++◌, length, length-append, map, reverse, get_or, Option, None, Some, refl, ap, sym, ◌∙◌, subst, arith, rules, ⊎_elim}
use Rattle.std.specs.List.{slice_get}
use Rattle.std.proofs.Math.Nat.{suc-mul}
use Rattle.std.specs.Option.{IsSome, option_and_then}
use Rattle.std.proofs.Math.ListN.{set, length-set}
use Rattle.std.proofs.Math.Seq.{map-set_same}
use Rattle.std.proofs.lemmas.Bool.{cases_eq, cases_lt}
use Rattle.std.proofs.lemmas.List.{reverse-append}
use Rattle.std.proofs.lemmas.Nat.{mod_below}
use Rattle.std.proofs.lemmas.Option.{slice_get-get_or, slice_get_past, slice_get_within, none-some, same_Some}
use Rattle.work_pool.specs.declared.seat.Seat.{Seat}
use Rattle.work_pool.specs.inner.Hands.{Task}
use Rattle.work_pool.specs.inner.Tasks.{AreReplied, reply_of, reply_in, task_in}
use Rattle.work_pool.proofs.Places.{slice_get-snoc_here, slice_get-snoc_else, slice_get-set_here, slice_get-set_else, there_is}
use Rattle.work_pool.proofs.Turns.{place_of, place_only}

-- a task that has a reply is there
task_some : {Job Reply : Type 0} (o : Option (Task Job Reply)) → IsSome (option_and_then (λ task. task.reply) o) → (task : Task Job Reply) × (o ≡ Some task)
task_some None is = absurd (search rules)
task_some (Some task) is = (task, refl)

module _ {Pass Job Reply : Type 0} where
  -- the task at a seat is that of its hand
  task_at : (seats : List (Seat Pass Job Reply)) (k r : ℕ) (d : Seat Pass Job Reply) → k < length seats → task_in seats k r ≡ slice_get (get_or seats k d).hand r
  task_at seats k r d below = ap (option_and_then (λ (seat : Seat Pass Job Reply). slice_get seat.hand r)) (slice_get-get_or seats k d below)

  reply_here : (o : Option (Seat Pass Job Reply)) (r : ℕ) → option_and_then (λ seat. reply_of seat.hand r) o ≡ option_and_then (λ task. task.reply) (option_and_then (λ seat. slice_get seat.hand r) o)
  reply_here None r = refl
  reply_here (Some seat) r = refl

  -- a reply is that of a task
  pub reply_of_task : (seats : List (Seat Pass Job Reply)) (k r : ℕ) → reply_in seats k r ≡ option_and_then (λ task. task.reply) (task_in seats k r)
  reply_of_task seats k r = reply_here (slice_get seats k) r

  -- where a hand loses the task at a place, the others stay
  others_stay : (seats : List (Seat Pass Job Reply)) (k r : ℕ) (new d : Seat Pass Job Reply) → k < length seats → ((i : ℕ) → i ≢ r → slice_get new.hand i ≡ slice_get (get_or seats k d).hand i)
      → (l q : ℕ) → (l ≡ k → q ≢ r) → task_in (set seats k new) l q ≡ task_in seats l q
  others_stay seats k r new d below others l q apart = ⊎_elim
      (λ (e : l ≡ k).
      ap (λ (m : ℕ). task_in (set seats k new) m q) e
      ∙ ap (option_and_then (λ (seat : Seat Pass Job Reply). slice_get seat.hand q)) (slice_get-set_here seats k new below)
      ∙ others q (apart e)
      ∙ sym (task_at seats k q d below)
      ∙ ap (λ (m : ℕ). task_in seats m q) (sym e))
      (λ (e : l ≡ k → ⊥). ap (option_and_then (λ (seat : Seat Pass Job Reply). slice_get seat.hand q)) (slice_get-set_else seats k l new e))
      (cases_eq l k)

  -- what a loop over the jobs keeps: the tasks of the first jobs are where they are, those of the others are gone and their replies
  -- taken, and the passes are where they were
  pub record AreTaken (first seats : List (Seat Pass Job Reply)) (count at : ℕ) (replies : List Reply) : Type 0 where
    pub seats_count : length seats ≡ length first
    pub passes : map (λ seat. seat.pass) seats ≡ map (λ seat. seat.pass) first
    pub left : (j : ℕ) → j < at → task_in seats (j % length first) (j / length first) ≡ task_in first (j % length first) (j / length first)
    pub gone : (j : ℕ) → at ≤ j → task_in seats (j % length first) (j / length first) ≡ None
    pub taken : (j : ℕ) → at + j < count → slice_get (reverse replies) j ≡ reply_in first ((at + j) % length first) ((at + j) / length first)
    pub replies_count : length replies + at ≡ count

  module _ (first seats : List (Seat Pass Job Reply)) (count at : ℕ) (replies : List Reply) (d : Seat Pass Job Reply) (some : 0 < length first) (more : at < count)
      (served : (i : ℕ) → i < count → IsSome (reply_in first (i % length first) (i / length first))) (t : AreTaken first seats count (at + 1) replies) where
    -- the task at a place of the hand that is next, if there is one
    task_next : (r : ℕ) → slice_get (get_or seats (at % length seats) d).hand r ≡ task_in seats ((r * length first + at % length first) % length first) ((r * length first + at % length first) / length first)
    task_next r =
        let n = length first in
        let k = at % n in
        let below : k < n = mod_below at n some in
        let p = place_only (r * n + k) n r k some below refl in
        let seat : at % length seats ≡ k = ap (λ (m : ℕ). at % m) t.seats_count in
        let here : at % length seats < length seats = mod_below at (length seats) (omega (arith, t.seats_count)) in
        sym (task_at seats (at % length seats) r d here) ∙ ap (λ (m : ℕ). task_in seats m r) seat ∙ ap (λ (x : ℕ × ℕ). task_in seats x.0 x.1) (λ i. (p.1 i, p.0 i))

    -- the task of the last job that is left, with its reply
    last_task : (task : Task Job Reply) × (slice_get (get_or seats (at % length seats) d).hand (at / length first) ≡ Some task) × (task_in first (at % length first) (at / length first) ≡ Some task)
    last_task =
        let n = length first in
        let there : task_in seats (at % n) (at / n) ≡ task_in first (at % n) (at / n) = t.left at (omega arith) in
        let has : IsSome (option_and_then (λ (task : Task Job Reply). task.reply) (task_in first (at % n) (at / n))) = subst IsSome (reply_of_task first (at % n) (at / n)) (served at more) in
        let o = task_some (task_in first (at % n) (at / n)) has in
        let back = place_of at n in
        (o.0, task_next (at / n) ∙ ap (λ (m : ℕ). task_in seats (m % n) (m / n)) back ∙ there ∙ o.1, o.1)

    -- the replies with one more at their head
    taken_next : (reply : Reply) → Some reply ≡ reply_in first (at % length first) (at / length first) → (j : ℕ) → at + j < count
        → slice_get (reply ∷ reverse replies) j ≡ reply_in first ((at + j) % length first) ((at + j) / length first)
    taken_next reply told zero within =
        let here : at ≡ at + 0 = omega arith in
        told ∙ ap (λ (m : ℕ). reply_in first (m % length first) (m / length first)) here
    taken_next reply told (suc j) within =
        let next : at + 1 + j ≡ at + suc j = omega arith in
        t.taken j (omega (arith, within)) ∙ ap (λ (m : ℕ). reply_in first (m % length first) (m / length first)) next

    pub some_left : 0 < length (get_or seats (at % length seats) d).hand
    some_left = omega (arith, slice_get_within (get_or seats (at % length seats) d).hand (at / length first) last_task.0 last_task.1)

    pub all_replied : AreReplied (get_or seats (at % length seats) d).hand
    all_replied = λ r task is.
        let n = length first in
        let i = r * n + at % n in
        let there : task_in seats (i % n) (i / n) ≡ Some task = sym (task_next r) ∙ is in
        ⊎_elim
        (λ (e : i < at + 1).
        let same : reply_in first (i % n) (i / n) ≡ task.reply = reply_of_task first (i % n) (i / n) ∙ ap (option_and_then (λ (t : Task Job Reply). t.reply)) (sym (t.left i e) ∙ there) in
        subst IsSome same (served i (omega (arith, e, more))))
        (λ (e : at + 1 ≤ i). absurd (none-some task (sym (t.gone i e) ∙ there)))
        (cases_lt i (at + 1))

    pub one_more_taken : (hand : List (Task Job Reply)) (task : Task Job Reply) (reply : Reply) (after : List Reply)
        → (get_or seats (at % length seats) d).hand ≡ hand ++ task ∷ [] → Some reply ≡ task.reply → after ≡ replies ++ reply ∷ []
        → AreTaken first (set seats (at % length seats) record { worker = (get_or seats (at % length seats) d).worker; pass = (get_or seats (at % length seats) d).pass; hand = hand }) count at after
    one_more_taken hand task reply after shrunk is grown =
        let new : Seat Pass Job Reply = record { worker = (get_or seats (at % length seats) d).worker; pass = (get_or seats (at % length seats) d).pass; hand = hand } in
        let old : List (Task Job Reply) = (get_or seats (at % length seats) d).hand in
        let n = length first in
        let k = at % length seats in
        let r = at / n in
        let below : k < length seats = mod_below at (length seats) (omega (arith, t.seats_count)) in
        let column : k ≡ at % n = ap (λ (m : ℕ). at % m) t.seats_count in
        let size : length old ≡ length hand + 1 = ap length shrunk ∙ length-append hand (task ∷ []) in
        let no_less : r < length hand → ⊥ = λ less.
        let u = there_is old (r + 1) (omega (arith, size, less)) in
        let past : at + 1 ≤ (r + 1) * n + at % n = omega (arith, place_of at n, suc-mul r n, some) in
        none-some u.0 (sym (t.gone ((r + 1) * n + at % n) past) ∙ sym (task_next (r + 1)) ∙ u.1) in
        let long : length hand ≡ r = omega (arith, size, no_less, slice_get_within old r last_task.0 last_task.1) in
        let last : slice_get old r ≡ Some task = ap (slice_get old) (sym long) ∙ ap (λ (l : List (Task Job Reply)). slice_get l (length hand)) shrunk ∙ slice_get-snoc_here hand task in
        let same : last_task.0 ≡ task = same_Some last_task.0 task (sym last_task.1 ∙ last) in
        let told : Some reply ≡ reply_in first (at % n) (at / n) = is ∙ ap (λ (t : Task Job Reply). t.reply) (sym same) ∙ sym (reply_of_task first (at % n) (at / n) ∙ ap (option_and_then (λ (t : Task Job Reply). t.reply)) last_task.2) in
        let others : (i : ℕ) → i ≢ r → slice_get hand i ≡ slice_get old i = λ i other. sym (ap (λ (l : List (Task Job Reply)). slice_get l i) shrunk ∙ slice_get-snoc_else hand task i (λ e. other (e ∙ long))) in
        let apart : (j : ℕ) → j ≢ at → j % n ≡ k → j / n ≢ r = λ j other e f. other (sym (place_of j n) ∙ ap (λ (x : ℕ × ℕ). x.0 * n + x.1) (λ i. (f i, (e ∙ column) i)) ∙ place_of at n) in
        let others_left : (j : ℕ) → j ≢ at → task_in (set seats k new) (j % n) (j / n) ≡ task_in seats (j % n) (j / n) = λ j other. others_stay seats k r new d below others (j % n) (j / n) (apart j other) in
        record {
          seats_count = length-set seats k new ∙ t.seats_count;
          passes = map-set_same (λ (seat : Seat Pass Job Reply). seat.pass) seats k new d refl ∙ t.passes;
          left = λ j within. others_left j (omega (arith, within)) ∙ t.left j (omega (arith, within));
          gone = λ j past. ⊎_elim
              (λ (e : j ≡ at).
              ap (λ (m : ℕ). task_in (set seats k new) (m % n) (m / n)) e
              ∙ ap (λ (m : ℕ). task_in (set seats k new) m r) (sym column)
              ∙ ap (option_and_then (λ (seat : Seat Pass Job Reply). slice_get seat.hand r)) (slice_get-set_here seats k new below)
              ∙ slice_get_past hand r (omega (arith, long)))
              (λ (e : j ≡ at → ⊥). others_left j e ∙ t.gone j (omega (arith, past, e)))
              (cases_eq j at);
          taken = λ j within. ap (λ (l : List Reply). slice_get (reverse l) j) grown ∙ ap (λ (l : List Reply). slice_get l j) (reverse-append replies (reply ∷ [])) ∙ taken_next reply told j within;
          replies_count = omega (arith, ap length grown, length-append replies (reply ∷ []), t.replies_count);
        }

  -- the loop begins with no reply taken
  pub none_taken : (first : List (Seat Pass Job Reply)) (count : ℕ) (replies : List Reply) → ((i : ℕ) → count ≤ i → task_in first (i % length first) (i / length first) ≡ None) → replies ≡ [] → AreTaken first first count count replies
  none_taken first count replies others empty = record {
    seats_count = refl;
    passes = refl;
    left = λ j within. refl;
    gone = others;
    taken = λ j within. absurd (omega (arith, within));
    replies_count = omega (arith, ap length empty);
  }

  single : (seats : List (Seat Pass Job Reply)) (d : Seat Pass Job Reply) → 1 ≤ length seats → length seats < 2 → seats ≡ get_or seats 0 d ∷ []
  single [] d some few = absurd (omega arith)
  single (seat ∷ []) d some few = refl
  single (seat ∷ other ∷ seats) d some few = absurd (omega arith)

  module _ (seats : List (Seat Pass Job Reply)) (d : Seat Pass Job Reply) (count : ℕ) (some : 1 ≤ length seats) (few : length seats < 2)
      (served : (i : ℕ) → i < count → IsSome (reply_in seats (i % length seats) (i / length seats))) (others : (i : ℕ) → count ≤ i → task_in seats (i % length seats) (i / length seats) ≡ None) where
    -- the tasks of a single seat
    task_alone : (i : ℕ) → task_in seats (i % length seats) (i / length seats) ≡ slice_get (get_or seats 0 d).hand i
    task_alone i =
        let one : length seats ≡ 1 = omega (arith, some, few) in
        let p = place_only i 1 i 0 (omega arith) (omega arith) (omega arith) in
        ap (λ (n : ℕ). task_in seats (i % n) (i / n)) one
        ∙ ap (λ (x : ℕ × ℕ). task_in seats x.0 x.1) (λ j. (sym p.1 j, sym p.0 j))
        ∙ ap (λ (l : List (Seat Pass Job Reply)). task_in l 0 i) (single seats d some few)

    reply_alone : (i : ℕ) → reply_in seats (i % length seats) (i / length seats) ≡ reply_of (get_or seats 0 d).hand i
    reply_alone i = reply_of_task seats (i % length seats) (i / length seats) ∙ ap (option_and_then (λ (t : Task Job Reply). t.reply)) (task_alone i)

    -- each has a reply
    pub alone_replied : AreReplied (get_or seats 0 d).hand
    alone_replied = λ r task at. ⊎_elim
        (λ (e : r < count). subst IsSome (reply_alone r ∙ ap (option_and_then (λ (t : Task Job Reply). t.reply)) at) (served r e))
        (λ (e : count ≤ r). absurd (none-some task (sym (others r e) ∙ task_alone r ∙ at)))
        (cases_lt r count)

    -- and they are as many as the jobs
    pub alone_count : (replies : List Reply) → ((r : ℕ) → slice_get replies r ≡ reply_of (get_or seats 0 d).hand r) → length replies ≡ count
    alone_count replies taken =
        let no_less : length replies < count → ⊥ = λ less.
        let none : reply_in seats (length replies % length seats) (length replies / length seats) ≡ None = reply_alone (length replies) ∙ sym (taken (length replies)) ∙ slice_get_past replies (length replies) (omega arith) in
        let no : IsSome {T = Reply} None = subst IsSome none (served (length replies) less) in
        search rules in
        let no_more : count < length replies → ⊥ = λ more.
        let u = there_is replies count more in
        none-some u.0 (ap (option_and_then (λ (t : Task Job Reply). t.reply)) (sym (others count (omega arith)) ∙ task_alone count) ∙ sym (taken count) ∙ u.1) in
        omega (arith, no_less, no_more)
