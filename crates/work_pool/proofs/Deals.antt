-- One job more is dealt.
use Rattle.std.proofs.Common.{◌≡◌, ◌<◌, ◌+◌, ◌*◌, ◌/◌, ◌%◌, ℕ, List, [], ◌∷◌, ◌++◌, length, length-append, append_assoc, map, get_or, Some, refl, ap, sym, ◌∙◌, subst, arith, ⊎_elim}
use Rattle.std.specs.List.{slice_get}
use Rattle.std.specs.Option.{option_map}
use Rattle.std.proofs.Math.ListN.{set, length-set}
use Rattle.std.proofs.lemmas.Bool.{cases_eq}
use Rattle.std.proofs.lemmas.List.{length-map, map-append, map-set}
use Rattle.std.proofs.lemmas.Nat.{mod_below, mul-le}
use Rattle.std.proofs.lemmas.Option.{slice_get_within, slice_get_past, slice_get_read, slice_get-map, none-some, same_Some}
use Rattle.work_pool.specs.inner.Hands.{Task, unserved}
use Rattle.work_pool.specs.inner.Tasks.{AreInHands, AreInLists}
use Rattle.work_pool.proofs.Places.{slice_get-snoc_here, slice_get-snoc_else, slice_get-set_here, slice_get-set_else, there_is}
use Rattle.work_pool.proofs.Turns.{place_of, place_only}

module _ {Job : Type 0} where
  -- the list whose turn it is has a job from each whole round
  list_length : (n : ℕ) (jobs : List Job) (dealt : List (List Job)) (list : List Job) → AreInLists n jobs dealt → slice_get dealt (length jobs % n) ≡ Some list → length list ≡ length jobs / n
  list_length n jobs dealt list d at =
      let q = length jobs / n in
      let k = length jobs % n in
      let is = place_of (length jobs) n in
      let no_more : q < length list → ⊥ = λ more.
      let t = there_is list q more in
      none-some t.0 (sym (slice_get_past jobs (q * n + k) (omega (arith, is))) ∙ sym (d.at k q list at) ∙ t.1) in
      let no_less : length list < q → ⊥ = λ less.
      let l = length list in
      let below : l * n + k < length jobs = omega (arith, is, mul-le (l + 1) n q n (omega arith) (omega arith)) in
      let t = there_is jobs (l * n + k) below in
      none-some t.0 (sym (slice_get_past list l (omega arith)) ∙ d.at k l list at ∙ t.1) in
      omega (arith, no_more, no_less)

  pub one_more_dealt : (n : ℕ) (jobs : List Job) (job : Job) (dealt : List (List Job)) (list : List Job) → 0 < n → AreInLists n jobs dealt → slice_get dealt (length jobs % n) ≡ Some list
      → AreInLists n (jobs ++ job ∷ []) (set dealt (length jobs % n) (list ++ job ∷ []))
  one_more_dealt n jobs job dealt list some d at =
      let t = length jobs % n in
      let more = list ++ job ∷ [] in
      let within = slice_get_within dealt t list at in
      let long = list_length n jobs dealt list d at in
      -- elsewhere nothing was added
      let elsewhere : (k r : ℕ) → k < n → (r * n + k ≡ length jobs → ⊥) → slice_get (jobs ++ job ∷ []) (r * n + k) ≡ slice_get jobs (r * n + k) = λ k r below other. slice_get-snoc_else jobs job (r * n + k) other in
      record {
        lists_count = length-set dealt t more ∙ d.lists_count;
        at = λ k r h is. ⊎_elim
            (λ (e : k ≡ t).
            let h_is : h ≡ more = same_Some h more (sym is ∙ ap (slice_get (set dealt t more)) e ∙ slice_get-set_here dealt t more within) in
            let below : k < n = omega (arith, mod_below (length jobs) n some) in
            ⊎_elim
            (λ (q : r ≡ length jobs / n).
            let here : r * n + k ≡ length jobs = ap (λ (m : ℕ). m * n + k) q ∙ (ap (λ (m : ℕ). length jobs / n * n + m) e ∙ place_of (length jobs) n) in
            ap (λ (l : List Job). slice_get l r) h_is
            ∙ ap (slice_get more) (q ∙ sym long)
            ∙ slice_get-snoc_here list job
            ∙ sym (ap (slice_get (jobs ++ job ∷ [])) here ∙ slice_get-snoc_here jobs job))
            (λ (q : r ≡ length jobs / n → ⊥).
            ap (λ (l : List Job). slice_get l r) h_is
            ∙ slice_get-snoc_else list job r (λ e'. q (e' ∙ long))
            ∙ d.at k r list (ap (slice_get dealt) e ∙ at)
            ∙ sym (elsewhere k r below (λ e'. q (place_only (length jobs) n r k some below e').0)))
            (cases_eq r (length jobs / n)))
            (λ (e : k ≡ t → ⊥).
            let old : slice_get dealt k ≡ Some h = sym (slice_get-set_else dealt t k more e) ∙ is in
            let below : k < n = omega (arith, slice_get_within dealt k h old, d.lists_count) in
            d.at k r h old ∙ sym (elsewhere k r below (λ e'. e (place_only (length jobs) n r k some below e').1)))
            (cases_eq k t);
      }

  -- a step of the loop: the next job goes to the list whose turn it is, where lists are what vectors hold
  pub dealt_next : {V : Type 0} (items : V → List Job) (n dealt : ℕ) (all done rest rest' : List Job) (job : Job) (lists : List V) (list new : V) → 0 < n
      → rest ≡ job ∷ rest' → done ++ rest ≡ all → length done ≡ dealt → AreInLists n done (map items lists) → list ≡ get_or lists (dealt % n) list → items new ≡ items list ++ job ∷ []
      → (now : List Job) × (now ++ rest' ≡ all) × (length now ≡ dealt + 1) × AreInLists n now (map items (set lists (dealt % n) new))
  dealt_next items n dealt all done rest rest' job lists list new some steps split long d at is =
      let even : n ≡ length lists = sym d.lists_count ∙ length-map lists items in
      let read : slice_get lists (dealt % n) ≡ Some list = slice_get_read lists n (dealt % n) list even (mod_below dealt n some) at in
      let here : slice_get (map items lists) (dealt % n) ≡ Some (items list) = slice_get-map items lists (dealt % n) ∙ ap (option_map items) read in
      let made = one_more_dealt n done job (map items lists) (items list) some d (ap (λ (m : ℕ). slice_get (map items lists) (m % n)) long ∙ here) in
      let turn : set (map items lists) (length done % n) (items list ++ job ∷ []) ≡ map items (set lists (dealt % n) new) = ap (λ (m : ℕ). set (map items lists) (m % n) (items list ++ job ∷ [])) long ∙ ap (set (map items lists) (dealt % n)) (sym is) ∙ sym (map-set items lists (dealt % n) new) in (
        done ++ job ∷ [],
        append_assoc done (job ∷ []) rest' ∙ ap (λ (xs : List Job). done ++ xs) (sym steps) ∙ split,
        omega (arith, length-append done (job ∷ []), long),
        subst (AreInLists n (done ++ job ∷ [])) turn made,
      )

  one_more_empty : (n : ℕ) (lists : List (List Job)) (list : List Job) → AreInLists n [] lists → list ≡ [] → AreInLists (n + 1) [] (lists ++ list ∷ [])
  one_more_empty n lists list d empty = record {
    lists_count = length-append lists (list ∷ []) ∙ ap (λ (m : ℕ). m + 1) d.lists_count;
    at = λ k r l is. ⊎_elim
        (λ (e : k ≡ length lists).
        let l_is : list ≡ l = same_Some list l (sym (slice_get-snoc_here lists list) ∙ ap (slice_get (lists ++ list ∷ [])) (sym e) ∙ is) in
        ap (λ (xs : List Job). slice_get xs r) (sym l_is ∙ empty))
        (λ (e : k ≡ length lists → ⊥). d.at k r l (sym (slice_get-snoc_else lists list k e) ∙ is))
        (cases_eq k (length lists));
  }

  -- one vector more without a job, where there are no jobs
  pub more_empty : {V : Type 0} (items : V → List Job) (n : ℕ) (lists after : List V) (list : V) → AreInLists n [] (map items lists) → items list ≡ [] → after ≡ lists ++ list ∷ [] → AreInLists (n + 1) [] (map items after)
  more_empty items n lists after list d empty grown =
      subst (AreInLists (n + 1) []) (sym (ap (map items) grown ∙ map-append items lists (list ∷ []))) (one_more_empty n (map items lists) (items list) d empty)

  -- a single list has all jobs
  pub one_list : (jobs : List Job) → AreInLists 1 jobs (jobs ∷ [])
  one_list jobs = record {
    lists_count = refl;
    at = λ k r l is.
        let within = slice_get_within (jobs ∷ []) k l is in
        let first : k ≡ 0 = omega (arith, within) in
        let l_is : jobs ≡ l = same_Some jobs l (ap (slice_get (jobs ∷ [])) (sym first) ∙ is) in
        let here : r ≡ r * 1 + k = omega (arith, first) in
        ap (λ (xs : List Job). slice_get xs r) (sym l_is) ∙ ap (slice_get jobs) here;
  }

  -- lists of jobs are hands of which nothing is served
  pub unserved_hands : {Reply : Type 0} (n : ℕ) (jobs : List Job) (lists : List (List Job)) → AreInLists n jobs lists → AreInHands {Job = Job} {Reply = Reply} n jobs (map (map unserved) lists)
  unserved_hands {Reply} n jobs lists d = record {
    hands_count = length-map lists (map unserved) ∙ d.lists_count;
    at = λ k r hand is.
        let t = there_is lists k (omega (arith, slice_get_within (map (map unserved) lists) k hand is, length-map lists (map (unserved {Job = Job} {Reply = Reply})))) in
        let hand_is : map unserved t.0 ≡ hand = same_Some (map unserved t.0) hand (sym (slice_get-map (map unserved) lists k ∙ ap (option_map (map unserved)) t.1) ∙ is) in
        ap (λ (tasks : List (Task Job Reply)). slice_get tasks r) (sym hand_is) ∙ slice_get-map unserved t.0 r ∙ ap (option_map unserved) (d.at k r t.0 t.1);
  }

  -- the lists that vectors hold, before any is a hand
  pub hands_first : {V Reply : Type 0} (items : V → List Job) (n : ℕ) (jobs : List Job) (hands : List (List (Task Job Reply))) (rest lists : List V) → hands ≡ [] → rest ≡ lists
      → AreInLists n jobs (map items lists) → AreInHands n jobs (hands ++ map (map unserved) (map items rest))
  hands_first {V} {Reply} items n jobs hands rest lists none all d =
      subst (λ (x : List (List (Task Job Reply)) × List V). AreInHands n jobs (x.0 ++ map (map unserved) (map items x.1))) (λ i. (sym none i, sym all i)) (unserved_hands n jobs (map items lists) d)

  -- the next list is a hand
  pub hands_next : {V Reply : Type 0} (items : V → List Job) (n : ℕ) (jobs : List Job) (hands after : List (List (Task Job Reply))) (hand : List (Task Job Reply)) (rest rest' : List V) (v : V)
      → rest ≡ v ∷ rest' → hand ≡ map unserved (items v) → after ≡ hands ++ hand ∷ [] → AreInHands n jobs (hands ++ map (map unserved) (map items rest)) → AreInHands n jobs (after ++ map (map unserved) (map items rest'))
  hands_next {V} {Reply} items n jobs hands after hand rest rest' v steps is grown d =
      let left : List (List (Task Job Reply)) = map (map unserved) (map items rest') in
      subst (AreInHands n jobs)
      (ap (λ (vs : List V). hands ++ map (map unserved) (map items vs)) steps ∙ ap (λ (h : List (Task Job Reply)). hands ++ h ∷ left) (sym is) ∙ sym (append_assoc hands (hand ∷ []) left) ∙ ap (λ (hs : List (List (Task Job Reply))). hs ++ left) (sym grown))
      d
