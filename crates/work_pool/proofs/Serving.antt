-- One job more is served.
use Rattle.std.proofs.Common.{◌≡◌, ◌<◌, ◌≤◌, ◌+◌, ℕ, List, [], ◌∷◌, ◌++◌, length, take, get_or, Some, refl, ap, sym, ◌∙◌, subst, arith}
use Rattle.std.proofs.lemmas.List.{length-take-le, take_all, take_more}
use Rattle.work_pool.specs.inner.Hands.{Task, tasks_of, unserved}
use Rattle.work_pool.specs.inner.Tasks.{ServedHand}
use Rattle.work_pool.proofs.Hands.{length-tasks_of, tasks-snoc, job-at}

module _ {Pass Job Reply : Type 0} (serves : Pass → Job → Pass → Reply → Type 0) where
  pub one_more_served : (before : Pass) (olds : List (Task Job Reply)) (pass : Pass) (news : List (Task Job Reply)) (old : Task Job Reply) (after : Pass) (new : Task Job Reply) (reply : Reply)
      → ServedHand serves before olds pass news → new.job ≡ old.job → new.reply ≡ Some reply → serves pass old.job after reply
      → ServedHand serves before (olds ++ old ∷ []) after (news ++ new ∷ [])
  one_more_served before [] pass [] old after new reply e job is s = (job, reply, is, after, subst (λ (p : Pass). serves p old.job after reply) e s, refl)
  one_more_served before [] pass (n ∷ ns) old after new reply h job is s = absurd h
  one_more_served before (o ∷ os) pass [] old after new reply h job is s = absurd h
  one_more_served before (o ∷ os) pass (n ∷ ns) old after new reply h job is s = (h.0, h.1, h.2, h.3, h.4, one_more_served h.3 os pass ns old after new reply h.5 job is s)

  -- a step of the loop over a hand: the next job is served, and its reply added
  pub next_served : (before : Pass) (jobs : List Job) (first replies : List Reply) (i : ℕ) (pass after : Pass) (job : Job) (reply : Reply) → i < length jobs → job ≡ get_or jobs i job → length replies ≡ i
      → ServedHand serves before (take i (tasks_of jobs first)) pass (tasks_of (take i jobs) replies) → serves pass job after reply
      → ServedHand serves before (take (i + 1) (tasks_of jobs first)) after (tasks_of (take (i + 1) jobs) (replies ++ reply ∷ []))
  next_served before jobs first replies i pass after job reply within is count done s =
      let olds : List (Task Job Reply) = tasks_of jobs first in
      let old : Task Job Reply = get_or olds i (unserved job) in
      let new : Task Job Reply = record { job = job; reply = Some reply } in
      let in_olds : i < length olds = omega (arith, length-tasks_of jobs first) in
      let same : job ≡ old.job = is ∙ sym (job-at jobs first i job) in
      let more = one_more_served before (take i olds) pass (tasks_of (take i jobs) replies) old after new reply done same refl (subst (λ (j : Job). serves pass j after reply) same s) in
      let even : length replies ≡ length (take i jobs) = omega (arith, length-take-le i jobs (omega arith)) in
      let jobs_are : take i jobs ++ job ∷ [] ≡ take (i + 1) jobs = ap (λ (j : Job). take i jobs ++ j ∷ []) is ∙ sym (take_more jobs i job within) in
      let news_are : tasks_of (take i jobs) replies ++ new ∷ [] ≡ tasks_of (take (i + 1) jobs) (replies ++ reply ∷ []) = sym (tasks-snoc (take i jobs) replies job reply even) ∙ ap (λ (js : List Job). tasks_of js (replies ++ reply ∷ [])) jobs_are in
      subst (λ (x : List (Task Job Reply) × List (Task Job Reply)). ServedHand serves before x.0 after x.1) (λ j. (sym (take_more olds i (unserved job) in_olds) j, news_are j)) more

  -- at the end of the loop each job was served
  pub served_all : (before : Pass) (jobs : List Job) (first replies : List Reply) (i : ℕ) (pass : Pass) → length jobs ≤ i
      → ServedHand serves before (take i (tasks_of jobs first)) pass (tasks_of (take i jobs) replies) → ServedHand serves before (tasks_of jobs first) pass (tasks_of jobs replies)
  served_all before jobs first replies i pass past done =
      let olds : take i (tasks_of jobs first) ≡ tasks_of jobs first = take_all i (tasks_of jobs first) (omega (arith, length-tasks_of jobs first, past)) in
      let news : tasks_of (take i jobs) replies ≡ tasks_of jobs replies = ap (λ (js : List Job). tasks_of js replies) (take_all i jobs past) in
      subst (λ (x : List (Task Job Reply) × List (Task Job Reply)). ServedHand serves before x.0 pass x.1) (λ j. (olds j, news j)) done
