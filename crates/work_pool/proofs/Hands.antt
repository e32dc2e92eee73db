-- Jobs with the replies so far.
use Rattle.std.proofs.Common.{◌≡◌, ◌≤◌, ℕ, zero, suc, List, [], ◌∷◌, ◌++◌, length, length-append, map, get_or, Option, None, Some, refl, ap, sym, ◌∙◌, arith, rules}
use Rattle.std.specs.List.{slice_get}
use Rattle.std.specs.Option.{IsSome, option_to_list}
use Rattle.work_pool.specs.inner.Hands.{Task, tasks_of, unserved}
use Rattle.work_pool.specs.inner.Tasks.{AreReplied, reply_of}

module _ {Job Reply : Type 0} where
  pub length-tasks_of : (jobs : List Job) (replies : List Reply) → length (tasks_of jobs replies) ≡ length jobs
  length-tasks_of [] replies = refl
  length-tasks_of (job ∷ jobs) [] = ap suc (length-tasks_of jobs [])
  length-tasks_of (job ∷ jobs) (reply ∷ replies) = ap suc (length-tasks_of jobs replies)

  pub tasks-unserved : (jobs : List Job) → tasks_of {Job = Job} {Reply = Reply} jobs [] ≡ map unserved jobs
  tasks-unserved [] = refl
  tasks-unserved (job ∷ jobs) = ap (λ (tasks : List (Task Job Reply)). unserved job ∷ tasks) (tasks-unserved jobs)

  -- where each task has a reply there are as many replies as jobs
  pub as_many : (jobs : List Job) (replies : List Reply) → AreReplied (tasks_of jobs replies) → length jobs ≤ length replies
  as_many [] replies h = omega arith
  as_many (job ∷ jobs) [] h = absurd (let no = h 0 (unserved job) refl in search rules)
  as_many (job ∷ jobs) (reply ∷ replies) h = omega (arith, as_many jobs replies (λ r task is. h (suc r) task is))

  -- one job more, with its reply
  pub tasks-snoc : (jobs : List Job) (replies : List Reply) (job : Job) (reply : Reply) → length replies ≡ length jobs
      → tasks_of (jobs ++ job ∷ []) (replies ++ reply ∷ []) ≡ tasks_of jobs replies ++ record { job = job; reply = Some reply } ∷ []
  tasks-snoc [] [] job reply even = refl
  tasks-snoc [] (x ∷ replies) job reply even = absurd (omega arith)
  tasks-snoc (j ∷ jobs) [] job reply even = absurd (omega arith)
  tasks-snoc (j ∷ jobs) (x ∷ replies) job reply even = ap (λ (tasks : List (Task Job Reply)). record { job = j; reply = Some x } ∷ tasks) (tasks-snoc jobs replies job reply (omega arith))

  -- the reply of the task at a place is the one at that place
  pub reply-at : (jobs : List Job) (replies : List Reply) (r : ℕ) → length replies ≡ length jobs → slice_get replies r ≡ reply_of (tasks_of jobs replies) r
  reply-at [] [] r even = refl
  reply-at [] (x ∷ replies) r even = absurd (omega arith)
  reply-at (j ∷ jobs) [] r even = absurd (omega arith)
  reply-at (j ∷ jobs) (x ∷ replies) zero even = refl
  reply-at (j ∷ jobs) (x ∷ replies) (suc r) even = reply-at jobs replies r (omega arith)

  -- the job of the task at a place is the one at that place
  pub job-at : (jobs : List Job) (replies : List Reply) (i : ℕ) (job : Job) → (get_or (tasks_of jobs replies) i (unserved job)).job ≡ get_or jobs i job
  job-at [] replies i job = refl
  job-at (j ∷ jobs) [] zero job = refl
  job-at (j ∷ jobs) [] (suc i) job = job-at jobs [] i job
  job-at (j ∷ jobs) (x ∷ replies) zero job = refl
  job-at (j ∷ jobs) (x ∷ replies) (suc i) job = job-at jobs replies i job

  -- where the last job and the last reply are taken away, the last task is
  pub popped : (jobs left : List Job) (o : Option Job) (replies rest : List Reply) (reply : Reply) (tasks : List (Task Job Reply)) → IsSome o → jobs ≡ left ++ option_to_list o → replies ≡ rest ++ reply ∷ []
      → length replies ≡ length jobs → tasks_of jobs replies ≡ tasks → (task : Task Job Reply) × (tasks ≡ tasks_of left rest ++ task ∷ []) × (Some reply ≡ task.reply)
  popped jobs left None replies rest reply tasks some jobs_are replies_are even is = absurd (search rules)
  popped jobs left (Some job) replies rest reply tasks some jobs_are replies_are even is =
      let same : length rest ≡ length left = omega (arith, even, ap length jobs_are, ap length replies_are, length-append left (job ∷ []), length-append rest (reply ∷ [])) in (
        record { job = job; reply = Some reply },
        sym is ∙ ap (λ (x : List Job × List Reply). tasks_of x.0 x.1) (λ i. (jobs_are i, replies_are i)) ∙ tasks-snoc left rest job reply same,
        refl,
      )
