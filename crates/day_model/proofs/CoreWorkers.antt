-- The workers of a core: which jobs they have, before and after one of them changes.
use Rattle.std.proofs.Common.{◌≡◌, ◌≢◌, ℕ, ◌-◌, ◌≤◌, true, List, [], ◌∷◌, ◌++◌, Option, Some, None, refl, sym, ap, ◌∙◌, arith, length, get_or, inl, inr}
use Rattle.std.specs.Prelude.{◌⊎◌, slice_get, slice_set, option_and_then}
use Rattle.std.specs.Option.{option_map_or}
use Rattle.std.proofs.lemmas.Bool.{cases_eq, cases_lt, cond-true, cond-false, lt-ltb, le-ltb}
use Rattle.std.proofs.lemmas.List.{set-get_or}
use Rattle.std.proofs.lemmas.Option.{slice_get_past, slice_get_within, slice_get_read, none-some, same_Some}
use Rattle.day_model.specs.declared.core_job.Job.{Job}
use Rattle.day_model.specs.CoreStep.{worker_at, job_at, with_worker, is_idle}
use Rattle.day_model.specs.CoreSound.{AllIdle}
use Rattle.day_model.proofs.laws.Slices.{in_pushed, slice_get-set_other, slice_get-set_same}

-- a worker of this number
pub record There (workers : List (Option Job)) (n : ℕ) (worker : Option Job) : Type 0 where
  pub from_one : 1 ≤ n
  pub within : n ≤ length workers
  pub at : slice_get workers (n - 1) ≡ Some worker

pub worker_at-from_one : (workers : List (Option Job)) (n : ℕ) → 1 ≤ n → worker_at workers n ≡ slice_get workers (n - 1)
worker_at-from_one workers n from = cond-true _ (slice_get workers (n - 1)) None (lt-ltb 0 n (omega arith))

worker_at-zero : (workers : List (Option Job)) (n : ℕ) → n ≤ 0 → worker_at workers n ≡ None
worker_at-zero workers n zero_is = cond-false _ (slice_get workers (n - 1)) None (le-ltb 0 n zero_is)

pub there : (workers : List (Option Job)) (n : ℕ) (worker : Option Job) → worker_at workers n ≡ Some worker → There workers n worker
there workers n worker e =
    elim (cases_lt 0 n) [
      | inl from ↦
          let at : slice_get workers (n - 1) ≡ Some worker = sym (worker_at-from_one workers n (omega arith)) ∙ e in
          let lt = slice_get_within workers (n - 1) worker at in
          record { from_one = omega arith; within = omega arith; at = at }
      | inr none ↦ absurd (none-some worker (sym (worker_at-zero workers n none) ∙ e))
    ]

inner : (o : Option (Option Job)) (job : Job) → option_and_then (λ (x : Option Job). x) o ≡ Some job → o ≡ Some (Some job)
inner None job e = absurd (none-some job e)
inner (Some None) job e = absurd (none-some job e)
inner (Some (Some other)) job e = ap (λ (x : Option Job). Some x) e

pub worker_of_job : (workers : List (Option Job)) (n : ℕ) (job : Job) → job_at workers n ≡ Some job → worker_at workers n ≡ Some (Some job)
worker_of_job workers n job e = inner (worker_at workers n) job e

pub job_there : (workers : List (Option Job)) (n : ℕ) (job : Job) → job_at workers n ≡ Some job → There workers n (Some job)
job_there workers n job e = there workers n (Some job) (worker_of_job workers n job e)

-- one worker changed
worker_after_same : (workers : List (Option Job)) (n : ℕ) (old new : Option Job) → worker_at workers n ≡ Some old
    → worker_at (with_worker workers n new) n ≡ Some new
worker_after_same workers n old new e =
    let t = there workers n old e in
    worker_at-from_one (with_worker workers n new) n t.from_one ∙ slice_get-set_same workers (n - 1) new (omega (arith, t.from_one, t.within))

worker_after_other : (workers : List (Option Job)) (n m : ℕ) (old new : Option Job) → worker_at workers n ≡ Some old → m ≢ n
    → worker_at (with_worker workers n new) m ≡ worker_at workers m
worker_after_other workers n m old new e ne =
    let t = there workers n old e in
    elim (cases_lt 0 m) [
      | inl from ↦
          let other : m - 1 ≢ n - 1 = λ is. ne (omega (arith, t.from_one)) in
          worker_at-from_one (with_worker workers n new) m (omega arith) ∙ slice_get-set_other workers (n - 1) (m - 1) new other
          ∙ sym (worker_at-from_one workers m (omega arith))
      | inr none ↦ worker_at-zero (with_worker workers n new) m none ∙ sym (worker_at-zero workers m none)
    ]

-- a job after the change is the new one, or one of another worker
pub job_after : (workers : List (Option Job)) (n m : ℕ) (old new : Option Job) (job : Job) → worker_at workers n ≡ Some old
    → job_at (with_worker workers n new) m ≡ Some job → ((m ≡ n) × (new ≡ Some job)) ⊎ (job_at workers m ≡ Some job)
job_after workers n m old new job e is =
    elim (cases_eq m n) [
      | inl same ↦
          let at : worker_at (with_worker workers n new) n ≡ Some (Some job) =
          ap (λ (k : ℕ). worker_at (with_worker workers n new) k) (sym same) ∙ worker_of_job (with_worker workers n new) m job is in
          inl (same, same_Some new (Some job) (sym (worker_after_same workers n old new e) ∙ at))
      | inr other ↦ inr
          (ap (λ (o : Option (Option Job)). option_and_then (λ (x : Option Job). x) o) (sym (worker_after_other workers n m old new e other)) ∙ is)
    ]

-- a worker without a job is left as it is
pub untouched : (workers : List (Option Job)) (n : ℕ) (worker : Option Job) (change : Job → List (Option Job)) → 1 ≤ n
    → worker ≡ get_or workers (n - 1) worker → worker ≡ None → slice_set workers (n - 1) worker ≡ option_map_or change (job_at workers n) workers
untouched workers n worker change from is none =
    let same : slice_set workers (n - 1) worker ≡ workers = ap (λ (x : Option Job). slice_set workers (n - 1) x) is ∙ set-get_or workers (n - 1) worker in
    let idle : job_at workers n ≡ None = elim (cases_lt (n - 1) (length workers)) [
      | inl lt ↦ ap (λ (o : Option (Option Job)). option_and_then (λ (x : Option Job). x) o)
          (worker_at-from_one workers n from ∙ slice_get_read workers (length workers) (n - 1) worker refl lt is) ∙ none
      | inr past ↦ ap (λ (o : Option (Option Job)). option_and_then (λ (x : Option Job). x) o)
          (worker_at-from_one workers n from ∙ slice_get_past workers (n - 1) past)
    ] in
    same ∙ ap (λ (o : Option Job). option_map_or change o workers) (sym idle)

idle_is : (o : Option (Option Job)) → is_idle o ≡ true → o ≡ Some None
idle_is None e = cc
idle_is (Some None) e = refl
idle_is (Some (Some job)) e = cc

pub idle_there : (workers : List (Option Job)) (n : ℕ) → is_idle (worker_at workers n) ≡ true → There workers n None
idle_there workers n e = there workers n None (idle_is (worker_at workers n) e)

-- one idle worker more
pub idle_more : (workers : List (Option Job)) → AllIdle workers → AllIdle (workers ++ None ∷ [])
idle_more workers idle = λ i job at. elim (in_pushed workers None i job at) [
  | inl old ↦ idle i job old
  | inr new ↦ sym new.1
]

pub none_idle : AllIdle []
none_idle = λ i job at. absurd (none-some job at)
