-- The core: workers that enter pays into one ledger, event by event.
use Rattle.std.specs.Prelude.{ℕ, ◌-◌, ◌==◌, ◌&&◌, Bool, true, false, List, [], ◌∷◌, ◌++◌, Option, Some, None, slice_get, slice_set, is_some, is_none, nat_lt, if◌then◌else◌, option_and_then}
use Rattle.std.specs.List.{list_any, position_from}
use Rattle.std.specs.Option.{option_map_or}
use Rattle.day_model.specs.declared.account.AcctNo.{AcctNo}
use Rattle.day_model.specs.declared.pay.Leg.{Leg}
use Rattle.day_model.specs.declared.pay.Pay.{Pay}
use Rattle.day_model.specs.declared.core_event.Event.{Event}
use Rattle.day_model.specs.declared.core_event.Event.TheVariants.{Draw, Take, Commit, GiveBack, Fault}
use Rattle.day_model.specs.declared.core_job.Job.{Job}
use Rattle.day_model.specs.declared.core_job.Mark.{Mark}
use Rattle.day_model.specs.Fit.{legs_fit}
use Rattle.day_model.specs.CoreLedger.{LedgerState, ledger_after, mark_of}

-- what contracts see of a `Core`: its ledger, and what each worker does; one without a job is idle
pub record CoreState : Type 0 where
  pub ledger : LedgerState
  pub workers : List (Option Job)

-- workers count from 1
abbrev pub worker_at : List (Option Job) → ℕ → Option (Option Job)
worker_at workers n = if nat_lt 0 n then slice_get workers (n - 1) else None

-- the job of worker n, if it has one
abbrev pub job_at : List (Option Job) → ℕ → Option Job
job_at workers n = option_and_then (λ job. job) (worker_at workers n)

-- there is such a worker, and it has no job
abbrev pub is_idle : Option (Option Job) → Bool
is_idle (Some None) = true
is_idle (Some (Some job)) = false
is_idle None = false

-- does a job hold account n?
abbrev pub holds : Job → ℕ → Bool
holds job n = list_any (λ account. account.0 == n) job.held

-- the worker has a job that holds account n
abbrev pub has_held : ℕ → Option Job → Bool
has_held n (Some job) = holds job n
has_held n None = false

-- the number of the worker that holds account n
abbrev pub holder_of : List (Option Job) → ℕ → Option ℕ
holder_of workers n = position_from (has_held n) 1 workers

-- the lesser of a number and another, if there is another
abbrev pub lesser : ℕ → Option ℕ → ℕ
lesser n None = n
lesser n (Some m) = if nat_lt m n then m else n

-- of these legs, the least account that a job doesn't hold
abbrev pub least_unheld : Job → List Leg → Option ℕ
least_unheld job [] = None
least_unheld job (leg ∷ legs) =
    if holds job leg.account.0 then least_unheld job legs else Some (lesser leg.account.0 (least_unheld job legs))

-- the account that a job must take next
abbrev pub wanted_by : Job → Option ℕ
wanted_by job = least_unheld job job.pay.legs

-- there is a number, and it is n
abbrev pub is_number : Option ℕ → ℕ → Bool
is_number (Some m) n = m == n
is_number None n = false

-- the least account that the job doesn't hold, and that nobody holds
abbrev pub may_take : List (Option Job) → ℕ → Option Job → Bool
may_take workers n (Some job) = is_number (wanted_by job) n && is_none (holder_of workers n)
may_take workers n None = false

-- all accounts held, and no Commit yet
abbrev pub may_commit : Option Job → Bool
may_commit (Some job) = is_none (wanted_by job) && is_none job.mark
may_commit None = false

-- after a Commit
abbrev pub may_give_back : Option Job → Bool
may_give_back (Some job) = is_some job.mark
may_give_back None = false

-- whether the phase of the event's worker allows it
abbrev pub is_allowed : CoreState → Event → Bool
is_allowed s (Draw worker pay) = is_idle (worker_at s.workers worker) && legs_fit s.ledger.chart pay.legs
is_allowed s (Take worker account) = may_take s.workers account.0 (job_at s.workers worker)
is_allowed s (Commit worker) = may_commit (job_at s.workers worker)
is_allowed s (GiveBack worker) = may_give_back (job_at s.workers worker)
is_allowed s Fault = true

-- worker n has this job, or none
abbrev pub with_worker : List (Option Job) → ℕ → Option Job → List (Option Job)
with_worker workers n job = slice_set workers (n - 1) job

-- nothing held yet, and no Commit yet
abbrev pub drawn : Pay → Job
drawn pay = record { pay = pay; held = []; mark = None }

-- the job holds an account more
abbrev pub also_holding : AcctNo → Job → Job
also_holding account job = record job { held = job.held ++ account ∷ [] }

-- the job has been committed
abbrev pub marked : Mark → Job → Job
marked mark job = record job { mark = Some mark }

-- a worker's job changed
abbrev pub with_job : List (Option Job) → ℕ → (Job → Job) → List (Option Job)
with_job workers n change = option_map_or (λ job. with_worker workers n (Some (change job))) (job_at workers n) workers

-- a Commit enters the job's pay and marks the job
abbrev pub after_commit : CoreState → ℕ → Job → CoreState
after_commit s worker job = record {
  ledger = ledger_after s.ledger job.pay;
  workers = with_job s.workers worker (marked (mark_of s.ledger job.pay));
}

-- what an event that is allowed changes
abbrev pub after : CoreState → Event → CoreState
after s (Draw worker pay) = record s { workers = with_worker s.workers worker (Some (drawn pay)) }
after s (Take worker account) = record s { workers = with_job s.workers worker (also_holding account) }
after s (Commit worker) = option_map_or (after_commit s worker) (job_at s.workers worker) s
after s (GiveBack worker) = record s { workers = with_worker s.workers worker None }
after s Fault = record s { ledger = record s.ledger { broken = true } }

-- an event that isn't allowed changes nothing
abbrev pub step_of : CoreState → Event → CoreState
step_of s event = if is_allowed s event then after s event else s

-- a list of events, one after another
abbrev pub run_of : CoreState → List Event → CoreState
run_of s [] = s
run_of s (event ∷ events) = run_of (step_of s event) events
