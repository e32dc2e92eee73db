-- What holds of a core after every list of events.
use Rattle.std.specs.Prelude.{◌≡◌, ℕ, ◌<◌, ◌^◌, ◌==◌, Bool, true, false, List, ◌++◌, Option, Some, None, length, slice_get}
use Rattle.std.specs.List.{list_any}
use Rattle.day_model.specs.declared.entry.Entry.{Entry}
use Rattle.day_model.specs.declared.pay.Pay.{Pay}
use Rattle.day_model.specs.declared.core_event.Event.{Event}
use Rattle.day_model.specs.declared.core_event.Event.TheVariants.{Draw, Take, Commit, GiveBack, Fault}
use Rattle.day_model.specs.declared.core_job.Job.{Job}
use Rattle.day_model.specs.declared.core_job.Mark.TheVariants.{Entered}
use Rattle.day_model.specs.Chart.{Chart}
use Rattle.day_model.specs.Fit.{FitsAccounts}
use Rattle.day_model.specs.CoreLedger.{LedgerState, IsSoundLedger, IsFirstLedger, is_entered}
use Rattle.day_model.specs.CoreStep.{CoreState, job_at, holds, is_allowed, step_of, run_of}

-- no worker has a job
abbrev pub AllIdle : List (Option Job) → Type 0
AllIdle workers = (i : ℕ) (job : Option Job) → slice_get workers i ≡ Some job → job ≡ None

-- the core of a history, whose workers are idle
pub record IsFirstState (chart : Chart) (entries : List Entry) (workers : ℕ) (s : CoreState) : Type 0 where
  pub ledger : IsFirstLedger chart entries s.ledger
  pub count : length s.workers ≡ workers
  pub idle : AllIdle s.workers

-- a leg of the pay is on account n
abbrev pub has_leg_on : Pay → ℕ → Bool
has_leg_on pay n = list_any (λ leg. leg.account.0 == n) pay.legs

-- what a job holds are the least of its accounts
pub record HoldsLeast (job : Job) : Type 0 where
  pub own : (n : ℕ) → holds job n ≡ true → has_leg_on job.pay n ≡ true
  pub least : (m n : ℕ) → holds job m ≡ true → has_leg_on job.pay n ≡ true → holds job n ≡ false → m < n

-- the job of a worker holds account n
abbrev pub HasHeld : List (Option Job) → ℕ → ℕ → Type 0
HasHeld workers worker n = (job : Job) × (job_at workers worker ≡ Some job) × (holds job n ≡ true)

-- its pay fits, it holds the least of its accounts, and after a Commit that entered it its reference is in the history
pub record IsSoundJob (ledger : LedgerState) (job : Job) : Type 0 where
  pub fits : FitsAccounts ledger.chart job.pay
  pub least : HoldsLeast job
  pub entered : job.mark ≡ Some Entered → is_entered ledger job.pay ≡ true

-- the ledger is sound, each job too, and no two workers hold one account
pub record IsSound (s : CoreState) : Type 0 where
  pub ledger : IsSoundLedger s.ledger
  pub few : length s.workers < 2 ^ 32
  pub jobs : (worker : ℕ) (job : Job) → job_at s.workers worker ≡ Some job → IsSoundJob s.ledger job
  pub apart : (v w n : ℕ) → HasHeld s.workers v n → HasHeld s.workers w n → v ≡ w

-- an event by which a worker goes on with its job
abbrev pub goes_on_with_job : ℕ → Event → Bool
goes_on_with_job worker (Draw w pay) = false
goes_on_with_job worker (Take w account) = w == worker
goes_on_with_job worker (Commit w) = w == worker
goes_on_with_job worker (GiveBack w) = w == worker
goes_on_with_job worker Fault = false

-- an event of this worker is allowed
pub record MayGoOn (s : CoreState) (worker : ℕ) : Type 0 where
  pub event : Event
  pub its_own : goes_on_with_job worker event ≡ true
  pub allowed : is_allowed s event ≡ true

-- where a worker has a job, some worker may go on
abbrev pub NoDeadlock : CoreState → Type 0
NoDeadlock s = (worker : ℕ) (job : Job) → job_at s.workers worker ≡ Some job → (w : ℕ) × MayGoOn s w

-- what holds of a state that a list of events leads to
pub record IsReached (first s : CoreState) : Type 0 where
  pub sound : IsSound s
  pub accounts : s.ledger.chart ≡ first.ledger.chart
  pub begins : (more : List Entry) × (s.ledger.entries ≡ first.ledger.entries ++ more)
  pub no_deadlock : NoDeadlock s

-- every list of events leads to a state that keeps what holds
abbrev pub RunsAreKept : CoreState → Type 0
RunsAreKept s = (events : List Event) → IsReached s (run_of s events)

-- after a fault the history stays
abbrev pub FaultFreezes : CoreState → Type 0
FaultFreezes s = (events : List Event) → (run_of (step_of s Fault) events).ledger.entries ≡ s.ledger.entries
