-- Where a worker has a job, some worker may go on.
use Rattle.std.proofs.Common.{◌≡◌, ℕ, zero, suc, ◌+◌, ◌-◌, ◌<◌, ◌≤◌, Bool, true, false, List, Option, Some, None, refl, sym, ap, ◌∙◌, subst, arith, length, inl, inr}
use Rattle.std.specs.Prelude.{◌⊎◌, ◌||◌, slice_get, is_some, is_none, IfSome}
use Rattle.std.specs.List.{position_from}
use Rattle.std.proofs.lemmas.Bool.{and_from, and_parts, cases_Bool, eq-eqb, eqb-true, false≢true, or_left, or_right}
use Rattle.std.proofs.lemmas.Option.{none-some}
use Rattle.day_model.specs.Chart.{accounts_of}
use Rattle.day_model.specs.declared.core_event.Event.{Event}
use Rattle.day_model.specs.declared.core_event.Event.TheVariants.{Draw, Take, Commit, GiveBack, Fault}
use Rattle.day_model.specs.declared.core_job.Job.{Job}
use Rattle.day_model.specs.declared.core_job.Mark.{Mark}
use Rattle.day_model.specs.CoreStep.{CoreState, holder_of, is_allowed, is_number, job_at, may_commit, may_give_back, may_take, run_of, wanted_by}
use Rattle.day_model.specs.CoreSound.{AllIdle, HasHeld, IsSound, MayGoOn, NoDeadlock, RunsAreKept, goes_on_with_job}
use Rattle.day_model.specs.inner.CoreSound.{can_go_on, is_free}
use Rattle.day_model.proofs.laws.Growth.{none_passes}
use Rattle.day_model.proofs.CoreWorkers.{job_there}
use Rattle.day_model.proofs.CoreHoldings.{account_listed, holder_held, job_here, no_holder, position_at, position_least, wanted_own}
use Rattle.day_model.proofs.CoreSteps.{run_accounts, run_begins, run_sound}

unmarked : (o : Option Mark) → is_some o ≡ false → is_none o ≡ true
unmarked None e = refl
unmarked (Some mark) e = absurd (false≢true (sym e))

-- a job that may go on has an event that is allowed
unmarked_event : (s : CoreState) (w : ℕ) (job : Job) (wanted : Option ℕ) → job_at s.workers w ≡ Some job → wanted_by job ≡ wanted
    → is_some job.mark ≡ false → is_free s.workers wanted ≡ true → MayGoOn s w
unmarked_event s w job None at is waiting free = record {
  event = Commit w;
  its_own = eq-eqb w w refl;
  allowed = subst (λ (o : Option Job). may_commit o ≡ true) (sym at)
      (and_from (is_none (wanted_by job)) (is_none job.mark) (ap (λ (o : Option ℕ). is_none o) is) (unmarked job.mark waiting));
}
unmarked_event s w job (Some n) at is waiting free = record {
  event = Take w (record { 0 = n });
  its_own = eq-eqb w w refl;
  allowed = subst (λ (o : Option Job). may_take s.workers n o ≡ true) (sym at)
      (and_from (is_number (wanted_by job) n) (is_none (holder_of s.workers n)) (ap (λ (o : Option ℕ). is_number o n) is ∙ eq-eqb n n refl) free);
}

or_second : (b c : Bool) → b ≡ false → (b || c) ≡ true → c ≡ true
or_second true c fails e = absurd (false≢true (sym fails))
or_second false c fails e = e

pub event_of_job : (s : CoreState) (w : ℕ) (job : Job) → job_at s.workers w ≡ Some job → can_go_on s.workers (Some job) ≡ true → MayGoOn s w
event_of_job s w job at can =
    elim (cases_Bool (is_some job.mark)) [
      | inl committed ↦ record {
        event = GiveBack w;
        its_own = eq-eqb w w refl;
        allowed = subst (λ (o : Option Job). may_give_back o ≡ true) (sym at) committed;
      }
      | inr waiting ↦ unmarked_event s w job (wanted_by job) at refl waiting (or_second (is_some job.mark) (is_free s.workers (wanted_by job)) waiting can)
    ]

-- and the other way round
record GoesOn (s : CoreState) (w : ℕ) : Type 0 where
  job : Job
  at : job_at s.workers w ≡ Some job
  can : can_go_on s.workers (Some job) ≡ true

free_of_number : (workers : List (Option Job)) (o : Option ℕ) (n : ℕ) → is_number o n ≡ true → is_none (holder_of workers n) ≡ true
    → is_free workers o ≡ true
free_of_number workers None n is free = refl
free_of_number workers (Some m) n is free = subst (λ (k : ℕ). is_none (holder_of workers k) ≡ true) (sym (eqb-true m n is)) free

free_of_none : (workers : List (Option Job)) (o : Option ℕ) → is_none o ≡ true → is_free workers o ≡ true
free_of_none workers None e = refl
free_of_none workers (Some n) e = absurd (false≢true e)

taking : (s : CoreState) (v w n : ℕ) (o : Option Job) → v ≡ w → job_at s.workers v ≡ o → may_take s.workers n o ≡ true → GoesOn s w
taking s v w n None is at may = absurd (false≢true may)
taking s v w n (Some job) is at may =
    let parts = and_parts (is_number (wanted_by job) n) (is_none (holder_of s.workers n)) may in
    record {
      job = job;
      at = ap (job_at s.workers) (sym is) ∙ at;
      can = or_right (is_some job.mark) (is_free s.workers (wanted_by job)) (free_of_number s.workers (wanted_by job) n parts.0 parts.1);
    }

committing : (s : CoreState) (v w : ℕ) (o : Option Job) → v ≡ w → job_at s.workers v ≡ o → may_commit o ≡ true → GoesOn s w
committing s v w None is at may = absurd (false≢true may)
committing s v w (Some job) is at may = record {
  job = job;
  at = ap (job_at s.workers) (sym is) ∙ at;
  can = or_right (is_some job.mark) (is_free s.workers (wanted_by job))
      (free_of_none s.workers (wanted_by job) (and_parts (is_none (wanted_by job)) (is_none job.mark) may).0);
}

giving_back : (s : CoreState) (v w : ℕ) (o : Option Job) → v ≡ w → job_at s.workers v ≡ o → may_give_back o ≡ true → GoesOn s w
giving_back s v w None is at may = absurd (false≢true may)
giving_back s v w (Some job) is at may = record {
  job = job;
  at = ap (job_at s.workers) (sym is) ∙ at;
  can = or_left (is_some job.mark) (is_free s.workers (wanted_by job)) may;
}

by_event : (s : CoreState) (w : ℕ) (event : Event) → goes_on_with_job w event ≡ true → is_allowed s event ≡ true → GoesOn s w
by_event s w (Draw v pay) own may = absurd (false≢true own)
by_event s w (Take v account) own may = taking s v w account.0 (job_at s.workers v) (eqb-true v w own) refl may
by_event s w (Commit v) own may = committing s v w (job_at s.workers v) (eqb-true v w own) refl may
by_event s w (GiveBack v) own may = giving_back s v w (job_at s.workers v) (eqb-true v w own) refl may
by_event s w Fault own may = absurd (false≢true own)

goes : (s : CoreState) (w : ℕ) → MayGoOn s w → GoesOn s w
goes s w may = by_event s w may.event may.its_own may.allowed

-- some worker goes on
abbrev Someone : CoreState → Type 0
Someone s = (w : ℕ) × GoesOn s w

option_cases : (o : Option ℕ) → (o ≡ None) ⊎ ((n : ℕ) × (o ≡ Some n))
option_cases None = inl refl
option_cases (Some n) = inr (n, refl)

-- a worker that wants an account goes on, or the account's holder does, or what that one wants is greater: the numbers end
waits : (fuel : ℕ) (s : CoreState) (w : ℕ) (job : Job) (n : ℕ) → IsSound s → job_at s.workers w ≡ Some job → wanted_by job ≡ Some n
    → length (accounts_of s.ledger.chart) < n + fuel → Someone s
waits zero s w job n sound at wants below =
    let listed = account_listed s.ledger.chart job.pay n (sound.jobs w job at).fits (wanted_own job n wants).0 in
    absurd (omega arith)
waits (suc fuel) s w job n sound at wants below =
    elim (option_cases (holder_of s.workers n)) [
      | inl free ↦
          let waiting : is_free s.workers (wanted_by job) ≡ true = ap (is_free s.workers) wants ∙ ap (λ (o : Option ℕ). is_none o) free in
          (w, record { job = job; at = at; can = or_right (is_some job.mark) (is_free s.workers (wanted_by job)) waiting })
      | inr taken ↦
          let v : ℕ = taken.0 in
          let held : HasHeld s.workers v n = holder_held s.workers n v taken.1 in
          let k : Job = held.0 in
          elim (cases_Bool (is_some k.mark)) [
            | inl committed ↦ (v, record { job = k; at = held.1; can = or_left (is_some k.mark) (is_free s.workers (wanted_by k)) committed })
            | inr waiting ↦ elim (option_cases (wanted_by k)) [
              | inl all ↦
                  (v, record { job = k; at = held.1; can = or_right (is_some k.mark) (is_free s.workers (wanted_by k)) (ap (is_free s.workers) all) })
              | inr more ↦
                  let own = wanted_own k more.0 more.1 in
                  let greater : n < more.0 = (sound.jobs v k held.1).least.least n more.0 held.2 own.0 own.1 in
                  waits fuel s v k more.0 sound held.1 more.1 (omega arith)
            ]
          ]
    ]

someone : (s : CoreState) (w : ℕ) (job : Job) → IsSound s → job_at s.workers w ≡ Some job → Someone s
someone s w job sound at =
    elim (option_cases (wanted_by job)) [
      | inl all ↦ (w, record { job = job; at = at; can = or_right (is_some job.mark) (is_free s.workers (wanted_by job)) (ap (is_free s.workers) all) })
      | inr more ↦ waits (suc (length (accounts_of s.ledger.chart))) s w job more.0 sound at more.1 (omega arith)
    ]

pub no_deadlock : (s : CoreState) → IsSound s → NoDeadlock s
no_deadlock s sound w job at =
    let found = someone s w job sound at in
    (found.0, event_of_job s found.0 found.1.job found.1.at found.1.can)

pub runs_kept : (s : CoreState) → IsSound s → RunsAreKept s
runs_kept s sound events =
    let after = run_sound s events sound in
    record { sound = after; accounts = run_accounts s events; begins = run_begins s events; no_deadlock = no_deadlock (run_of s events) after }

-- the first worker that passes the test of its job
job_of_ready : (workers : List (Option Job)) (worker : Option Job) → can_go_on workers worker ≡ true → (job : Job) × (worker ≡ Some job)
job_of_ready workers None e = absurd (false≢true e)
job_of_ready workers (Some job) e = (job, refl)

pub ready_may : (s : CoreState) (w : ℕ) → position_from (can_go_on s.workers) 1 s.workers ≡ Some w → MayGoOn s w
ready_may s w e =
    let found = position_at (can_go_on s.workers) 1 w s.workers e in
    let job = job_of_ready s.workers found.1 found.4 in
    let here : job_at s.workers w ≡ Some job.0 =
    ap (job_at s.workers) found.2 ∙ job_here s.workers found.0 job.0 (found.3 ∙ ap (λ (x : Option Job). Some x) job.1) in
    event_of_job s w job.0 here (ap (can_go_on s.workers) (sym job.1) ∙ found.4)

pub ready_least : (s : CoreState) (w v : ℕ) → position_from (can_go_on s.workers) 1 s.workers ≡ Some w → MayGoOn s v → w ≤ v
ready_least s w v e may =
    let job = goes s v may in
    let t = job_there s.workers v job.job job.at in
    let le = position_least (can_go_on s.workers) 1 w (v - 1) s.workers (Some job.job) e t.at job.can in
    omega (arith, t.from_one)

pub none_ready : (s : CoreState) → IsSound s → position_from (can_go_on s.workers) 1 s.workers ≡ None → AllIdle s.workers
none_ready s sound e = λ i worker at. idle_by i worker at worker refl
  where
    idle_by : (i : ℕ) (worker : Option Job) → slice_get s.workers i ≡ Some worker → (o : Option Job) → worker ≡ o → worker ≡ None
    idle_by i worker at None is = is
    idle_by i worker at (Some job) is =
        let found = someone s (1 + i) job sound (job_here s.workers i job (at ∙ ap (λ (x : Option Job). Some x) is)) in
        let t = job_there s.workers found.0 found.1.job found.1.at in
        absurd
        (false≢true
        (sym (none_passes (can_go_on s.workers) 1 (found.0 - 1) s.workers (Some found.1.job) (ap (λ (o : Option ℕ). is_some o) e) t.at) ∙ found.1.can))

pub idle_none : (s : CoreState) (w : ℕ) → AllIdle s.workers → position_from (can_go_on s.workers) 1 s.workers ≡ Some w → ⊥
idle_none s w idle e =
    let found = position_at (can_go_on s.workers) 1 w s.workers e in
    let job = job_of_ready s.workers found.1 found.4 in
    none-some job.0 (sym (idle found.0 found.1 found.3) ∙ job.1)

-- who holds an account
pub if_held : (workers : List (Option Job)) (n : ℕ) (o : Option ℕ) → o ≡ holder_of workers n → IfSome o (λ w. HasHeld workers w n)
if_held workers n None e = tt
if_held workers n (Some w) e = holder_held workers n w (sym e)

pub only_held : (s : CoreState) (n : ℕ) (o : Option ℕ) → IsSound s → o ≡ holder_of s.workers n → (w : ℕ) → HasHeld s.workers w n → o ≡ Some w
only_held s n None sound e w held = absurd (no_holder s.workers n w (sym (ap (λ (x : Option ℕ). is_some x) e)) held)
only_held s n (Some v) sound e w held = ap (λ (x : ℕ). Some x) (sound.apart v w n (holder_held s.workers n v (sym e)) held)
