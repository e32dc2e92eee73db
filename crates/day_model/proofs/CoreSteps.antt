-- Every event leaves a core sound.
use Rattle.std.proofs.Common.{◌≡◌, ℕ, ◌-◌, ◌<◌, ◌^◌, Bool, true, false, List, [], ◌∷◌, ◌++◌, Option, Some, None, refl, sym, ap, ◌∙◌, subst, arith, length, append_assoc, inl, inr}
use Rattle.std.specs.Prelude.{is_some, is_none}
use Rattle.std.specs.Option.{option_map_or}
use Rattle.std.proofs.lemmas.Bool.{and_parts, cond_both, eqb-true, false≢true}
use Rattle.std.proofs.lemmas.List.{append-nil, length-set}
use Rattle.std.proofs.lemmas.Option.{none-some, same_Some}
use Rattle.day_model.specs.declared.account.AcctNo.{AcctNo}
use Rattle.day_model.specs.declared.entry.Entry.{Entry}
use Rattle.day_model.specs.declared.pay.Pay.{Pay}
use Rattle.day_model.specs.declared.core_event.Event.{Event}
use Rattle.day_model.specs.declared.core_event.Event.TheVariants.{Draw, Take, Commit, GiveBack, Fault}
use Rattle.day_model.specs.declared.core_job.Job.{Job}
use Rattle.day_model.specs.declared.core_job.Mark.{Mark}
use Rattle.day_model.specs.declared.core_job.Mark.TheVariants.{Entered}
use Rattle.day_model.specs.Fit.{FitsAccounts, legs_fit}
use Rattle.day_model.specs.CoreLedger.{IsSoundLedger, LedgerState, is_entered, ledger_after, mark_of}
use Rattle.day_model.specs.CoreStep.{CoreState, after, after_commit, also_holding, drawn, holder_of, holds, is_allowed, is_idle, is_number, job_at, marked, may_give_back, may_take, run_of, step_of, wanted_by, with_job, with_worker, worker_at}
use Rattle.day_model.specs.CoreSound.{AllIdle, HasHeld, IsSound, IsSoundJob}
use Rattle.day_model.proofs.CoreWorkers.{idle_there, job_after, there, worker_at-from_one, worker_of_job}
use Rattle.day_model.proofs.CoreHoldings.{held_after, least_after, no_holder}
use Rattle.day_model.proofs.CoreLedgers.{broken_stays, entered_now, entered_still, ledger_after_sound, ledger_begins, ledger_chart}

-- jobs that are sound, of which no two hold one account
record AreSoundJobs (ledger : LedgerState) (workers : List (Option Job)) : Type 0 where
  few : length workers < 2 ^ 32
  jobs : (worker : ℕ) (job : Job) → job_at workers worker ≡ Some job → IsSoundJob ledger job
  apart : (v w n : ℕ) → HasHeld workers v n → HasHeld workers w n → v ≡ w

-- a worker's new job is sound, and it holds nothing that another holds
record IsNewJob (ledger : LedgerState) (workers : List (Option Job)) (w : ℕ) (new : Option Job) : Type 0 where
  sound : (job : Job) → new ≡ Some job → IsSoundJob ledger job
  alone : (job : Job) (n v : ℕ) → new ≡ Some job → holds job n ≡ true → HasHeld workers v n → v ≡ w

changed_sound : (ledger : LedgerState) (workers : List (Option Job)) (w : ℕ) (old new : Option Job) → AreSoundJobs ledger workers
    → worker_at workers w ≡ Some old → IsNewJob ledger workers w new → AreSoundJobs ledger (with_worker workers w new)
changed_sound ledger workers w old new before at is = record {
  few = let size : length (with_worker workers w new) ≡ length workers = length-set workers (w - 1) new in let few = before.few in omega arith;
  jobs = λ v job here. elim (job_after workers w v old new job at here) [
    | inl same ↦ is.sound job same.1
    | inr other ↦ before.jobs v job other
  ];
  apart = λ u v n first second. elim (job_after workers w u old new first.0 at first.1) [
    | inl same ↦ elim (job_after workers w v old new second.0 at second.1) [
      | inl also ↦ same.0 ∙ sym also.0
      | inr other ↦ same.0 ∙ sym (is.alone first.0 n v same.1 first.2 (second.0, other, second.2))
    ]
    | inr other ↦ elim (job_after workers w v old new second.0 at second.1) [
      | inl also ↦ is.alone second.0 n u also.1 second.2 (first.0, other, first.2) ∙ sym also.0
      | inr too ↦ before.apart u v n (first.0, other, first.2) (second.0, too, second.2)
    ]
  ];
}

jobs_of : (s : CoreState) → IsSound s → AreSoundJobs s.ledger s.workers
jobs_of s sound = record { few = sound.few; jobs = sound.jobs; apart = sound.apart }

with_jobs : (ledger : LedgerState) (workers : List (Option Job)) → IsSoundLedger ledger → AreSoundJobs ledger workers
    → IsSound (record { ledger = ledger; workers = workers })
with_jobs ledger workers first second = record { ledger = first; few = second.few; jobs = second.jobs; apart = second.apart }

-- a job of another ledger with these accounts, in which what was entered is
other_ledger : (ledger new : LedgerState) (job : Job) → new.chart ≡ ledger.chart
    → ((pay : Pay) → is_entered ledger pay ≡ true → is_entered new pay ≡ true) → IsSoundJob ledger job → IsSoundJob new job
other_ledger ledger new job chart still sound = record {
  fits = subst (λ c. FitsAccounts c job.pay) (sym chart) sound.fits;
  least = sound.least;
  entered = λ is. still job.pay (sound.entered is);
}

drawn_sound : (s : CoreState) (w : ℕ) (pay : Pay) → IsSound s → worker_at s.workers w ≡ Some None → FitsAccounts s.ledger.chart pay
    → IsSound (after s (Draw w pay))
drawn_sound s w pay sound at fits =
    with_jobs s.ledger (with_worker s.workers w (Some (drawn pay))) sound.ledger
    (changed_sound s.ledger s.workers w None (Some (drawn pay)) (jobs_of s sound) at (record {
      sound = λ job is. subst (λ (j : Job). IsSoundJob s.ledger j) (same_Some (drawn pay) job is) (record {
        fits = fits;
        least = record { own = λ n held. absurd (false≢true held); least = λ m n held own free. absurd (false≢true held) };
        entered = λ mark. absurd (none-some Entered mark);
      });
      alone = λ job n v is held there. absurd (false≢true (subst (λ (j : Job). holds j n ≡ true) (sym (same_Some (drawn pay) job is)) held));
    }))

-- the account is the wanted one, and nobody holds it
is_wanted : (o : Option ℕ) (n : ℕ) → is_number o n ≡ true → o ≡ Some n
is_wanted None n e = absurd (false≢true e)
is_wanted (Some m) n e = ap (λ (x : ℕ). Some x) (eqb-true m n e)

nobody : (o : Option ℕ) → is_none o ≡ true → is_some o ≡ false
nobody None e = refl
nobody (Some n) e = absurd (false≢true e)

with_job-at : (workers : List (Option Job)) (w : ℕ) (job : Job) (change : Job → Job) → job_at workers w ≡ Some job
    → with_job workers w change ≡ with_worker workers w (Some (change job))
with_job-at workers w job change at = ap (λ (o : Option Job). option_map_or (λ j. with_worker workers w (Some (change j))) o workers) at

taken_sound : (s : CoreState) (w : ℕ) (account : AcctNo) (job : Job) → IsSound s → job_at s.workers w ≡ Some job
    → may_take s.workers account.0 (Some job) ≡ true → IsSound (record s { workers = with_worker s.workers w (Some (also_holding account job)) })
taken_sound s w account job sound at may =
    let parts = and_parts (is_number (wanted_by job) account.0) (is_none (holder_of s.workers account.0)) may in
    let wanted = is_wanted (wanted_by job) account.0 parts.0 in
    let free = nobody (holder_of s.workers account.0) parts.1 in
    let old = sound.jobs w job at in
    with_jobs s.ledger (with_worker s.workers w (Some (also_holding account job))) sound.ledger
    (changed_sound s.ledger s.workers w (Some job) (Some (also_holding account job)) (jobs_of s sound) (worker_of_job s.workers w job at) (record {
      sound = λ new is. subst (λ (j : Job). IsSoundJob s.ledger j) (same_Some (also_holding account job) new is) (record {
        fits = old.fits;
        least = least_after job account wanted old.least;
        entered = old.entered;
      });
      alone = λ new n v is held there.
          elim (held_after account job n (subst (λ (j : Job). holds j n ≡ true) (sym (same_Some (also_holding account job) new is)) held)) [
            | inl before ↦ sound.apart v w n there (job, at, before)
            | inr now ↦ absurd (no_holder s.workers account.0 v free (subst (λ (m : ℕ). HasHeld s.workers v m) (sym now) there))
          ];
    }))

given_back_sound : (s : CoreState) (w : ℕ) (job : Job) → IsSound s → job_at s.workers w ≡ Some job → IsSound (after s (GiveBack w))
given_back_sound s w job sound at =
    with_jobs s.ledger (with_worker s.workers w None) sound.ledger
    (changed_sound s.ledger s.workers w (Some job) None (jobs_of s sound) (worker_of_job s.workers w job at) (record {
      sound = λ new is. absurd (none-some new is);
      alone = λ new n v is held there. absurd (none-some new is);
    }))

pub committed_sound : (s : CoreState) (w : ℕ) (job : Job) → IsSound s → job_at s.workers w ≡ Some job → IsSound (after_commit s w job)
committed_sound s w job sound at =
    let old = sound.jobs w job at in
    let ledger : LedgerState = ledger_after s.ledger job.pay in
    let mark : Mark = mark_of s.ledger job.pay in
    let chart = ledger_chart s.ledger job.pay in
    let before : AreSoundJobs ledger s.workers = record {
      few = sound.few;
      jobs = λ v other here. other_ledger s.ledger ledger other chart (λ pay is. entered_still s.ledger job.pay pay is) (sound.jobs v other here);
      apart = sound.apart;
    } in
    subst (λ (ws : List (Option Job)). IsSound (record { ledger = ledger; workers = ws })) (sym (with_job-at s.workers w job (marked mark) at))
    (with_jobs ledger (with_worker s.workers w (Some (marked mark job))) (ledger_after_sound s.ledger job.pay sound.ledger old.fits)
    (changed_sound ledger s.workers w (Some job) (Some (marked mark job)) before (worker_of_job s.workers w job at) (record {
      sound = λ new is. subst (λ (j : Job). IsSoundJob ledger j) (same_Some (marked mark job) new is) (record {
        fits = subst (λ c. FitsAccounts c job.pay) (sym chart) old.fits;
        least = record { own = old.least.own; least = old.least.least };
        entered = λ now. entered_now s.ledger job.pay (same_Some mark Entered now);
      });
      alone = λ new n v is held there.
          sound.apart v w n there (job, at, subst (λ (j : Job). holds j n ≡ true) (sym (same_Some (marked mark job) new is)) held);
    })))

faulty_sound : (s : CoreState) → IsSound s → IsSound (after s Fault)
faulty_sound s sound =
    with_jobs (record s.ledger { broken = true }) s.workers
    (record { chart = sound.ledger.chart; legal = sound.ledger.legal; latest = sound.ledger.latest; purses = sound.ledger.purses })
    (record {
      few = sound.few;
      jobs = λ w job at. let old = sound.jobs w job at in record { fits = old.fits; least = old.least; entered = old.entered };
      apart = sound.apart;
    })

-- the events of a worker with a job
take_cases : (s : CoreState) (w : ℕ) (account : AcctNo) (o : Option Job) → job_at s.workers w ≡ o → may_take s.workers account.0 o ≡ true → IsSound s
    → IsSound (after s (Take w account))
take_cases s w account None at may sound = absurd (false≢true may)
take_cases s w account (Some job) at may sound =
    subst (λ (ws : List (Option Job)). IsSound (record { ledger = s.ledger; workers = ws })) (sym (with_job-at s.workers w job (also_holding account) at))
    (taken_sound s w account job sound at may)

commit_cases : (s : CoreState) (w : ℕ) (o : Option Job) → job_at s.workers w ≡ o → IsSound s → IsSound (option_map_or (after_commit s w) o s)
commit_cases s w None at sound = sound
commit_cases s w (Some job) at sound = committed_sound s w job sound at

give_back_cases : (s : CoreState) (w : ℕ) (o : Option Job) → job_at s.workers w ≡ o → may_give_back o ≡ true → IsSound s → IsSound (after s (GiveBack w))
give_back_cases s w None at may sound = absurd (false≢true may)
give_back_cases s w (Some job) at may sound = given_back_sound s w job sound at

idle_at : (s : CoreState) (w : ℕ) → is_idle (worker_at s.workers w) ≡ true → worker_at s.workers w ≡ Some None
idle_at s w e = let t = idle_there s.workers w e in worker_at-from_one s.workers w t.from_one ∙ t.at

pub after_sound : (s : CoreState) (event : Event) → is_allowed s event ≡ true → IsSound s → IsSound (after s event)
after_sound s (Draw w pay) may sound =
    let parts = and_parts (is_idle (worker_at s.workers w)) (legs_fit s.ledger.chart pay.legs) may in
    drawn_sound s w pay sound (idle_at s w parts.0) parts.1
after_sound s (Take w account) may sound = take_cases s w account (job_at s.workers w) refl may sound
after_sound s (Commit w) may sound = commit_cases s w (job_at s.workers w) refl sound
after_sound s (GiveBack w) may sound = give_back_cases s w (job_at s.workers w) refl may sound
after_sound s Fault may sound = faulty_sound s sound

pub step_sound : (s : CoreState) (event : Event) → IsSound s → IsSound (step_of s event)
step_sound s event sound =
    cond_both (is_allowed s event) (after s event) s (λ (x : CoreState). IsSound x) (λ may. after_sound s event may sound) (λ _. sound)

-- how the ledger grows
record Grows (old new : LedgerState) : Type 0 where
  accounts : new.chart ≡ old.chart
  begins : (more : List Entry) × (new.entries ≡ old.entries ++ more)

grows_not : (ledger new : LedgerState) → new.chart ≡ ledger.chart → new.entries ≡ ledger.entries → Grows ledger new
grows_not ledger new chart entries = record { accounts = chart; begins = ([], entries ∙ sym (append-nil ledger.entries)) }

after_grows : (s : CoreState) (event : Event) → Grows s.ledger (after s event).ledger
after_grows s (Draw w pay) = grows_not s.ledger s.ledger refl refl
after_grows s (Take w account) = grows_not s.ledger s.ledger refl refl
after_grows s (Commit w) = by_job (job_at s.workers w)
  where
    by_job : (o : Option Job) → Grows s.ledger (option_map_or (after_commit s w) o s).ledger
    by_job None = grows_not s.ledger s.ledger refl refl
    by_job (Some job) = record { accounts = ledger_chart s.ledger job.pay; begins = ledger_begins s.ledger job.pay }
after_grows s (GiveBack w) = grows_not s.ledger s.ledger refl refl
after_grows s Fault = grows_not s.ledger (record s.ledger { broken = true }) refl refl

step_grows : (s : CoreState) (event : Event) → Grows s.ledger (step_of s event).ledger
step_grows s event =
    cond_both (is_allowed s event) (after s event) s (λ (x : CoreState). Grows s.ledger x.ledger) (λ _. after_grows s event)
    (λ _. grows_not s.ledger s.ledger refl refl)

pub run_sound : (s : CoreState) (events : List Event) → IsSound s → IsSound (run_of s events)
run_sound s [] sound = sound
run_sound s (event ∷ events) sound = run_sound (step_of s event) events (step_sound s event sound)

pub run_accounts : (s : CoreState) (events : List Event) → (run_of s events).ledger.chart ≡ s.ledger.chart
run_accounts s [] = refl
run_accounts s (event ∷ events) = run_accounts (step_of s event) events ∙ (step_grows s event).accounts

pub run_begins : (s : CoreState) (events : List Event) → (more : List Entry) × ((run_of s events).ledger.entries ≡ s.ledger.entries ++ more)
run_begins s [] = ([], sym (append-nil s.ledger.entries))
run_begins s (event ∷ events) =
    let first = (step_grows s event).begins in
    let rest = run_begins (step_of s event) events in
    (first.0 ++ rest.0, rest.1 ∙ ap (λ (es : List Entry). es ++ rest.0) first.1 ∙ append_assoc s.ledger.entries first.0 rest.0)

-- after a fault the ledger stays
after_broken : (s : CoreState) (event : Event) → s.ledger.broken ≡ true → (after s event).ledger ≡ s.ledger
after_broken s (Draw w pay) broken = refl
after_broken s (Take w account) broken = refl
after_broken s (Commit w) broken = by_job (job_at s.workers w)
  where
    by_job : (o : Option Job) → (option_map_or (after_commit s w) o s).ledger ≡ s.ledger
    by_job None = refl
    by_job (Some job) = broken_stays s.ledger job.pay broken
after_broken s (GiveBack w) broken = refl
after_broken s Fault broken = ap (λ (b : Bool). record s.ledger { broken = b }) (sym broken)

step_broken : (s : CoreState) (event : Event) → s.ledger.broken ≡ true → (step_of s event).ledger ≡ s.ledger
step_broken s event broken =
    cond_both (is_allowed s event) (after s event) s (λ (x : CoreState). x.ledger ≡ s.ledger) (λ _. after_broken s event broken) (λ _. refl)

run_broken : (s : CoreState) (events : List Event) → s.ledger.broken ≡ true → (run_of s events).ledger ≡ s.ledger
run_broken s [] broken = refl
run_broken s (event ∷ events) broken =
    let same = step_broken s event broken in
    run_broken (step_of s event) events (ap (λ (l : LedgerState). l.broken) same ∙ broken) ∙ same

pub fault_freezes : (s : CoreState) (events : List Event) → (run_of (step_of s Fault) events).ledger.entries ≡ s.ledger.entries
fault_freezes s events = ap (λ (l : LedgerState). l.entries) (run_broken (step_of s Fault) events refl)

-- workers without a job
pub idle_sound : (ledger : LedgerState) (workers : List (Option Job)) → IsSoundLedger ledger → length workers < 2 ^ 32 → AllIdle workers
    → IsSound (record { ledger = ledger; workers = workers })
idle_sound ledger workers sound few idle =
    let none : (w : ℕ) (job : Job) → job_at workers w ≡ Some job → ⊥ = λ w job at.
    let t = there workers w (Some job) (worker_of_job workers w job at) in
    none-some job (sym (idle (w - 1) (Some job) t.at)) in
    record {
      ledger = sound;
      few = few;
      jobs = λ w job at. absurd (none w job at);
      apart = λ v w n first second. absurd (none v first.0 first.1);
    }
