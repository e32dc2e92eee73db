-- What a job holds and what it wants.
use Rattle.std.proofs.Common.{◌≡◌, ◌≢◌, ℕ, zero, suc, ◌+◌, ◌-◌, ◌≤◌, Bool, true, false, cond, eqb, ltb, List, [], ◌∷◌, Option, Some, None, refl, sym, ap, ◌∙◌}
use Rattle.std.proofs.Common.{subst, arith, length, inl, inr}
use Rattle.std.specs.Prelude.{◌⊎◌, ◌||◌, slice_get, is_some, option_and_then}
use Rattle.std.specs.List.{list_any, position_from}
use Rattle.std.proofs.lemmas.Bool.{cases_Bool, cond-true, cond-false, eq-eqb, eqb-true, eqb-false, false≢true, or_cases, or_left, or_parts, or_right, ltb-true}
use Rattle.std.proofs.lemmas.Bool.{ltb-false}
use Rattle.std.proofs.lemmas.List.Folds.{list_any-append}
use Rattle.std.proofs.lemmas.Option.{none-some, same_Some}
use Rattle.day_model.specs.declared.account.AcctNo.{AcctNo}
use Rattle.day_model.specs.declared.pay.Leg.{Leg}
use Rattle.day_model.specs.declared.pay.Pay.{Pay}
use Rattle.day_model.specs.declared.core_job.Job.{Job}
use Rattle.day_model.specs.Chart.{Chart, IsListed, accounts_of}
use Rattle.day_model.specs.Fit.{FitsAccounts}
use Rattle.day_model.specs.CoreStep.{also_holding, has_held, holder_of, holds, job_at, least_unheld, lesser, wanted_by, worker_at}
use Rattle.day_model.specs.CoreSound.{HasHeld, HoldsLeast, has_leg_on}
use Rattle.day_model.proofs.laws.Fitting.{fitting}
use Rattle.day_model.proofs.laws.Growth.{none_passes}
use Rattle.day_model.proofs.CoreWorkers.{job_there, worker_at-from_one}

-- one account more
holds-also_holding : (account : AcctNo) (job : Job) (n : ℕ) → holds (also_holding account job) n ≡ (holds job n || (eqb account.0 n || false))
holds-also_holding account job n = list_any-append (λ (a : AcctNo). eqb a.0 n) job.held (account ∷ [])

no_other : (b : Bool) → (b || false) ≡ true → b ≡ true
no_other true e = refl
no_other false e = e

pub held_after : (account : AcctNo) (job : Job) (n : ℕ) → holds (also_holding account job) n ≡ true → (holds job n ≡ true) ⊎ (account.0 ≡ n)
held_after account job n e =
    elim (or_cases (holds job n) (eqb account.0 n || false) (sym (holds-also_holding account job n) ∙ e)) [
      | inl old ↦ inl old
      | inr new ↦ inr (eqb-true account.0 n (no_other (eqb account.0 n) new))
    ]

pub unheld_after : (account : AcctNo) (job : Job) (n : ℕ) → holds (also_holding account job) n ≡ false → (holds job n ≡ false) × (account.0 ≢ n)
unheld_after account job n e =
    let parts = or_parts (holds job n) (eqb account.0 n || false) (sym (holds-also_holding account job n) ∙ e) in
    let other = or_parts (eqb account.0 n) false parts.1 in
    (parts.0, eqb-false account.0 n other.0)

-- the lesser of two is one of them, and above neither
lesser_is : (n m : ℕ) (o : Option ℕ) → lesser n o ≡ m → (n ≡ m) ⊎ (o ≡ Some m)
lesser_is n m None e = inl e
lesser_is n m (Some k) e = elim (ltb k n) as (λ b. cond b k n ≡ m → (n ≡ m) ⊎ (Some k ≡ Some m)) [
  | true ↦ λ h. inr (ap (λ (x : ℕ). Some x) h)
  | false ↦ λ h. inl h
] e

lesser_first : (n : ℕ) (o : Option ℕ) → lesser n o ≤ n
lesser_first n None = omega arith
lesser_first n (Some k) = elim (cases_Bool (ltb k n)) [
  | inl below ↦ let lt = ltb-true k n below in rw below (omega arith)
  | inr above ↦ rw above (omega arith)
]

lesser_second : (n k : ℕ) → lesser n (Some k) ≤ k
lesser_second n k = elim (cases_Bool (ltb k n)) [
  | inl below ↦ rw below (omega arith)
  | inr above ↦ let le = ltb-false k n above in rw above (omega arith)
]

-- what a job wants is its own, and not held
own_among : (job : Job) (legs : List Leg) (n : ℕ) → least_unheld job legs ≡ Some n
    → (list_any (λ (leg : Leg). eqb leg.account.0 n) legs ≡ true) × (holds job n ≡ false)
own_among job [] n e = absurd (none-some n e)
own_among job (leg ∷ legs) n e =
    let least = least_unheld job legs in
    elim (cases_Bool (holds job leg.account.0)) [
      | inl held ↦
          let rest = own_among job legs n (sym (cond-true (holds job leg.account.0) least (Some (lesser leg.account.0 least)) held) ∙ e) in
          (or_right (eqb leg.account.0 n) (list_any (λ (x : Leg). eqb x.account.0 n) legs) rest.0, rest.1)
      | inr free ↦
          let is : lesser leg.account.0 least ≡ n =
          same_Some (lesser leg.account.0 least) n (sym (cond-false (holds job leg.account.0) least (Some (lesser leg.account.0 least)) free) ∙ e) in
          elim (lesser_is leg.account.0 n least is) [
            | inl here ↦ (
              or_left (eqb leg.account.0 n) (list_any (λ (x : Leg). eqb x.account.0 n) legs) (eq-eqb leg.account.0 n here),
              subst (λ (m : ℕ). holds job m ≡ false) here free,
            )
            | inr later ↦
                let rest = own_among job legs n later in
                (or_right (eqb leg.account.0 n) (list_any (λ (x : Leg). eqb x.account.0 n) legs) rest.0, rest.1)
          ]
    ]

pub wanted_own : (job : Job) (n : ℕ) → wanted_by job ≡ Some n → (has_leg_on job.pay n ≡ true) × (holds job n ≡ false)
wanted_own job n e = own_among job job.pay.legs n e

-- where an account isn't held, some account no greater is wanted
wants_among : (job : Job) (legs : List Leg) (n : ℕ) → list_any (λ (leg : Leg). eqb leg.account.0 n) legs ≡ true → holds job n ≡ false
    → (m : ℕ) × (least_unheld job legs ≡ Some m) × (m ≤ n)
wants_among job [] n own free = absurd (false≢true own)
wants_among job (leg ∷ legs) n own free =
    let least = least_unheld job legs in
    elim (or_cases (eqb leg.account.0 n) (list_any (λ (x : Leg). eqb x.account.0 n) legs) own) [
      | inl is ↦
          let here : leg.account.0 ≡ n = eqb-true leg.account.0 n is in
          let unheld : holds job leg.account.0 ≡ false = ap (holds job) here ∙ free in
          let first = lesser_first leg.account.0 least in
          (lesser leg.account.0 least, cond-false (holds job leg.account.0) least (Some (lesser leg.account.0 least)) unheld, omega arith)
      | inr later ↦
          let rest = wants_among job legs n later free in
          elim (cases_Bool (holds job leg.account.0)) [
            | inl held ↦ (rest.0, cond-true (holds job leg.account.0) least (Some (lesser leg.account.0 least)) held ∙ rest.1, rest.2)
            | inr unheld ↦
                let second : lesser leg.account.0 least ≤ rest.0 =
                subst (λ (o : Option ℕ). lesser leg.account.0 o ≤ rest.0) (sym rest.1) (lesser_second leg.account.0 rest.0) in
                (lesser leg.account.0 least, cond-false (holds job leg.account.0) least (Some (lesser leg.account.0 least)) unheld, omega (arith, rest.2))
          ]
    ]

pub wanted_least : (job : Job) (n m : ℕ) → wanted_by job ≡ Some n → has_leg_on job.pay m ≡ true → holds job m ≡ false → n ≤ m
wanted_least job n m e own free =
    let w = wants_among job job.pay.legs m own free in
    let is : n ≡ w.0 = same_Some n w.0 (sym e ∙ w.1) in
    omega (arith, w.2)

-- after the wanted account is taken, those held are still the least
pub least_after : (job : Job) (account : AcctNo) → wanted_by job ≡ Some account.0 → HoldsLeast job → HoldsLeast (also_holding account job)
least_after job account wanted before = record {
  own = λ n held. elim (held_after account job n held) [
    | inl old ↦ before.own n old
    | inr new ↦ subst (λ (m : ℕ). has_leg_on job.pay m ≡ true) new (wanted_own job account.0 wanted).0
  ];
  least = λ m n held own free.
      let unheld = unheld_after account job n free in
      elim (held_after account job m held) [
        | inl old ↦ before.least m n old own unheld.0
        | inr new ↦
            let le = wanted_least job account.0 n wanted own unheld.0 in
            let other : account.0 ≢ n = unheld.1 in
            omega arith
      ];
}

account_among : (chart : Chart) (legs : List Leg) (n : ℕ) → ((i : ℕ) (leg : Leg) → slice_get legs i ≡ Some leg → IsListed chart leg.account.0)
    → list_any (λ (leg : Leg). eqb leg.account.0 n) legs ≡ true → n ≤ length (accounts_of chart)
account_among chart [] n there own = absurd (false≢true own)
account_among chart (leg ∷ legs) n there own =
    elim (or_cases (eqb leg.account.0 n) (list_any (λ (x : Leg). eqb x.account.0 n) legs) own) [
      | inl here ↦ let is = eqb-true leg.account.0 n here in omega (arith, (there 0 leg refl).1)
      | inr later ↦ account_among chart legs n (λ i x at. there (suc i) x at) later
    ]

-- each account of a pay that fits is listed
pub account_listed : (chart : Chart) (pay : Pay) (n : ℕ) → FitsAccounts chart pay → has_leg_on pay n ≡ true → n ≤ length (accounts_of chart)
account_listed chart pay n fits own =
    let fit = fitting chart pay.legs fits in
    account_among chart pay.legs n (λ i leg at. (fit.each i leg at).listed) own

-- the first place that passes
pub position_at : {A : Type 0} (t : A → Bool) (i k : ℕ) (xs : List A) → position_from t i xs ≡ Some k
    → (j : ℕ) × (x : A) × (k ≡ i + j) × (slice_get xs j ≡ Some x) × (t x ≡ true)
position_at t i k [] e = absurd (none-some k e)
position_at t i k (x ∷ xs) e =
    elim (cases_Bool (t x)) [
      | inl passed ↦
          let is : i ≡ k = same_Some i k (sym (cond-true (t x) (Some i) (position_from t (i + 1) xs) passed) ∙ e) in
          (0, x, omega arith, refl, passed)
      | inr failed ↦
          let rest = position_at t (i + 1) k xs (sym (cond-false (t x) (Some i) (position_from t (i + 1) xs) failed) ∙ e) in
          (suc rest.0, rest.1, omega (arith, rest.2), rest.3, rest.4)
    ]

pub position_least : {A : Type 0} (t : A → Bool) (i k j : ℕ) (xs : List A) (x : A) → position_from t i xs ≡ Some k → slice_get xs j ≡ Some x
    → t x ≡ true → k ≤ i + j
position_least t i k j [] x e at passed = absurd (none-some x at)
position_least t i k zero (y ∷ xs) x e at passed =
    let here : t y ≡ true = ap t (same_Some y x at) ∙ passed in
    let is : i ≡ k = same_Some i k (sym (cond-true (t y) (Some i) (position_from t (i + 1) xs) here) ∙ e) in
    omega arith
position_least t i k (suc j) (y ∷ xs) x e at passed =
    elim (cases_Bool (t y)) [
      | inl here ↦
          let is : i ≡ k = same_Some i k (sym (cond-true (t y) (Some i) (position_from t (i + 1) xs) here) ∙ e) in
          omega arith
      | inr failed ↦
          let rest = position_least t (i + 1) k j xs x (sym (cond-false (t y) (Some i) (position_from t (i + 1) xs) failed) ∙ e) at passed in
          omega arith
    ]

job_of_held : (n : ℕ) (worker : Option Job) → has_held n worker ≡ true → (job : Job) × (worker ≡ Some job) × (holds job n ≡ true)
job_of_held n None e = absurd (false≢true e)
job_of_held n (Some job) e = (job, refl, e)

-- a worker's job, by its place from 0
pub job_here : (workers : List (Option Job)) (i : ℕ) (job : Job) → slice_get workers i ≡ Some (Some job) → job_at workers (1 + i) ≡ Some job
job_here workers i job at =
    let place : (1 + i) - 1 ≡ i = omega arith in
    let found : worker_at workers (1 + i) ≡ Some (Some job) = worker_at-from_one workers (1 + i) (omega arith) ∙ ap (slice_get workers) place ∙ at in
    ap (λ (o : Option (Option Job)). option_and_then (λ (x : Option Job). x) o) found

pub holder_held : (workers : List (Option Job)) (n v : ℕ) → holder_of workers n ≡ Some v → HasHeld workers v n
holder_held workers n v e =
    let found = position_at (has_held n) 1 v workers e in
    let held = job_of_held n found.1 found.4 in
    let at : slice_get workers found.0 ≡ Some (Some held.0) = found.3 ∙ ap (λ (x : Option Job). Some x) held.1 in
    (held.0, ap (job_at workers) found.2 ∙ job_here workers found.0 held.0 at, held.2)

pub no_holder : (workers : List (Option Job)) (n v : ℕ) → is_some (holder_of workers n) ≡ false → HasHeld workers v n → ⊥
no_holder workers n v none held =
    let t = job_there workers v held.0 held.1 in
    false≢true (sym (none_passes (has_held n) 1 (v - 1) workers (Some held.0) none t.at) ∙ held.2)
