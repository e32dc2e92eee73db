-- How jobs are dealt to passes, and what their serves make of the passes. Jobs have the numbers from 1 in their order.
use Rattle.std.specs.Prelude.{◌≡◌, ℕ, ◌-◌, ◌%◌, ◌<◌, ◌≤◌, List, [], ◌∷◌, Some, length, slice_get}

-- the most workers that run at once
abbrev pub most_workers : ℕ
most_workers = 16

-- each number is less than those after it
abbrev pub AreRising : List ℕ → Type 0
AreRising numbers = (i j m n : ℕ) → i < j → slice_get numbers i ≡ Some m → slice_get numbers j ≡ Some n → m < n

-- job n stands in the list of the pass at place k
abbrev pub StandsIn : List (List ℕ) → ℕ → ℕ → Type 0
StandsIn lists k n = (numbers : List ℕ) × (slice_get lists k ≡ Some numbers) × (i : ℕ) × (slice_get numbers i ≡ Some n)

-- a rising list of job numbers for each pass; each job stands once, in exactly one of them
pub record AreDealt (passes jobs : ℕ) (lists : List (List ℕ)) : Type 0 where
  pub one_each : length lists ≡ passes
  pub rising : (k : ℕ) (numbers : List ℕ) → slice_get lists k ≡ Some numbers → AreRising numbers
  pub jobs_only : (k n : ℕ) → StandsIn lists k n → (1 ≤ n) × (n ≤ jobs)
  pub every_job : (n : ℕ) → 1 ≤ n → n ≤ jobs → (k : ℕ) × StandsIn lists k n
  pub one_pass : (k l n : ℕ) → StandsIn lists k n → StandsIn lists l n → k ≡ l

-- job n is served with the pass at place (n - 1) mod passes
abbrev pub AreInTurn : ℕ → List (List ℕ) → Type 0
AreInTurn passes lists = (k n : ℕ) → StandsIn lists k n → k ≡ (n - 1) % passes

-- the pass after comes of the pass before by the serves of the jobs with these numbers, one after another, and each serve's reply
-- stands under its job's number
abbrev pub ServedWith : {Pass Job Reply : Type 0} → (Pass → Job → Pass → Reply → Type 0) → List Job → List Reply → List ℕ → Pass → Pass → Type 0
ServedWith serves jobs replies [] before after = after ≡ before
ServedWith {Pass} {Job} {Reply} serves jobs replies (n ∷ numbers) before after =
    (job : Job) × (reply : Reply) × (next : Pass)
    × (slice_get jobs (n - 1) ≡ Some job) × (slice_get replies (n - 1) ≡ Some reply)
    × serves before job next reply
    × ServedWith serves jobs replies numbers next after

-- each pass is taken
abbrev pub AllTaken : {Pass : Type 0} → (Pass → Type 0) → List Pass → Type 0
AllTaken {Pass} takes passes = (k : ℕ) (pass : Pass) → slice_get passes k ≡ Some pass → takes pass

-- the passes after, at their places, come of those before by the serves of their lists, and there is a reply for each job, that
-- of its serve
pub record AreServed {Pass Job Reply : Type 0} (serves : Pass → Job → Pass → Reply → Type 0) (before : List Pass) (jobs : List Job) (after : List Pass) (replies : List Reply) : Type 0 where
  pub lists : List (List ℕ)
  pub dealt : AreDealt (length before) (length jobs) lists
  pub in_turn : AreInTurn (length before) lists
  pub passes : length after ≡ length before
  pub replies_count : length replies ≡ length jobs
  pub served : (k : ℕ) (numbers : List ℕ) (pass next : Pass) → slice_get lists k ≡ Some numbers → slice_get before k ≡ Some pass → slice_get after k ≡ Some next → ServedWith serves jobs replies numbers pass next
