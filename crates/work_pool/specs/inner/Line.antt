-- The rule of the line of jobs: jobs leave it in the order in which they came, and each was taken by one token, once.
use Rattle.std.specs.Prelude.{◌≡◌, ℕ, suc, ◌+◌, ◌-◌, ◌==◌, true, false, List, [], ◌∷◌, ◌++◌, map, length, count_by, sum_by, Some, slice_get}
use mathlib.Core.Option.{some}
use lib.ListN.{get_elem?}
use Rattle.work_pool.specs.Served.{most_workers}
use Rattle.work_pool.specs.declared.line.Numbered.{Numbered}
use Rattle.work_pool.specs.declared.line.Known.{Known}

-- how often a number stands in a list
abbrev pub times : ℕ → List ℕ → ℕ
times n numbers = count_by (λ m. m == n) numbers

module _ {Job : Type 0} where
  -- the jobs with their numbers, from this one
  abbrev pub numbered_from : ℕ → List Job → List (Numbered Job)
  numbered_from n [] = []
  numbered_from n (job ∷ jobs) = record { number = n; job = job } ∷ numbered_from (suc n) jobs

  -- the jobs with their numbers, from 1
  abbrev pub numbered : List Job → List (Numbered Job)
  numbered jobs = numbered_from 1 jobs

  -- the numbers of jobs
  abbrev pub numbers_of : List (Numbered Job) → List ℕ
  numbers_of items = map (λ item. item.number) items

  -- each of these jobs is among those
  abbrev pub AreAmong : List (Numbered Job) → List (Numbered Job) → Type 0
  AreAmong these those = (i : ℕ) (item : Numbered Job) → slice_get these i ≡ Some item → (m : ℕ) × (slice_get those m ≡ Some item)

  -- the token before any other, which has all parts and has put and taken nothing
  abbrev pub knows_all : Known Job
  knows_all = record { parts = most_workers; alone = true; feeds = true; given = []; taken = [] }

  -- a token with one part, which has taken nothing
  abbrev pub one_part : Known Job
  one_part = record { parts = 1; alone = false; feeds = false; given = []; taken = [] }

  -- a token that came back
  abbrev pub spent : Known Job
  spent = record { parts = 0; alone = false; feeds = false; given = []; taken = [] }

  -- what stays where one part is cut off
  abbrev pub without_part : Known Job → Known Job
  without_part v = record { parts = v.parts - 1; alone = false; feeds = v.feeds; given = v.given; taken = v.taken }

  -- with what another knew that came back
  abbrev pub with_other : Known Job → Known Job → Known Job
  with_other v w = record { parts = v.parts + w.parts; alone = v.alone; feeds = v.feeds; given = v.given; taken = v.taken ++ w.taken }

  -- what a token knows that has put one job more
  abbrev pub puts : Known Job → Numbered Job → Known Job
  puts v item = record { parts = v.parts; alone = v.alone; feeds = v.feeds; given = v.given ++ item.job ∷ []; taken = v.taken }

  -- and one that has taken one more
  abbrev pub takes : Known Job → Numbered Job → Known Job
  takes v item = record { parts = v.parts; alone = v.alone; feeds = v.feeds; given = v.given; taken = v.taken ++ item ∷ [] }

  -- what the token at a place knows is so: the one that feeds knows all that was given, one without a part took nothing, what was
  -- taken left the line, and one that is alone took all of it, in that order
  pub record IsKnown (given : List Job) (left : List (Numbered Job)) (feeder tokens place : ℕ) (v : Known Job) : Type 0 where
    pub feeds : v.feeds ≡ true → (place ≡ feeder) × (v.given ≡ given)
    pub idle : v.parts ≡ 0 → v.taken ≡ []
    pub among : AreAmong v.taken left
    pub alone : v.alone ≡ true → (tokens ≡ 1) × (v.taken ≡ left)

  -- The rule. What left the line and what it holds are the jobs that were given, in their order; each that left was taken once
  pub record IsShared (items : List (Numbered Job)) (views : List (Known Job)) : Type 0 where
    pub given : List Job
    pub left : List (Numbered Job)
    pub feeder : ℕ
    pub in_order : left ++ items ≡ numbered given
    pub parts : sum_by (λ v. v.parts) views ≡ most_workers
    pub once : (n : ℕ) → sum_by (λ v. times n (numbers_of v.taken)) views ≡ times n (numbers_of left)
    pub known : (place : ℕ) (v : Known Job) → get_elem? views place ≡ some v → IsKnown given left feeder (length views) place v

  -- all that left the line was taken by this token
  pub record IsAll (v : Known Job) (items : List (Numbered Job)) : Type 0 where
    pub left : List (Numbered Job)
    pub in_order : left ++ items ≡ numbered v.given
    pub once : (n : ℕ) → times n (numbers_of v.taken) ≡ times n (numbers_of left)
    pub among : AreAmong v.taken left
    pub alone : v.alone ≡ true → v.taken ≡ left

  -- what a token learns: the one that feeds and has all parts took all that left the line
  abbrev pub Tells : Known Job → List (Numbered Job) → Type 0
  Tells v items = v.feeds ≡ true → v.parts ≡ most_workers → IsAll v items
