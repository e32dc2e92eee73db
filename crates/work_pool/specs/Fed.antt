-- What is made of the jobs that a feed gives. Jobs have the numbers from 1 in the order of the feed.
use Rattle.std.specs.Prelude.{◌≡◌, ℕ, ◌+◌, ◌-◌, ◌≤◌, Bool, true, Option, Some, List, [], ◌∷◌, length, option_and_then, slice_get, Result, IfOk}
use Rattle.std.specs.Global.{Vec}
use Rattle.work_pool.specs.declared.server.Answer.{Answer}

-- the most jobs that wait in the line
abbrev pub most_depth : ℕ
most_depth = 1024

-- the answer at place i of the list of the pass at place k
abbrev pub answer_in : {Reply : Type 0} → List (List (Answer Reply)) → ℕ → ℕ → Option (Answer Reply)
answer_in lists k i = option_and_then (λ list. slice_get list i) (slice_get lists k)

-- the pass after comes of the pass before by the serves of the jobs with these numbers, one after another, each with its reply
abbrev pub FedWith : {Pass Job Reply : Type 0} → (Pass → Job → Pass → Reply → Type 0) → List Job → List (Answer Reply) → Pass → Pass → Type 0
FedWith serves jobs [] before after = after ≡ before
FedWith {Pass} {Job} serves jobs (answer ∷ answers) before after =
    (job : Job) × (next : Pass) × (slice_get jobs (answer.number - 1) ≡ Some job) × serves before job next answer.reply × FedWith serves jobs answers next after

-- no number stands twice
abbrev pub AreApart : {Reply : Type 0} → List (List (Answer Reply)) → Type 0
AreApart {Reply} lists =
    (k i l j : ℕ) (a b : Answer Reply) → answer_in lists k i ≡ Some a → answer_in lists l j ≡ Some b → a.number ≡ b.number → (k ≡ l) × (i ≡ j)

-- each number is one of so many jobs
abbrev pub AreWithin : {Reply : Type 0} → List (List (Answer Reply)) → ℕ → Type 0
AreWithin {Reply} lists count = (k i : ℕ) (a : Answer Reply) → answer_in lists k i ≡ Some a → (1 ≤ a.number) × (a.number ≤ count)

-- the number of each job stands in a list
abbrev pub AreWhole : {Reply : Type 0} → List (List (Answer Reply)) → ℕ → Type 0
AreWhole {Reply} lists count = (n : ℕ) → 1 ≤ n → n ≤ count → (k : ℕ) × (i : ℕ) × (a : Answer Reply) × (answer_in lists k i ≡ Some a) × (a.number ≡ n)

-- under each job's number stands the reply of its serve
abbrev pub AreReplies : {Reply : Type 0} → List (List (Answer Reply)) → List Reply → Type 0
AreReplies {Reply} lists replies = (k i : ℕ) (a : Answer Reply) → answer_in lists k i ≡ Some a → slice_get replies (a.number - 1) ≡ Some a.reply

-- the feed has ended, each job was served, and there is a reply for each, that of its serve
pub record AreTold {Reply : Type 0} (lists : List (List (Answer Reply))) (jobs : ℕ) (ended : Bool) (replies : List Reply) : Type 0 where
  pub at_end : ended ≡ true
  pub replies_count : length replies ≡ jobs
  pub every_job : AreWhole lists jobs
  pub replied : AreReplies lists replies

-- Each pass has the list of the numbers of the jobs that it served, each with its reply, and no number stands twice in them. The
-- passes after, at their places, come of those before by the serves of their lists
pub record AreFed {Pass Job Reply E : Type 0} (serves : Pass → Job → Pass → Reply → Type 0) (before : List Pass) (jobs : List Job) (ended : Bool) (after : List Pass) (replies : Result (Vec Reply) E) : Type 0 where
  pub lists : List (List (Answer Reply))
  pub one_each : length lists ≡ length before
  pub passes : length after ≡ length before
  pub jobs_only : AreWithin lists (length jobs)
  pub apart : AreApart lists
  pub in_turn : length before ≡ 1 → (k i : ℕ) (a : Answer Reply) → answer_in lists k i ≡ Some a → a.number ≡ i + 1
  pub served : (k : ℕ) (list : List (Answer Reply)) (pass next : Pass) → slice_get lists k ≡ Some list → slice_get before k ≡ Some pass → slice_get after k ≡ Some next → FedWith serves jobs list pass next
  pub told : IfOk replies (λ r. AreTold lists (length jobs) ended r.items)
