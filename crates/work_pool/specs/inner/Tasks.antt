-- Jobs on their way from the list of jobs over the workers' hands to the list of replies.
use Rattle.std.specs.Prelude.{◌≡◌, ℕ, ◌+◌, ◌*◌, List, [], ◌∷◌, Option, Some, IsSome, length, slice_get, option_map, option_and_then, map}
use Rattle.work_pool.specs.declared.seat.Seat.{Seat}
use Rattle.work_pool.specs.inner.Hands.{Task, unserved}

-- the reply to the job at a place, if it was served
abbrev pub reply_of : {Job Reply : Type 0} → List (Task Job Reply) → ℕ → Option Reply
reply_of hand at = option_and_then (λ task. task.reply) (slice_get hand at)

-- the reply to the job at place r of the hand at seat k
abbrev pub reply_in : {Pass Job Reply : Type 0} → List (Seat Pass Job Reply) → ℕ → ℕ → Option Reply
reply_in seats k r = option_and_then (λ seat. reply_of seat.hand r) (slice_get seats k)

-- each task has a reply
abbrev pub AreReplied : {Job Reply : Type 0} → List (Task Job Reply) → Type 0
AreReplied {Job} {Reply} hand = (r : ℕ) (task : Task Job Reply) → slice_get hand r ≡ Some task → IsSome task.reply

-- the task at place r of the hand at seat k, if there is one
abbrev pub task_in : {Pass Job Reply : Type 0} → List (Seat Pass Job Reply) → ℕ → ℕ → Option (Task Job Reply)
task_in seats k r = option_and_then (λ seat. slice_get seat.hand r) (slice_get seats k)

-- the job at place r * lists + k is the one at place r of list k, and there are no others
pub record AreInLists {Job : Type 0} (lists : ℕ) (jobs : List Job) (dealt : List (List Job)) : Type 0 where
  pub lists_count : length dealt ≡ lists
  pub at : (k r : ℕ) (list : List Job) → slice_get dealt k ≡ Some list → slice_get list r ≡ slice_get jobs (r * lists + k)

-- the job at place r * hands + k is the one at place r of hand k, and there are no others
pub record AreInHands {Job Reply : Type 0} (hands : ℕ) (jobs : List Job) (dealt : List (List (Task Job Reply))) : Type 0 where
  pub hands_count : length dealt ≡ hands
  pub at : (k r : ℕ) (hand : List (Task Job Reply)) → slice_get dealt k ≡ Some hand → slice_get hand r ≡ option_map unserved (slice_get jobs (r * hands + k))

-- a hand's jobs were served one after another: the pass went on from serve to serve, and each task has the reply of its serve now
abbrev pub ServedHand : {Pass Job Reply : Type 0} → (Pass → Job → Pass → Reply → Type 0) → Pass → List (Task Job Reply) → Pass → List (Task Job Reply) → Type 0
ServedHand serves before [] after [] = after ≡ before
ServedHand serves before [] after (new ∷ news) = ⊥
ServedHand serves before (old ∷ olds) after [] = ⊥
ServedHand {Pass} {Job} {Reply} serves before (old ∷ olds) after (new ∷ news) =
    (new.job ≡ old.job)
    × (reply : Reply) × (new.reply ≡ Some reply)
    × (next : Pass) × serves before old.job next reply
    × ServedHand serves next olds after news

-- a seat for each pass, with the hand at the same place
pub record AreSeated {Pass Job Reply : Type 0} (passes : List Pass) (hands : List (List (Task Job Reply))) (seats : List (Seat Pass Job Reply)) : Type 0 where
  pub passes_are : map (λ seat. seat.pass) seats ≡ passes
  pub hands_are : map (λ seat. seat.hand) seats ≡ hands

-- the hand at each seat was served
pub record ServedSeats {Pass Job Reply : Type 0} (serves : Pass → Job → Pass → Reply → Type 0) (old new : List (Seat Pass Job Reply)) : Type 0 where
  pub count : length new ≡ length old
  pub served : (k : ℕ) (before after : Seat Pass Job Reply) → slice_get old k ≡ Some before → slice_get new k ≡ Some after → ServedHand serves before.pass before.hand after.pass after.hand
