-- The jobs of a worker, with the replies so far.
use Rattle.std.specs.Prelude.{List, [], ◌∷◌, Option, None, Some}

-- a job, and its reply once it was served
pub record Task (Job Reply : Type 0) : Type 0 where
  pub job : Job
  pub reply : Option Reply

-- jobs, of which the first have these replies
abbrev pub tasks_of : {Job Reply : Type 0} → List Job → List Reply → List (Task Job Reply)
tasks_of [] replies = []
tasks_of (job ∷ jobs) [] = record { job = job; reply = None } ∷ tasks_of jobs []
tasks_of (job ∷ jobs) (reply ∷ replies) = record { job = job; reply = Some reply } ∷ tasks_of jobs replies

-- a job that isn't served yet
abbrev pub unserved : {Job Reply : Type 0} → Job → Task Job Reply
unserved job = record { job = job; reply = None }
