-- What holds of a core after every list of events.
use Rattle.std.specs.Prelude.{ℕ, ◌||◌, Bool, true, false, List, Option, Some, None, is_some, is_none}
use Rattle.day_model.specs.declared.core_job.Job.{Job}
use Rattle.day_model.specs.CoreStep.{holder_of, wanted_by}

-- nobody holds the account, or there is none to hold
abbrev pub is_free : List (Option Job) → Option ℕ → Bool
is_free workers (Some n) = is_none (holder_of workers n)
is_free workers None = true

-- a worker that may go on: its job is committed, or the account that it wants is free, or it wants none
abbrev pub can_go_on : List (Option Job) → Option Job → Bool
can_go_on workers (Some job) = is_some job.mark || is_free workers (wanted_by job)
can_go_on workers None = false
