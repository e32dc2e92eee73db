-- The end of a run over a feed.
use Rattle.std.specs.Prelude.{◌≡◌, ℕ, List, [], ◌++◌, Result, IfOk, Ok}
use Rattle.crossbeam_queue.specs.Passes.{view}
use Rattle.work_pool.specs.inner.Line.{IsAll}
use Rattle.work_pool.specs.inner.Seating.{joined, taken_of}
use Rattle.work_pool.specs.inner.Serving.{ServedItems}
use Rattle.work_pool.specs.declared.line.Numbered.{Numbered}
use Rattle.work_pool.specs.declared.server.Server.{Server}

-- the helpers' tokens came back to the leader's, it served some jobs more, and it took with them all that left the line; where
-- there is a count, it is that of the jobs that were put into the line, and none is left there
pub record HasEnded {Pass Job Reply E : Type 0} (serves : Pass → Job → Pass → Reply → Type 0) (helpers : List (Server Pass Job Reply)) (old new : Server Pass Job Reply) (fed result : Result ℕ E) : Type 0 where
  pub more : List (Numbered Job)
  pub items : List (Numbered Job)
  pub all : IsAll (view new.token) items
  pub taken : (view new.token).taken ≡ ((view old.token).taken ++ joined (taken_of helpers)) ++ more
  pub served : (before : Pass) (its : List (Numbered Job)) → ServedItems serves its old.work.answers.items before old.work.pass → ServedItems serves (its ++ more) new.work.answers.items before new.work.pass
  pub alone : (view new.token).alone ≡ (view old.token).alone
  pub given : (view new.token).given ≡ (view old.token).given
  pub whole : IfOk result (λ count. (fed ≡ Ok count) × (items ≡ []))
