-- A worker that serves jobs from the line.
use Rattle.std.specs.Prelude.{◌≡◌, ℕ, ◌<◌, Bool, true, Option, List, [], ◌∷◌, ◌++◌, length, Result, IfOk}
use Rattle.crossbeam_queue.specs.declared.array_queue.Slotted.{Slotted}
use Rattle.crossbeam_queue.specs.declared.array_queue.Doing.{Doing}
use Rattle.crossbeam_queue.specs.Passes.{view, IsPassOf}
use Rattle.work_pool.specs.declared.line.Numbered.{Numbered}
use Rattle.work_pool.specs.declared.line.Known.{Known}
use Rattle.work_pool.specs.declared.server.Answer.{Answer}
use Rattle.work_pool.specs.declared.server.Server.{Server}

-- the pass after comes of the pass before by the serves of these jobs, one after another, each with its answer
abbrev pub ServedItems : {Pass Job Reply : Type 0} → (Pass → Job → Pass → Reply → Type 0) → List (Numbered Job) → List (Answer Reply) → Pass → Pass → Type 0
ServedItems serves [] [] before after = after ≡ before
ServedItems serves [] (answer ∷ answers) before after = ⊥
ServedItems serves (item ∷ items) [] before after = ⊥
ServedItems {Pass} serves (item ∷ items) (answer ∷ answers) before after =
    (next : Pass) × (answer.number ≡ item.number) × serves before item.job next answer.reply × ServedItems serves items answers next after

module _ {Pass Job Reply : Type 0} where
  -- the desk takes its pass, and it may take jobs from the line
  pub record IsReady {Q A : Type 0} (takes : Pass → Type 0) (line : Slotted (Option (Numbered Job)) (Doing (Numbered Job) (Known Job)) Q A) (server : Server Pass Job Reply) : Type 0 where
    pub taken : takes server.work.pass
    pub of_line : IsPassOf line server.token
    pub part : 0 < (view server.token).parts

  -- it took some jobs more and served each, one after another
  pub record Goes (serves : Pass → Job → Pass → Reply → Type 0) (old new : Server Pass Job Reply) : Type 0 where
    pub more : List (Numbered Job)
    pub taken : (view new.token).taken ≡ (view old.token).taken ++ more
    pub served : (before : Pass) (items : List (Numbered Job)) → ServedItems serves items old.work.answers.items before old.work.pass → ServedItems serves (items ++ more) new.work.answers.items before new.work.pass
    pub parts : (view new.token).parts ≡ (view old.token).parts
    pub alone : (view new.token).alone ≡ (view old.token).alone
    pub feeds : (view new.token).feeds ≡ (view old.token).feeds

  -- it put no job into the line
  abbrev pub PutsNone : Server Pass Job Reply → Server Pass Job Reply → Type 0
  PutsNone old new = (view new.token).given ≡ (view old.token).given

  -- it put this job into the line
  abbrev pub PutsOne : Job → Server Pass Job Reply → Server Pass Job Reply → Type 0
  PutsOne job old new = (view new.token).given ≡ (view old.token).given ++ job ∷ []

-- the jobs that the feed gave more are those put into the line, and perhaps one more; where there is a count, it is theirs, there
-- is none more, and the feed has ended
pub record HasFed {Job E : Type 0} (old new : List Job) (ended : Bool) (put : List Job) (result : Result ℕ E) : Type 0 where
  pub lost : List Job
  pub given : new ≡ old ++ (put ++ lost)
  pub whole : IfOk result (λ count. (lost ≡ []) × (count ≡ length put) × (ended ≡ true))
