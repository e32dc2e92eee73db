-- Workers at the line: one leads and feeds it, the others help.
use Rattle.std.specs.Prelude.{◌≡◌, ℕ, ◌+◌, true, false, Option, List, [], ◌∷◌, ◌++◌, map, length, Some, slice_get}
use Rattle.crossbeam_queue.specs.declared.array_queue.Slotted.{Slotted}
use Rattle.crossbeam_queue.specs.declared.array_queue.Doing.{Doing}
use Rattle.crossbeam_queue.specs.Passes.{view, IsPassOf}
use Rattle.work_pool.specs.Served.{most_workers}
use Rattle.work_pool.specs.inner.Line.{one_part}
use Rattle.work_pool.specs.inner.Serving.{Goes, IsReady}
use Rattle.work_pool.specs.declared.line.Numbered.{Numbered}
use Rattle.work_pool.specs.declared.line.Known.{Known}
use Rattle.work_pool.specs.declared.server.Server.{Server}

-- all items of these lists, one list after another
abbrev pub joined : {A : Type 0} → List (List A) → List A
joined [] = []
joined (xs ∷ lists) = xs ++ joined lists

module _ {Pass Job Reply : Type 0} where
  -- what each worker took from the line
  abbrev pub taken_of : List (Server Pass Job Reply) → List (List (Numbered Job))
  taken_of servers = map (λ (server : Server Pass Job Reply). (view server.token).taken) servers

  -- what a token knows once these workers' tokens came back
  pub record TakesBack (helpers : List (Server Pass Job Reply)) (old new : Known Job) : Type 0 where
    pub taken : new.taken ≡ old.taken ++ joined (taken_of helpers)
    pub parts : new.parts ≡ old.parts + length helpers
    pub alone : new.alone ≡ old.alone
    pub feeds : new.feeds ≡ old.feeds
    pub given : new.given ≡ old.given

  -- each of these workers went on
  pub record AllGo (serves : Pass → Job → Pass → Reply → Type 0) (old new : List (Server Pass Job Reply)) : Type 0 where
    pub count : length new ≡ length old
    pub each : (k : ℕ) (before after : Server Pass Job Reply) → slice_get old k ≡ Some before → slice_get new k ≡ Some after → Goes serves before after

  module _ {Q A : Type 0} (line : Slotted (Option (Numbered Job)) (Doing (Numbered Job) (Known Job)) Q A) where
    -- it has all parts but those of so many others, may feed the line, and has done nothing
    pub record IsLeader (others : ℕ) (server : Server Pass Job Reply) : Type 0 where
      pub of_line : IsPassOf line server.token
      pub parts : (view server.token).parts + others ≡ most_workers
      pub alone : others ≡ 0 → (view server.token).alone ≡ true
      pub feeds : (view server.token).feeds ≡ true
      pub given : (view server.token).given ≡ []
      pub taken : (view server.token).taken ≡ []
      pub answers : server.work.answers.items ≡ []

    -- each has one part, and has done nothing
    abbrev pub AreHelpers : List (Server Pass Job Reply) → Type 0
    AreHelpers servers = (k : ℕ) (server : Server Pass Job Reply) → slice_get servers k ≡ Some server
        → IsPassOf line server.token × (view server.token ≡ one_part) × (server.work.answers.items ≡ [])

    -- each has one part, and feeds nothing
    abbrev pub AreHelping : List (Server Pass Job Reply) → Type 0
    AreHelping servers = (k : ℕ) (server : Server Pass Job Reply) → slice_get servers k ≡ Some server
        → IsPassOf line server.token × ((view server.token).parts ≡ 1) × ((view server.token).feeds ≡ false)

    -- each is ready to serve
    abbrev pub AreReady : (Pass → Type 0) → List (Server Pass Job Reply) → Type 0
    AreReady takes servers = (k : ℕ) (server : Server Pass Job Reply) → slice_get servers k ≡ Some server → IsReady takes line server
