use Rattle.std.proofs.Common.{◌≡◌, ◌+◌, ◌<◌, ◌≤◌, List, Option, Some, None, length, arith, sym, ap, ◌∙◌, subst}
use Rattle.std.specs.Prelude.{is_some}
use Rattle.std.specs.List.{position_from}
use Rattle.std.proofs.lemmas.Bool.{false≢true}
use Rattle.day_model.specs.declared.core_job.Job.{Job}
use Rattle.day_model.specs.CoreStep.{CoreState}
use Rattle.day_model.specs.CoreSound.{IsSound}
use Rattle.day_model.specs.inner.CoreSound.{can_go_on}
use Rattle.day_model.proofs.CoreReady.{idle_none, none_ready, ready_least, ready_may}
use Rattle.day_model.proofs.laws.Places.{one-Some, one-None, position_from-within}
use Rattle.day_model.proofs.core_machine.Core.ready.Goals as goal

pub returns-in_err-at-clause-none : goal.returns-in_err-at-clause-none
returns-in_err-at-clause-none c =
    let s = c.args.self.now in
    let is = c.deref.ensures.value ∙ ap (λ (x : CoreState). x.workers) c.self.view_is in
    let found : position_from (can_go_on s.workers) 0 s.workers ≡ None =
    ap (λ (ws : List (Option Job)). position_from (can_go_on ws) 0 ws) (sym is) ∙ sym c.first_ready.ensures ∙ c.in_err-at.was in (
      λ _. none_ready s (subst (λ (x : CoreState). IsSound x) c.self.view_is c.self.invariant) (one-None (can_go_on s.workers) s.workers found),
      λ _. ap is_some c.from_residual.ensures,
    )

pub overflow_cast-result : goal.overflow_cast-result
overflow_cast-result c =
    let ws = c.deref.result.now in
    let found : position_from (can_go_on ws) 0 ws ≡ Some c.in_ok-at.at = sym c.first_ready.ensures ∙ c.in_ok-at.was in
    let within : (0 ≤ c.in_ok-at.at) × (c.in_ok-at.at < 0 + length ws) = position_from-within _ 0 _ _ found in
    let size : length ws ≡ length c.self.inside.workers.items = ap length c.deref.ensures.value in
    omega (arith, c.self.invariant.few)

pub overflow_add-result : goal.overflow_add-result
overflow_add-result c =
    let ws = c.deref.result.now in
    let found : position_from (can_go_on ws) 0 ws ≡ Some c.in_ok-at.at = sym c.first_ready.ensures ∙ c.in_ok-at.was in
    let within : (0 ≤ c.in_ok-at.at) × (c.in_ok-at.at < 0 + length ws) = position_from-within _ 0 _ _ found in
    let size : length ws ≡ length c.self.inside.workers.items = ap length c.deref.ensures.value in
    omega (arith, c.self.invariant.few)

pub returns-clause-ready : goal.returns-clause-ready
returns-clause-ready c =
    let s = c.args.self.now in
    let is = c.deref.ensures.value ∙ ap (λ (x : CoreState). x.workers) c.self.view_is in
    let found : position_from (can_go_on s.workers) 0 s.workers ≡ Some c.in_ok-at.at =
    ap (λ (ws : List (Option Job)). position_from (can_go_on ws) 0 ws) (sym is) ∙ sym c.first_ready.ensures ∙ c.in_ok-at.was in
    ready_may s (c.in_ok-at.at + 1) (one-Some (can_go_on s.workers) c.in_ok-at.at s.workers found)

pub returns-clause-least : goal.returns-clause-least
returns-clause-least c =
    let s = c.args.self.now in
    let is = c.deref.ensures.value ∙ ap (λ (x : CoreState). x.workers) c.self.view_is in
    let found : position_from (can_go_on s.workers) 0 s.workers ≡ Some c.in_ok-at.at =
    ap (λ (ws : List (Option Job)). position_from (can_go_on ws) 0 ws) (sym is) ∙ sym c.first_ready.ensures ∙ c.in_ok-at.was in
    λ w may. ready_least s (c.in_ok-at.at + 1) w (one-Some (can_go_on s.workers) c.in_ok-at.at s.workers found) may

pub returns-clause-none : goal.returns-clause-none
returns-clause-none c =
    let s = c.args.self.now in
    let is = c.deref.ensures.value ∙ ap (λ (x : CoreState). x.workers) c.self.view_is in
    let found : position_from (can_go_on s.workers) 0 s.workers ≡ Some c.in_ok-at.at =
    ap (λ (ws : List (Option Job)). position_from (can_go_on ws) 0 ws) (sym is) ∙ sym c.first_ready.ensures ∙ c.in_ok-at.was in (
      λ h. absurd (false≢true (sym h)),
      λ idle. absurd (idle_none s (c.in_ok-at.at + 1) idle (one-Some (can_go_on s.workers) c.in_ok-at.at s.workers found)),
    )
