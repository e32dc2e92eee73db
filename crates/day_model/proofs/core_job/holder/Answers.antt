use Rattle.std.proofs.Common.{◌≡◌, ◌+◌, ◌<◌, ◌≤◌, length, Some, None, sym, ◌∙◌, arith, refl}
use Rattle.std.specs.List.{position_from}
use Rattle.day_model.specs.CoreStep.{has_held}
use Rattle.day_model.proofs.laws.Places.{one-Some, one-None, position_from-within}
use Rattle.day_model.proofs.core_job.holder.Goals as goal

pub returns-in_err-at : goal.returns-in_err-at
returns-in_err-at c =
    let found : position_from (has_held c.args.n) 0 c.args.workers.now ≡ None = sym c.first_with.ensures ∙ c.in_err-at.was in
    rw (one-None _ _ found) c.from_residual.ensures

pub overflow_cast-result : goal.overflow_cast-result
overflow_cast-result c =
    let found : position_from (has_held c.args.n) 0 c.args.workers.now ≡ Some c.in_ok-at.at = sym c.first_with.ensures ∙ c.in_ok-at.was in
    let within : (0 ≤ c.in_ok-at.at) × (c.in_ok-at.at < 0 + length c.args.workers.now) = position_from-within _ 0 _ _ found in
    omega (arith, c.requires)

pub overflow_add-result : goal.overflow_add-result
overflow_add-result c =
    let found : position_from (has_held c.args.n) 0 c.args.workers.now ≡ Some c.in_ok-at.at = sym c.first_with.ensures ∙ c.in_ok-at.was in
    let within : (0 ≤ c.in_ok-at.at) × (c.in_ok-at.at < 0 + length c.args.workers.now) = position_from-within _ 0 _ _ found in
    omega (arith, c.requires)

pub returns : goal.returns
returns c =
    let found : position_from (has_held c.args.n) 0 c.args.workers.now ≡ Some c.in_ok-at.at = sym c.first_with.ensures ∙ c.in_ok-at.was in
    rw (one-Some _ _ _ found) refl
