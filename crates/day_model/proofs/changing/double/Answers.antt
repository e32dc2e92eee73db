use Rattle.std.proofs.Common.{◌≡◌, ◌+◌, ◌<◌, ◌≤◌, length, Some, None, refl, sym, ◌∙◌, arith}
use Rattle.std.specs.List.{position_from}
use Rattle.day_model.specs.RowTests.{meets}
use Rattle.day_model.proofs.laws.Places.{one-Some, one-None, position_from-within}
use Rattle.day_model.proofs.changing.double.Goals as goal

pub returns-in_err-at : goal.returns-in_err-at
returns-in_err-at c =
    let found : position_from (meets c.args.new.now) 0 c.args.accounts.now ≡ None = sym c.first_met.ensures ∙ c.in_err-at.was in
    rw (one-None _ _ found) c.from_residual.ensures

pub overflow_cast-result : goal.overflow_cast-result
overflow_cast-result c =
    let found : position_from (meets c.args.new.now) 0 c.args.accounts.now ≡ Some c.in_ok-at.at = sym c.first_met.ensures ∙ c.in_ok-at.was in
    let within : (0 ≤ c.in_ok-at.at) × (c.in_ok-at.at < 0 + length c.args.accounts.now) = position_from-within _ 0 _ _ found in
    omega (arith, c.requires)

pub overflow_add-result : goal.overflow_add-result
overflow_add-result c =
    let found : position_from (meets c.args.new.now) 0 c.args.accounts.now ≡ Some c.in_ok-at.at = sym c.first_met.ensures ∙ c.in_ok-at.was in
    let within : (0 ≤ c.in_ok-at.at) × (c.in_ok-at.at < 0 + length c.args.accounts.now) = position_from-within _ 0 _ _ found in
    omega (arith, c.requires)

pub returns : goal.returns
returns c =
    let found : position_from (meets c.args.new.now) 0 c.args.accounts.now ≡ Some c.in_ok-at.at = sym c.first_met.ensures ∙ c.in_ok-at.was in
    rw (one-Some _ _ _ found) refl
