use Rattle.std.proofs.Common.{◌≡◌, ◌+◌, ◌<◌, ◌≤◌, length, Some, None, refl, sym, ap, ◌∙◌, arith}
use Rattle.std.specs.List.{position_from}
use Rattle.day_model.specs.Next.{has_mir}
use Rattle.day_model.proofs.laws.Places.{one-Some, one-None, position_from-within}
use Rattle.day_model.proofs.history.History.find.Goals as goal

pub returns-in_err-at : goal.returns-in_err-at
returns-in_err-at c =
    let test = has_mir c.args.mir.now in
    let found : position_from test 0 c.args.self.now.entries ≡ None =
    ap (position_from test 0) (sym c.entries.ensures.value) ∙ sym c.first_of_mir.ensures ∙ c.in_err-at.was in
    rw (one-None _ _ found) c.from_residual.ensures

pub overflow_cast-result : goal.overflow_cast-result
overflow_cast-result c =
    let test = has_mir c.args.mir.now in
    let found : position_from test 0 c.args.self.now.entries ≡ Some c.in_ok-at.at =
    ap (position_from test 0) (sym c.entries.ensures.value) ∙ sym c.first_of_mir.ensures ∙ c.in_ok-at.was in
    let within : (0 ≤ c.in_ok-at.at) × (c.in_ok-at.at < 0 + length c.args.self.now.entries) = position_from-within _ 0 _ _ found in
    omega (arith, c.entries.ensures.few)

pub overflow_add-result : goal.overflow_add-result
overflow_add-result c =
    let test = has_mir c.args.mir.now in
    let found : position_from test 0 c.args.self.now.entries ≡ Some c.in_ok-at.at =
    ap (position_from test 0) (sym c.entries.ensures.value) ∙ sym c.first_of_mir.ensures ∙ c.in_ok-at.was in
    let within : (0 ≤ c.in_ok-at.at) × (c.in_ok-at.at < 0 + length c.args.self.now.entries) = position_from-within _ 0 _ _ found in
    omega (arith, c.entries.ensures.few)

pub returns : goal.returns
returns c =
    let test = has_mir c.args.mir.now in
    let found : position_from test 0 c.args.self.now.entries ≡ Some c.in_ok-at.at =
    ap (position_from test 0) (sym c.entries.ensures.value) ∙ sym c.first_of_mir.ensures ∙ c.in_ok-at.was in
    rw (one-Some _ _ _ found) refl
