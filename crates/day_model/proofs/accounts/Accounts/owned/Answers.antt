use Rattle.std.proofs.Common.{◌≡◌, ◌+◌, ◌<◌, ◌≤◌, length, Some, None, List, refl, subst, sym, ap, ◌∙◌, arith}
use Rattle.std.specs.List.{position_from}
use Rattle.day_model.specs.declared.account.Account.{Account}
use Rattle.day_model.specs.Chart.{accounts_of, is_owned}
use Rattle.day_model.proofs.laws.Places.{one-Some, one-None, position_from-within}
use Rattle.day_model.proofs.accounts.Accounts.owned.Goals as goal

pub returns-in_err-at : goal.returns-in_err-at
returns-in_err-at c =
    let test = is_owned c.args.kind c.args.head.now c.args.ccy c.args.decimals in
    let found : position_from test 0 (accounts_of c.args.self.now) ≡ None =
    ap (position_from test 0) (sym (c.self.invariant.rows_are ∙ ap accounts_of c.self.view_is)) ∙ sym c.owned.ensures ∙ c.in_err-at.was in
    rw (one-None _ _ found) c.from_residual.ensures

pub overflow_cast-result : goal.overflow_cast-result
overflow_cast-result c =
    let test = is_owned c.args.kind c.args.head.now c.args.ccy c.args.decimals in
    let found : position_from test 0 c.self.inside.rows ≡ Some c.in_ok-at.at = sym c.owned.ensures ∙ c.in_ok-at.was in
    let within : (0 ≤ c.in_ok-at.at) × (c.in_ok-at.at < 0 + length c.self.inside.rows) = position_from-within _ 0 _ _ found in
    let few : length c.self.inside.rows ≤ 1000 =
    subst (λ (accounts : List Account). length accounts ≤ 1000) (sym c.self.invariant.rows_are) c.self.invariant.sound.rows.apart.few in
    omega (arith, few)

pub overflow_add-result : goal.overflow_add-result
overflow_add-result c =
    let test = is_owned c.args.kind c.args.head.now c.args.ccy c.args.decimals in
    let found : position_from test 0 c.self.inside.rows ≡ Some c.in_ok-at.at = sym c.owned.ensures ∙ c.in_ok-at.was in
    let within : (0 ≤ c.in_ok-at.at) × (c.in_ok-at.at < 0 + length c.self.inside.rows) = position_from-within _ 0 _ _ found in
    let few : length c.self.inside.rows ≤ 1000 =
    subst (λ (accounts : List Account). length accounts ≤ 1000) (sym c.self.invariant.rows_are) c.self.invariant.sound.rows.apart.few in
    omega (arith, few)

pub returns : goal.returns
returns c =
    let test = is_owned c.args.kind c.args.head.now c.args.ccy c.args.decimals in
    let found : position_from test 0 (accounts_of c.args.self.now) ≡ Some c.in_ok-at.at =
    ap (position_from test 0) (sym (c.self.invariant.rows_are ∙ ap accounts_of c.self.view_is)) ∙ sym c.owned.ensures ∙ c.in_ok-at.was in
    rw (one-Some _ _ _ found) refl
