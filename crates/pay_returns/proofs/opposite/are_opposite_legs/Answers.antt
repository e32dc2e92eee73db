use Rattle.std.proofs.Common.{◌≡◌, List, Option, Some, None, false, map, sym, ap, ◌∙◌}
use Rattle.std.specs.Option.{option_map_or}
use Rattle.day_model.specs.declared.pay.Leg.{Leg}
use Rattle.day_model.specs.declared.pay.Side.TheVariants.{Credit, Debit}
use Rattle.pay_returns.specs.Equal.{are_all, is_leg}
use Rattle.pay_returns.specs.Opposite.{on_side, opposite_leg}
use Rattle.pay_returns.specs.inner.Texts.{after_all}
use Rattle.pay_returns.proofs.Comparing.{by-sides}
use Rattle.pay_returns.proofs.opposite.are_opposite_legs.Goals as goal

pub returns-in-Some : goal.returns-in-Some
returns-in-Some c =
    let place = c.args.place in
    let of = c.args.of.now in
    let found : after_all is_leg (map (opposite_leg place) (on_side Credit of)) c.args.legs.now ≡ Some c.in-Some.rest.now = sym c.in-Some.ensures in
    c.are_opposites.ensures
    ∙ sym (by-sides place c.args.legs.now of
    ∙ ap (λ (o : Option (List Leg)). option_map_or (λ rest. are_all is_leg rest (map (opposite_leg place) (on_side Debit of))) o false) found)

pub returns-in-None : goal.returns-in-None
returns-in-None c =
    let place = c.args.place in
    let of = c.args.of.now in
    let none : after_all is_leg (map (opposite_leg place) (on_side Credit of)) c.args.legs.now ≡ None = sym c.in-None.ensures in
    sym (by-sides place c.args.legs.now of
    ∙ ap (λ (o : Option (List Leg)). option_map_or (λ rest. are_all is_leg rest (map (opposite_leg place) (on_side Debit of))) o false) none)
