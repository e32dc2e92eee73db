use Rattle.std.proofs.Common.{[], List, Option, false, map, sym, ap, ◌∙◌}
use Rattle.std.specs.Option.{option_map_or}
use Rattle.day_model.specs.declared.pay.Leg.{Leg}
use Rattle.pay_returns.specs.Equal.{are_all, is_leg}
use Rattle.pay_returns.specs.Opposite.{on_side, opposite_leg}
use Rattle.pay_returns.proofs.Pieces.{front-alone, none-more}
use Rattle.pay_returns.proofs.opposite.are_opposites.Goals as goal

pub returns-in-Some : goal.returns-in-Some
returns-in-Some c =
    c.is_empty.ensures ∙ sym (none-more is_leg c.in-Some.rest.now)
    ∙ ap (λ (o : Option (List Leg)). option_map_or (λ rest. are_all is_leg rest []) o false) c.in-Some.ensures
    ∙ sym (front-alone is_leg (map (opposite_leg c.args.place) (on_side c.args.side c.args.of.now)) c.args.legs.now)

pub returns-in-None : goal.returns-in-None
returns-in-None c =
    ap (λ (o : Option (List Leg)). option_map_or (λ rest. are_all is_leg rest []) o false) c.in-None.ensures
    ∙ sym (front-alone is_leg (map (opposite_leg c.args.place) (on_side c.args.side c.args.of.now)) c.args.legs.now)
