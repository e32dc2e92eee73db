use Rattle.std.proofs.Common.{List, ap, ◌∙◌}
use Rattle.day_model.specs.declared.pay.Leg.{Leg}
use Rattle.day_model.specs.declared.pay.Order.{Order}
use Rattle.pay_returns.specs.Equal.{are_all, is_leg, is_order}
use Rattle.pay_returns.specs.Opposite.{opposite_legs}
use Rattle.pay_returns.specs.Origins.{lent_in, orders_in}
use Rattle.pay_returns.proofs.Comparing.{other-legs, same-orders, unstamped}
use Rattle.pay_returns.proofs.opposite.is_opposite.Goals as goal

pub returns-then-not-is_stamped : goal.returns-then-not-is_stamped
returns-then-not-is_stamped c = λ chart home told.
    unstamped chart c.args.home.now (lent_in c.args.origin) c.args.place c.args.pay.now home c.is_stamped.result c.is_stamped.ensures c.if-not-is_stamped.true

pub returns-then-not-are_opposite_legs : goal.returns-then-not-are_opposite_legs
returns-then-not-are_opposite_legs c = λ chart home told.
    other-legs chart c.args.home.now (lent_in c.args.origin) c.args.place c.args.pay.now home c.is_stamped.result c.are_opposite_legs.result c.is_stamped.ensures c.if-not-is_stamped.false
    (c.are_opposite_legs.ensures ∙ ap (λ (ls : List Leg). are_all is_leg ls (opposite_legs c.args.place (lent_in c.args.origin).legs)) c.as_slice.ensures) c.if-not-are_opposite_legs.true

pub returns : goal.returns
returns c = λ chart home told.
    same-orders chart c.args.home.now (lent_in c.args.origin) c.args.place c.args.pay.now home c.is_stamped.result c.are_opposite_legs.result c.are_notices.result (orders_in c.args.notices) c.is_stamped.ensures c.if-not-is_stamped.false
    (c.are_opposite_legs.ensures ∙ ap (λ (ls : List Leg). are_all is_leg ls (opposite_legs c.args.place (lent_in c.args.origin).legs)) c.as_slice.ensures) c.if-not-are_opposite_legs.false
    told (c.are_notices.ensures ∙ ap (λ (os : List Order). are_all is_order os (orders_in c.args.notices)) c.as_slice-2.ensures)
