use Rattle.std.proofs.Common.{subst, sym, ◌∙◌}
use Rattle.fin_layout.specs.inner.Order.{Rising}
use Rattle.fin_layout.proofs.laws.InOrder.{places-rise}
use Rattle.fin_layout.proofs.structure.fill_structure.Goals as goal

pub missing_in_turn-requires : goal.missing_in_turn-requires
missing_in_turn-requires c = subst (Rising c.args.order.now 0) (sym (c.as_slice-places.ensures ∙ c.in_ok-put_places.ensures.value)) (places-rise c.args.order.now 0 c.args.fields.now)
