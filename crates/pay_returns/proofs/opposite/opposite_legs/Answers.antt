use Rattle.day_model.specs.declared.pay.Leg.{Leg}
use Rattle.pay_returns.specs.References.{IsByteQuote}
use Rattle.pay_returns.proofs.Sided.{both-sides-hold}
use Rattle.pay_returns.proofs.opposite.opposite_legs.Goals as goal

pub returns-clause-bytes : goal.returns-clause-bytes
returns-clause-bytes c = both-sides-hold (λ (leg : Leg). IsByteQuote leg.quote) c.args.legs.now c.in_ok-push_opposites.ensures.bytes c.in_ok-push_opposites-2.ensures.bytes
