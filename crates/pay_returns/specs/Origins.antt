-- What the code lends of a payment and of notices, as the definitions see it.
use Rattle.std.specs.Prelude.{List, ◌++◌, option_to_list}
use Rattle.day_model.specs.declared.pay.Order.{Order}
use Rattle.pay_returns.specs.declared.notices.Notices.{Notices}
use Rattle.pay_returns.specs.declared.origin.Lent.{Lent}
use Rattle.pay_returns.specs.declared.origin.Origin.{Origin}

-- notices in their order
abbrev pub orders_in : Notices → List Order
orders_in notices = option_to_list notices.credit ++ option_to_list notices.debit

-- what is lent of a payment
abbrev pub lent_in : Lent → Origin
lent_in lent = record { uetr = lent.uetr; related = lent.related.now; legs = lent.legs.now }
