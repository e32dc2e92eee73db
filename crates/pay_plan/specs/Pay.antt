-- The legs of a pay.
use Rattle.std.specs.Prelude.{◌-◌, List, [], ◌∷◌, Option, Some, None}
use Rattle.corr_money.specs.declared.amount.Minor.{Minor}
use Rattle.day_model.specs.declared.pay.Leg.{Leg}
use Rattle.day_model.specs.declared.pay.Quote.{Quote}
use Rattle.day_model.specs.declared.pay.Quote.TheVariants.{Ours, Theirs}
use Rattle.day_model.specs.declared.pay.Side.TheVariants.{Credit, Debit}
use Rattle.pay_plan.specs.declared.charging.Charge.{Charge}
use Rattle.pay_plan.specs.declared.charging.Charged.{Charged}
use Rattle.pay_plan.specs.Asked.{Asked}
use Rattle.pay_plan.specs.declared.way.Way.{Way}
use Rattle.pay_plan.specs.declared.way.Way.TheVariants.{Covered, Credited, Ends, Onward, Passed}

-- what the credit quotes: the last reference where the payment ends here, else the order that goes to the account's bank
abbrev pub quote_of : Way → Asked → Quote
quote_of Ends asked = Theirs asked.last_reference
quote_of Onward asked = Ours 1
quote_of Covered asked = Ours 2
quote_of Credited asked = Theirs asked.last_reference
quote_of Passed asked = Ours 1

-- what is left of an amount when a charge is taken out of it
abbrev pub rest_after : Minor → Option Charge → Minor
rest_after amount None = amount
rest_after amount (Some charge) = record { 0 = amount.0 - charge.amount.0 }

-- the credit of a charge, which quotes field 20
abbrev pub charge_legs : Asked → Option Charge → List Leg
charge_legs asked None = []
charge_legs asked (Some charge) = record { account = charge.account; side = Credit; amount = charge.amount; quote = Theirs asked.reference } ∷ []

-- a debit of the whole amount, which quotes field 20, a credit of what a charge leaves, and the charge
abbrev pub legs_of : Way → Asked → Charged → List Leg
legs_of way asked charged =
    record { account = charged.routed.debit; side = Debit; amount = asked.amount.minor; quote = Theirs asked.reference }
    ∷ record { account = charged.routed.credit; side = Credit; amount = rest_after asked.amount.minor charged.charge; quote = quote_of way asked }
    ∷ charge_legs asked charged.charge
