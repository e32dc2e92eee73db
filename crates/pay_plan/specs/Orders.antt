-- The messages that a pay asks for.
use Rattle.std.specs.Prelude.{ℕ, ◌==◌, Bool, true, List, [], ◌∷◌, ◌++◌, Option, None, unwrap_or, if◌then◌else◌}
use Rattle.corr_ids.specs.declared.bic.Bic.{Bic}
use Rattle.day_model.specs.declared.account.Account.{Account}
use Rattle.day_model.specs.declared.pay.Order.{Order}
use Rattle.day_model.specs.declared.pay.Order.TheVariants as order
use Rattle.day_model.specs.declared.pay.Skip.{Skip}
use Rattle.day_model.specs.declared.pay.Skip.TheVariants.{Both, Keep, Mid}
use Rattle.corr_ids.specs.Kinds.{vostro}
use Rattle.routing.specs.Route.{is_bank}
use Rattle.routing.specs.declared.target.Target.{Target}
use Rattle.routing.specs.declared.target.Target.TheVariants.{Bank}
use Rattle.pay_plan.specs.declared.way.Way.{Way}
use Rattle.pay_plan.specs.declared.way.Way.TheVariants.{Covered, Credited, Ends, Onward, Passed}

-- the next bank: the bank between, else the target
abbrev pub receiver : Bic → Option Bic → Bic
receiver bank via = unwrap_or via bank

-- what an order leaves out of 56a and 57a, by the field that names the target and whether the order goes to the target
abbrev pub skip_of : ℕ → Bool → Skip
skip_of field is_target =
    if field == 56 then (if is_target then Mid else Keep)
    else if field == 57 then (if is_target then Both else Mid)
    else Both

-- the orders to the next bank
abbrev pub next_orders : Way → Bic → ℕ → Option Bic → List Order
next_orders Ends bank field via = []
next_orders Onward bank field via = order.Transfer (receiver bank via) (skip_of field (is_bank (receiver bank via) bank)) None ∷ []
next_orders Covered bank field via = order.Transfer bank (skip_of field true) via ∷ order.Cover (receiver bank via) bank (skip_of field true) ∷ []
next_orders Credited bank field via = order.Credit bank 2 ∷ []
next_orders Passed bank field via = order.Pass (receiver bank via) (skip_of field (is_bank (receiver bank via) bank)) ∷ []

-- those for a target
abbrev pub orders_by : Way → Target → Option Bic → List Order
orders_by way (Bank bank field) via = next_orders way bank field via
orders_by way _ via = []

-- a notice to the bank whose vostro account is debited
abbrev pub notices_of : Account → List Order
notices_of account = if account.kind == vostro then order.Debit account.owner 1 ∷ [] else []

-- the notice comes last
abbrev pub orders_of : Way → Target → Option Bic → Account → List Order
orders_of way target via debited = orders_by way target via ++ notices_of debited
