-- The pay of a message, or the first test that it fails.
use Rattle.std.specs.Prelude.{ℕ, not, List, [], Option, Some, None, Result, Ok, unwrap_or}
use Rattle.std.specs.Option.{option_map_or}
use Rattle.corr_text.specs.Answers as answers
use Rattle.corr_text.specs.Codes.{code}
use Rattle.corr_text.specs.First.{check, ◌>>=◌}
use Rattle.corr_text.specs.declared.fault.Code.{Code}
use Rattle.corr_ids.specs.declared.envelope.Envelope.{Envelope}
use Rattle.corr_ids.specs.declared.mir.Mir.{Mir}
use Rattle.day_model.specs.Chart.{Chart, account_at}
use Rattle.day_model.specs.declared.pay.Order.{Order}
use Rattle.day_model.specs.declared.pay.Pay.{Pay}
use Rattle.ssi_versions.specs.declared.row.SsiRow.{SsiRow}
use Rattle.routing.specs.Route.{route_of}
use Rattle.routing.specs.declared.routed.Routed.{Routed}
use Rattle.routing.specs.declared.target.Target.{Target}
use Rattle.pay_plan.specs.declared.ask.Ask.{Ask}
use Rattle.pay_plan.specs.declared.charging.Charged.{Charged}
use Rattle.pay_plan.specs.Asked.{Asked}
use Rattle.pay_plan.specs.Charging.{ChargeRows, charge_of}
use Rattle.pay_plan.specs.declared.fault.PlanFault.{PlanFault}
use Rattle.pay_plan.specs.declared.fault.PlanFault.TheVariants as fault
use Rattle.pay_plan.specs.declared.way.Way.{Way}
use Rattle.pay_plan.specs.Asked.{asked_of, is_for_home}
use Rattle.pay_plan.specs.Orders.{orders_of}
use Rattle.pay_plan.specs.Pay.{legs_of}
use Rattle.pay_plan.specs.Way.{way_of}

-- the reference of a received message
abbrev pub mir_of_envelope : Envelope → Mir
mir_of_envelope env = unwrap_or env.mir (record { 0 = [] })

-- the orders of a payment whose debit falls on an account of the book
abbrev pub orders_in : Chart → Way → Target → Routed → List Order
orders_in chart way target routed = option_map_or (orders_of way target routed.via) (account_at chart routed.debit.0) []

-- what a message asks, booked on the accounts of its route, with the charge that is taken out of it
abbrev pub pay_of : Envelope → List ℕ → Asked → Charged → Chart → Pay
pay_of env text asked charged chart =
    let way = way_of asked.mt asked.target charged.routed.method in
    record {
      mir = mir_of_envelope env;
      mt = asked.mt;
      uetr = env.uetr;
      text = text;
      value = asked.value;
      legs = legs_of way asked charged;
      orders = orders_in chart way asked.target charged.routed;
    }

-- the route of what a message asks
abbrev pub route_asked : Envelope → Asked → List SsiRow → Chart → Result Routed Code
route_asked env asked rows chart = route_of env.sender asked.amount asked.value asked.cover asked.target rows chart

-- the accounts of a message and its charge, or the code of the first test that it fails: a cover for the home bank is refused before
-- its accounts are looked for, and the charge is looked at last
abbrev pub accounts_of : Envelope → Ask → List SsiRow → ChargeRows → Chart → Result Charged Code
accounts_of env ask rows charges chart = do
  _ ← check (not (is_for_home chart.home ask)) (code "P34")
  routed ← route_asked env (asked_of chart.home ask) rows chart
  charge ← charge_of ask charges chart
  Ok (record { routed = routed; charge = charge })

-- what a message asks, booked on the accounts that it has, or the code with which it has none
abbrev pub booked : Envelope → List ℕ → Ask → Chart → Result Charged Code → Result Pay Code
booked env text ask chart accounts = do
  charged ← accounts
  Ok (pay_of env text (asked_of chart.home ask) charged chart)

-- what a message asks, booked on its accounts
unfoldable pub plan_of : Envelope → List ℕ → Ask → List SsiRow → ChargeRows → Chart → Result Pay Code
plan_of env text ask rows charges chart = booked env text ask chart (accounts_of env ask rows charges chart)

-- the code that a refusal tells, none where memory is out
abbrev pub told : PlanFault → Option Code
told (fault.Code code) = Some code
told fault.Memory = None

-- what is answered is the plan
abbrev pub Plans : Result Pay PlanFault → Result Pay Code → Type 0
Plans result plan = answers.Answers told plan result
