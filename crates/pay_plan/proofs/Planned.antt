-- A plan step by step.
use Rattle.std.proofs.Common.{◌≡◌, ℕ, true, false, IfOk, List, Option, Some, Result, Ok, Err, refl, sym, ap, ◌∙◌, subst}
use Rattle.std.specs.Prelude.{IsErrAnd, IsSome, OnOk}
use Rattle.corr_text.specs.Codes.{code}
use Rattle.corr_text.specs.declared.fault.Code.{Code}
use Rattle.corr_text.specs.declared.memory.Memory.{Memory}
use Rattle.corr_ids.specs.declared.bic.Bic.{Bic}
use Rattle.corr_ids.specs.declared.envelope.Envelope.{Envelope}
use Rattle.corr_ids.specs.declared.mir.Mir.{Mir}
use Rattle.day_model.specs.Chart.{Chart}
use Rattle.day_model.specs.declared.pay.Pay.{Pay}
use Rattle.ssi_versions.specs.declared.row.SsiRow.{SsiRow}
use Rattle.routing.specs.declared.routed.Routed.{Routed}
use Rattle.pay_plan.specs.declared.ask.Ask.{Ask}
use Rattle.pay_plan.specs.declared.ask.Ask.TheVariants as asks
use Rattle.pay_plan.specs.declared.fault.PlanFault.{PlanFault}
use Rattle.pay_plan.specs.declared.fault.PlanFault.TheVariants as fault
use Rattle.pay_plan.specs.Asked.{Asked, amount_in, asked_of, is_for_home}
use Rattle.pay_plan.specs.Charging.{ChargeRows, charge_of}
use Rattle.pay_plan.specs.declared.charging.Charge.{Charge}
use Rattle.pay_plan.specs.declared.charging.Charged.{Charged}
use Rattle.pay_plan.specs.Plan.{Plans, accounts_of, booked, plan_of, route_asked}
use Rattle.pay_plan.specs.inner.Plan.{Refuses}
use Rattle.corr_text.specs.First.{◌>>=◌}

-- a cover for the home bank has no accounts
pub home-alone : (env : Envelope) (ask : Ask) (rows : List SsiRow) (charges : ChargeRows) (chart : Chart) (home : Bic) → home ≡ chart.home →
    is_for_home home ask ≡ true → Err (code "P34") ≡ accounts_of env ask rows charges chart
home-alone env ask rows charges chart home home_is named =
    let at : is_for_home chart.home ask ≡ true = ap (λ (h : Bic). is_for_home h ask) (sym home_is) ∙ named in
    rw at refl

-- what isn't a cover for the home bank, whose BIC is this
not-home : (ask : Ask) (chart : Chart) (home : Bic) → home ≡ chart.home → is_for_home home ask ≡ false → is_for_home chart.home ask ≡ false
not-home ask chart home home_is named = ap (λ (h : Bic). is_for_home h ask) (sym home_is) ∙ named

-- a route, and then a charge
abbrev then_charged : Result Routed Code → Result (Option Charge) Code → Result Charged Code
then_charged route charge = do
  routed ← route
  taken ← charge
  Ok (record { routed = routed; charge = taken })

-- the accounts, by the route and the charge
on-route : (env : Envelope) (ask : Ask) (rows : List SsiRow) (charges : ChargeRows) (chart : Chart) (route : Result Routed Code) (charge : Result (Option Charge) Code) →
    is_for_home chart.home ask ≡ false → route_asked env (asked_of chart.home ask) rows chart ≡ route → charge_of ask charges chart ≡ charge
    → then_charged route charge ≡ accounts_of env ask rows charges chart
on-route env ask rows charges chart route charge apart found taken = rw (apart, found, taken) refl

-- the route of what is asked is that of what the message asks
asked-route : (env : Envelope) (ask : Ask) (asked : Asked) (rows : List SsiRow) (chart : Chart) (route : Result Routed Code) →
    asked ≡ asked_of chart.home ask → route ≡ route_asked env asked rows chart → route_asked env (asked_of chart.home ask) rows chart ≡ route
asked-route env ask asked rows chart route is found = sym (found ∙ ap (λ (a : Asked). route_asked env a rows chart) is)

-- a message whose route is refused is refused so
pub refused-route : (env : Envelope) (ask : Ask) (asked : Asked) (rows : List SsiRow) (charges : ChargeRows) (chart : Chart) (home : Bic) (r : Result Charged Code) (why : Code) →
    asked ≡ asked_of chart.home ask → home ≡ chart.home → is_for_home home ask ≡ false → Err why ≡ route_asked env asked rows chart → IsErrAnd r (λ e. e ≡ why) → r ≡ accounts_of env ask rows charges chart
refused-route env ask asked rows charges chart home (Ok x) why asked_is home_is named found is = absurd is
refused-route env ask asked rows charges chart home (Err e) why asked_is home_is named found is =
    let apart = not-home ask chart home home_is named in
    rw is (on-route env ask rows charges chart (Err why) (charge_of ask charges chart) apart (asked-route env ask asked rows chart (Err why) asked_is found) refl)

-- and one whose charge is
pub refused-charge : (env : Envelope) (ask : Ask) (asked : Asked) (rows : List SsiRow) (charges : ChargeRows) (chart : Chart) (home : Bic) (routed : Routed) (r : Result Charged Code) (why : Code) →
    asked ≡ asked_of chart.home ask → home ≡ chart.home → is_for_home home ask ≡ false → Ok routed ≡ route_asked env asked rows chart → Err why ≡ charge_of ask charges chart → IsErrAnd r (λ e. e ≡ why)
    → r ≡ accounts_of env ask rows charges chart
refused-charge env ask asked rows charges chart home routed (Ok x) why asked_is home_is named found taken is = absurd is
refused-charge env ask asked rows charges chart home routed (Err e) why asked_is home_is named found taken is =
    let apart = not-home ask chart home home_is named in
    rw is (on-route env ask rows charges chart (Ok routed) (Err why) apart (asked-route env ask asked rows chart (Ok routed) asked_is found) (sym taken))

-- one that has both has these accounts
pub charged-route : (env : Envelope) (ask : Ask) (asked : Asked) (rows : List SsiRow) (charges : ChargeRows) (chart : Chart) (home : Bic) (routed : Routed) (charge : Option Charge) →
    asked ≡ asked_of chart.home ask → home ≡ chart.home → is_for_home home ask ≡ false → Ok routed ≡ route_asked env asked rows chart → Ok charge ≡ charge_of ask charges chart
    → Ok (record { routed = routed; charge = charge }) ≡ accounts_of env ask rows charges chart
charged-route env ask asked rows charges chart home routed charge asked_is home_is named found taken =
    on-route env ask rows charges chart (Ok routed) (Ok charge) (not-home ask chart home home_is named) (asked-route env ask asked rows chart (Ok routed) asked_is found) (sym taken)

-- the plan, by the accounts
pub plan-by : (env : Envelope) (text : List ℕ) (ask : Ask) (rows : List SsiRow) (charges : ChargeRows) (chart : Chart) (accounts : Result Charged Code) →
    accounts ≡ accounts_of env ask rows charges chart → plan_of env text ask rows charges chart ≡ booked env text ask chart accounts
unfolding plan_of
plan-by env text ask rows charges chart accounts is = ap (booked env text ask chart) (sym is)

-- the amount that is asked is the message's
pub amount-asked : (home : Bic) (ask : Ask) → amount_in ask ≡ (asked_of home ask).amount
amount-asked home (asks.Transfer m) = refl
amount-asked home (asks.Cover m) = refl

-- a pay that is the plan's
pub planned : (pay asked : Pay) (plan : Result Pay Code) → pay ≡ asked → plan ≡ Ok asked → Plans (Ok pay) plan
planned pay asked plan is at = at ∙ ap (λ (p : Pay). Ok p) (sym is)

-- what a pay has, where it is made
pub on-pay : (r : Result Pay Memory) (pay : Pay) (P : Pay → Type 0) {S O : Type 0} → IfOk r (λ x. x ≡ pay) → OnOk r S → OnOk r O → (S → O → P pay) → IfOk r P
on-pay (Ok x) pay P is sound owner h = subst P (sym is) (h sound owner)
on-pay (Err e) pay P is sound owner h = tt

-- a fault of a code tells a plan that is refused with it
pub refused-by : (r : Result Pay PlanFault) (code : Code) (plan : Result Pay Code) → IsErrAnd r (λ e. e ≡ fault.Code code) → plan ≡ Err code → Plans r plan
refused-by (Ok pay) code plan bad at = absurd bad
refused-by (Err e) code plan is at = let P : PlanFault → Type 0 = λ f. Refuses f plan in subst P (sym is) at

-- a message that has a reference was received
pub received : (env : Envelope) (mir : Mir) → env.mir ≡ Some mir → IsSome env.mir
received env mir is = subst IsSome (sym is) refl
